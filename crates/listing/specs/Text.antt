-- The bench listing's lines, byte by byte. Assumes nothing.
use Rattle.std.specs.Prelude.{ℕ, zero, suc, ◌+◌, ◌/◌, ◌%◌, cond, List, [], ◌∷◌, ◌++◌, eqb, ltb}
use Prim.Native.Char.{code}
use Prim.Native.String.{String, [] as end, ◌∷◌ as ◌then◌}

-- the bytes of a text of plain characters, which are all below 128: the code of each
abbrev pub bytes : String → List ℕ
bytes end = []
bytes (c then s) = code c ∷ bytes s

-- the last digits of a number, at most as many as there are steps; '0' is the byte 48
unfoldable pub digits : ℕ → ℕ → List ℕ
digits zero n = []
digits (suc steps) n = cond (ltb n 10) [] (digits steps (n / 10)) ++ (48 + n % 10) ∷ []

-- a number in decimal, with no zero in front; there are never more digits than n + 1
unfoldable pub decimal : ℕ → List ℕ
decimal n = digits (suc n) n

-- a thread's number, or `-` for 32, which stands for no thread
unfoldable pub dash_or : ℕ → List ℕ
dash_or x = cond (eqb x 32) (bytes "-") (decimal x)

-- a single space, and what ends each line
abbrev pub space : List ℕ
space = bytes " "

abbrev pub newline : List ℕ
newline = bytes "\n"

-- the header `n code run count`
abbrev pub header : List ℕ
header = bytes "n code run count" ++ newline

-- a record's line: its number, the refusal number, the running thread or `-`, the count; single spaces between
abbrev pub line : ℕ → ℕ → ℕ → ℕ → List ℕ
line n code run count =
    decimal n ++ space ++ decimal code ++ space ++ dash_or run ++ space ++ decimal count ++ newline

-- a last line: a word, a single space and a number
abbrev pub last_line : String → ℕ → List ℕ
last_line word n = bytes word ++ space ++ decimal n ++ newline

-- bytes left over give a last line `tail` and how many
abbrev pub tail_line : ℕ → List ℕ
tail_line k = last_line "tail" k

-- a refusal that stops the reading of a log gives a last line `stop` and its number
abbrev pub stop_line : ℕ → List ℕ
stop_line n = last_line "stop" n
