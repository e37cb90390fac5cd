-- The number of the last line that is whole is that of the last record: a line has one newline, at its end. Assumes nothing.
use Prim.Native.Nat.{ℕ, zero, suc, ◌+◌, ◌/◌, ◌%◌}
use mathlib.Core.Path.{◌≡◌, refl, ap, ◌∙◌}
use mathlib.Core.Logic.{◌≢◌}
use mathlib.Core.Bool.{Bool, true, false, cond}
use mathlib.Core.List.{List, [], ◌∷◌, ◌++◌, append_assoc}
use native.Mathlib.Omega.{arith}
use borrow.Author.Tests.{ne_eqb}
use lib.Dec.{eqb, ltb}
use Rattle.std.specs.Prelude.{Option, None, Some}
use Rattle.std.specs.Option.{option_map}
use Rattle.refusals.specs.declared.Record.{Record}
use Rattle.locks.specs.Answers.{answer_of}
use Rattle.locks.specs.declared.Done.{Done}
use Rattle.listing.specs.Text.{digits, decimal, dash_or, bytes, space, newline}
use Rattle.drill.specs.declared.Bench.{Bench}
use Rattle.drill.specs.Drill.{next, answer_line}
use Rattle.drill.specs.Bytes.{bench, held, completed, line_of, after_any, fed, said, bytes_of, after, out}
use Rattle.drill.specs.Parts.{counted, last_whole}

-- xs has no newline, so that it completes no line
record NoNewline (xs : List ℕ) : Type 0 where
  passed : (n : ℕ) (ys : List ℕ) → last_whole n (xs ++ ys) ≡ last_whole n ys

none : NoNewline []
none = record { passed = λ n ys. refl }

not_counted : (n b : ℕ) → b ≢ 10 → counted n b ≡ n
unfolding counted
not_counted n b h = rw (ne_eqb b 10 h)

one : (b : ℕ) {xs : List ℕ} → b ≢ 10 → NoNewline xs → NoNewline (b ∷ xs)
unfolding last_whole
one b {xs} h k = record { passed = λ n ys. ap (λ (m : ℕ). last_whole m (xs ++ ys)) (not_counted n b h) ∙ k.passed n ys }

-- what has no newline is passed over
over : {xs : List ℕ} (m : ℕ) (rest ys : List ℕ) {r : ℕ} → NoNewline xs → last_whole m (rest ++ ys) ≡ r → last_whole m ((xs ++ rest) ++ ys) ≡ r
over {xs} m rest ys h e = rw (append_assoc xs rest ys) (h.passed m (rest ++ ys) ∙ e)

both : {xs zs : List ℕ} → NoNewline xs → NoNewline zs → NoNewline (xs ++ zs)
both {xs} {zs} h k = record { passed = λ n ys. over n zs ys h (k.passed n ys) }

no_digit : (steps n : ℕ) → NoNewline (digits steps n)
unfolding digits
no_digit zero n = none
no_digit (suc steps) n = both (go (ltb n 10) (no_digit steps (n / 10))) (one (48 + n % 10) (λ e. absurd (omega arith)) none)
  where
    go : (b : Bool) → NoNewline (digits steps (n / 10)) → NoNewline (cond b [] (digits steps (n / 10)))
    go true h = none
    go false h = h

no_number : (n : ℕ) → NoNewline (decimal n)
unfolding decimal
no_number n = no_digit (suc n) n

no_thread : (x : ℕ) → NoNewline (dash_or x)
unfolding dash_or
no_thread x = go (eqb x 32)
  where
    go : (b : Bool) → NoNewline (cond b (bytes "-") (decimal x))
    go true = one 45 (λ e. absurd (omega arith)) none
    go false = no_number x

no_space : NoNewline space
no_space = one 32 (λ e. absurd (omega arith)) none

the_newline : (m : ℕ) (ys : List ℕ) → last_whole m (newline ++ ys) ≡ last_whole (next m) ys
unfolding last_whole counted
the_newline m ys = refl

-- a record's line is one line
a_line : (m n : ℕ) (d : Done) (ys : List ℕ) → last_whole m (answer_line n d ++ ys) ≡ last_whole (next m) ys
unfolding answer_line
a_line m n d ys =
    let a = d.answer in
    let coded = both (both (no_number n) no_space) (no_number a.number) in
    let ran = both (both coded no_space) (no_thread a.running) in
    over m newline ys (both (both ran no_space) (no_number a.count)) (the_newline m ys)

-- one byte of the input: it completes a line just when it completes a record
a_byte : (s : Bench) (b : ℕ) (ys : List ℕ) → last_whole s.number (bytes_of (said s b) ++ ys) ≡ last_whole (fed s b).number ys
unfolding said fed
a_byte s b ys = go (completed s.pending b)
  where
    go : (e : Option Record) → last_whole s.number (bytes_of (option_map (line_of s) e) ++ ys) ≡ last_whole (after_any (bench s.table s.number (held s.pending b)) e).number ys
    go None = refl
    go (Some e) = a_line s.number (next s.number) (answer_of s.table e) ys

-- The lines of an input are whole up to the last record that it completes.
pub all_whole : (s : Bench) (input : List ℕ) → last_whole s.number (out s input) ≡ (after s input).number
unfolding out after last_whole
all_whole s [] = refl
all_whole s (b ∷ bs) = a_byte s b (out (fed s b) bs) ∙ all_whole (fed s b) bs
