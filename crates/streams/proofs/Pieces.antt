-- What is written piece by piece is written in a row. Assumes nothing.
use Rattle.std.proofs.Common.{ℕ, ◌+◌, ◌-◌, ◌≤◌, List, Option, length, take, drop, length-take, length-drop, arith}
use lib.Seq.{take-add, take-take}
use Rattle.std.specs.Io.KnownBytes.{Appends}
use Rattle.std.proofs.KnownBytes.{Appends-trans}

-- Of the bytes d are written. Of what is left n are written next.
pub next_piece : (a b c : Option (List ℕ)) {n : ℕ} (d : ℕ) (bytes : List ℕ) → let rest = take (length bytes - d) (drop d bytes) in
    d ≤ length bytes → n ≤ length rest → Appends a b (take d bytes) → Appends b c (take n rest) → (d + n ≤ length bytes) × Appends a c (take (d + n) bytes)
next_piece a b c {n} d bytes l h p q =
    let few : n ≤ length bytes - d = omega (arith, h, length-take (length bytes - d) (drop d bytes), length-drop d bytes) in
    (omega (arith, few, l), rw (take-add d n bytes, ← take-take n (length bytes - d) (drop d bytes) few) (Appends-trans a b c (take d bytes) (take n (take (length bytes - d) (drop d bytes))) p q))
