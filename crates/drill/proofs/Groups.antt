-- The bytes one at a time give the lines of the groups of four. Assumes nothing.
use Prim.Native.Nat.{ℕ}
use mathlib.Core.Path.{◌≡◌, refl, ap, ◌∙◌}
use mathlib.Core.List.{List, [], ◌∷◌, ◌++◌, append_assoc}
use Rattle.table.specs.declared.Table.{Table}
use Rattle.table.specs.Table.{empty}
use Rattle.locks.specs.Answers.{answer_of}
use Rattle.listing.specs.Text.{header}
use Rattle.drill.specs.declared.Bench.{Bench}
use Rattle.drill.specs.declared.Pending.TheVariants.{Nothing}
use Rattle.drill.specs.Drill.{next, answer_line, record_of, lines, listing}
use Rattle.drill.specs.Bytes.{bench, start, held, completed, fed, said, bytes_of, after, out, ending}

-- all that is written for an input from the bench s: the lines of its records and then the ending
pub written : Bench → List ℕ → List ℕ
written s input = out s input ++ bytes_of (ending (after s input))

pub written_lines : (t : Table) (n : ℕ) (input : List ℕ) → written (bench t n Nothing) input ≡ lines t n input
unfolding written lines after out ending fed said held completed
written_lines t n [] = refl
written_lines t n (a ∷ []) = refl
written_lines t n (a ∷ (b ∷ [])) = refl
written_lines t n (a ∷ (b ∷ (c ∷ []))) = refl
written_lines t n (a ∷ (b ∷ (c ∷ (d ∷ rest)))) =
    let done = answer_of t (record_of a b c d) in
    let this = answer_line (next n) done in
    append_assoc this (out (bench done.table (next n) Nothing) rest) (bytes_of (ending (after (bench done.table (next n) Nothing) rest))) ∙ ap (λ (r : List ℕ). this ++ r) (written_lines done.table (next n) rest)

-- The header, the lines of all parts from the start, and the ending are the listing.
pub is_listing : (input : List ℕ) → header ++ written start input ≡ listing input
unfolding listing
is_listing input = ap (λ (r : List ℕ). header ++ r) (written_lines empty 0 input)
