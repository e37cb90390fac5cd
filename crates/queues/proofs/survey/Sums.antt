-- A sum is that of its first terms exactly where the others are zero. Assumes nothing.
use Prim.Native.Nat.{ℕ, ◌+◌, ◌-◌, ◌≤◌, ◌<◌}
use mathlib.Core.Path.{◌≡◌, sym, ◌∙◌}
use mathlib.Core.Logic.{◌↔◌}
use mathlib.Core.List.{List}
use native.Mathlib.Omega.{arith}
use lib.ListN.{length, take, drop, length-drop}
use lib.Seq.{get_or-drop}
use Rattle.std.specs.List.{sum}
use Rattle.std.proofs.lemmas.List.Sums.{sum_by-take-drop, get_or-le-sum_by, sum_by-le}
use Rattle.std.proofs.lemmas.List.Elements.{All-from_get_or}
use Rattle.table.specs.Table.{at}

pub rest_zero : (xs : List ℕ) (n : ℕ) → (sum xs ≡ sum (take n xs)) ↔ ((i : ℕ) → n ≤ i → i < length xs → at xs i ≡ 0)
rest_zero xs n = (
  λ e i l h. let a : i ≡ n + (i - n) = omega arith in
      let z : at (drop n xs) (i - n) ≤ sum (drop n xs) = get_or-le-sum_by (λ x. x) (drop n xs) (i - n) 0 (omega (arith, length-drop n xs)) in
      rw a (sym (get_or-drop n xs (i - n) 0) ∙ omega (arith, z, split)),
  λ z. let none = sum_by-le (λ x. x) 0 (drop n xs) (All-from_get_or (λ x. x ≤ 0) (drop n xs) 0 (λ i h. rw get_or-drop (omega (arith, z (n + i) (omega arith) (omega (arith, length-drop n xs)))))) in
      omega (arith, split, none),
)
  where
    split : sum (take n xs) + sum (drop n xs) ≡ sum xs
    split = sum_by-take-drop (λ x. x) xs n
