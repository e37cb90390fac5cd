-- A queue cut out of the places: its first entry, and those that wait. Assumes nothing.
use Prim.Native.Nat.{ℕ, ◌+◌, ◌*◌, ◌-◌, ◌≤◌, ◌<◌}
use mathlib.Core.Path.{◌≡◌, refl, sym, ap, ◌∙◌}
use mathlib.Core.Logic.{inr}
use mathlib.Core.List.{List, ◌∷◌}
use native.Mathlib.Numerals.{add-one}
use native.Mathlib.Omega.{arith}
use lib.ListN.{length, take, drop}
use Rattle.table.specs.Table.{at}
use Rattle.table.specs.Code.Places.{entry}
use Rattle.table.proofs.Arrays.Places.{part_length, part_at}

-- the n entries of r are the head and those that wait
pub record Cut (queue : List ℕ) (r n head : ℕ) (waiters : List ℕ) : Type 0 where
  pub many : length waiters + 1 ≡ n
  pub first : entry queue r 0 ≡ head
  pub next : (i : ℕ) → i < length waiters → entry queue r (i + 1) ≡ at waiters i

pub cut_out : (queue : List ℕ) (r n a k : ℕ) {head : ℕ} {waiters : List ℕ} → a ≡ r → k ≡ a * 32 + n → a * 32 + n ≤ length queue → take (k - a * 32) (drop (a * 32) queue) ≡ head ∷ waiters → Cut queue r n head waiters
cut_out queue r n a k {head} {waiters} start many inside cut = record {
  many = many_are;
  first = place 0 (omega (arith, many_are));
  next = λ i l. place (i + 1) (omega (arith, many_are)) ∙ rw add-one refl;
}
  where
    fits : a * 32 + (k - a * 32) ≤ length queue
    fits = omega arith

    many_are : length waiters + 1 ≡ n
    many_are = omega (arith, ap length cut, part_length queue (a * 32) (k - a * 32) (inr fits))

    place : (i : ℕ) → i < n → entry queue r i ≡ at (head ∷ waiters) i
    place i h = rw (← start) (sym (part_at queue (a * 32) (k - a * 32) (inr fits) i (omega arith)) ∙ ap (λ (xs : List ℕ). at xs i) cut)
