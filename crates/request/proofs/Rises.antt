-- Where a number comes in and all others stay, the highest is the higher of what it was and that number: so in a P numbers rise to the
-- requester's, from holder to holder. Assumes nothing.
use Prim.Native.Nat.{ℕ, suc, ◌≤◌, ◌<◌, max}
use mathlib.Core.Path.{◌≡◌, refl, sym, ap, ◌∙◌}
use mathlib.Core.List.{List}
use mathlib.Core.Logic.{◌≢◌, ◌⊎◌, inl, inr, ⊎_elim, by_cases}
use native.Mathlib.Decide.{ℕ_discrete}
use native.Mathlib.Omega.{arith}
use lib.ListN.{length, set, length-set}
use lib.Seq.{get_or-set_same, get_or-set_other}
use Rattle.protocol.specs.Sets.{SetOf, ◌∈◌, only, ◌∪◌, image, Max}
use Rattle.protocol.proofs.Chains.{Climb, stop, hop, direct}
use Rattle.protocol.proofs.LocalLaw.{Local}
use Rattle.table.specs.declared.Table.{Table}
use Rattle.table.specs.Table.{at}
use Rattle.table.specs.Compute.{blocker}
use Rattle.table.proofs.Tests.Computed.{child_blocker}
use Rattle.table.proofs.Values.Numbers.{≤_total}
use Rattle.table.proofs.Values.Values.{Good, resource_low, thread_low, hops, own_rank, acyclic, StandsAt, walk_goes_on}
use Rattle.request.specs.Climb.{Rising, rises}
use Rattle.request.proofs.Walked.{Walks, law_gives, gives_afresh, up}

-- from the numbers c of A to the numbers e of B: x comes in with v, and only numbers below v go
module _ {A B : SetOf ℕ} {o m v x : ℕ} (c e : ℕ → ℕ) (top : Max ◌≤◌ (only o ∪ image c A) m) (new : x ∈ B) (there : e x ≡ v)
    (from : (u : ℕ) → u ∈ B → ((u ∈ A) × (e u ≡ c u)) ⊎ (u ≡ x)) (to : (u : ℕ) → u ∈ A → ((u ∈ B) × (e u ≡ c u)) ⊎ (c u < v)) where
  -- then the highest is the higher of what it was and v
  pub comes_in : Max ◌≤◌ (only o ∪ image e B) (max m v)
  comes_in = record { among = highest (≤_total.either v m); bound = below }
    where
      below : (n : ℕ) → n ∈ (only o ∪ image e B) → n ≤ max m v
      below n (inl q) = omega (arith, top.bound n (inl q))
      below n (inr (u, j, q)) = ⊎_elim (λ w. omega (arith, top.bound (c u) (inr (u, w.0, refl)), w.1)) (λ s. omega (arith, ap e s)) (from u j)

      kept : (n : ℕ) → v ≤ n → n ∈ (only o ∪ image c A) → n ∈ (only o ∪ image e B)
      kept n h (inl q) = inl q
      kept n h (inr (u, j, q)) = ⊎_elim (λ w. inr (u, w.0, q ∙ sym w.1)) (λ l. absurd (omega arith)) (to u j)

      highest : (v ≤ m) ⊎ (m ≤ v) → max m v ∈ (only o ∪ image e B)
      highest (inl h) = let s : max m v ≡ m = omega (arith, h) in rw s (kept m h top.among)
      highest (inr h) = let s : max m v ≡ v = omega (arith, h) in rw s (inr (x, new, sym there))

module _ {b a : Table} {gb : Good b} {g : Good a} {waiting holders owns : List ℕ} {before : ℕ → ℕ} (k : Walks b a gb g waiting holders owns before) (v : ℕ) where
  -- the walk stands at x, which is to have the higher of its number and v: so it is all the way up
  pub rising : {x n : ℕ} → Climb (hops a g) x n → (c : List ℕ) → length c ≡ 32 → StandsAt a g before (at c) x → Local ◌≤◌ (hops a g) (own_rank a g) (at c) x (max (at c x) v) →
      Rising a.rows.queue a.rows.length holders waiting owns v c x (suc n)
  rising (stop {t = x} f) c size w m = rises (thread_low a g x w.here) (law_gives k c x (max (at c x) v) w.here m) (λ rose low. absurd (f (blocker a x) (up k x w.here low).1))
  rising (hop {t = x} {h = h} {n = n} j r) c size w m = rises {c = c} {x = x} {k = suc n} (thread_low a g x w.here) (law_gives k c x (max (at c x) v) w.here m)
      (λ rose low. rw ((up k x w.here low).0 ∙ child_blocker a g.bare.one_wait (resource_low a g) x h j) (rising r (set c x v) (length-set c x v ∙ size) (next rose) (higher rose)))
    where
      stored : at (set c x v) x ≡ v
      stored = get_or-set_same c x v 0 (omega (arith, size, thread_low a g x w.here))

      next : at c x < v → StandsAt a g before (at (set c x v)) h
      next rose =
          let e : max (at c x) v ≡ v = omega (arith, rose) in
          walk_goes_on a g before (at c) (at (set c x v)) x w (gives_afresh k c x v size w.here (law_gives k c x v w.here (rw e at m))) h j

      apart : h ≢ x
      apart q = acyclic a g x (direct (rw q at j))

      -- x has risen to v, and so its holder is to have the higher of its number and v
      higher : at c x < v → Local ◌≤◌ (hops a g) (own_rank a g) (at (set c x v)) h (max (at (set c x v) h) v)
      higher rose = rw (get_or-set_other c x h v 0 apart) (comes_in (at c) (at (set c x v)) (w.others h (next rose).here apart) j stored
          (λ u i. by_cases (ℕ_discrete u x) inr (λ d. inl (i, get_or-set_other c x u v 0 d)))
          (λ u i. by_cases (ℕ_discrete u x) (λ s. inr (rw s rose)) (λ d. inl (i, get_or-set_other c x u v 0 d))))
