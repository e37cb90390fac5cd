-- The walk of the count, a thread at a time: where it stops and how many it counts. Assumes nothing.
use Prim.Native.Nat.{ℕ, zero, suc, ◌+◌, ◌≤◌}
use mathlib.Core.Path.{◌≡◌, refl, ap, ◌∙◌}
use mathlib.Core.Bool.{Bool, true, false, cond, ◌||◌, false≢true}
use mathlib.Core.Logic.{◌⊎◌, inl, inr, ⊎_elim}
use native.Mathlib.Omega.{arith}
use lib.Dec.{eqb}
use Rattle.protocol.proofs.Chains.{Climb, stop, hop}
use Rattle.table.specs.declared.Table.{Table}
use Rattle.table.specs.Compute.{same, current, waits_for, blocker}
use Rattle.table.proofs.Tests.Reflect.{Tells, tells_eq, tells_either, tells_same}
use Rattle.table.proofs.Tests.Computed.{child_blocker, blocker_cases}
use Rattle.table.proofs.Values.Values.{Good, hops, resource_low}
use Rattle.events.specs.Count.{walk}

-- b is the table before the event and a the one after it
module _ (b a : Table) where
  -- the walk stops at x
  abbrev pub Stops : ℕ → Type 0
  Stops x = (current b x ≡ current a x) ⊎ (waits_for a x ≡ 16)

  -- from x it counts n threads, if it may count so many
  abbrev pub Counts : ℕ → ℕ → Type 0
  Counts x n = (m : ℕ) → n ≤ m → walk m b a x ≡ n

  tells_stops : (x : ℕ) → Tells (same (current b x) (current a x) || eqb (waits_for a x) 16) (Stops x)
  tells_stops x = tells_either (tells_same (current b x) (current a x)) (tells_eq (waits_for a x) 16)

  -- it counts x alone, or x and what it counts from whom x waits for
  step : (m x : ℕ) → (Stops x × (walk (suc m) b a x ≡ 1)) ⊎ ((¬ Stops x) × (walk (suc m) b a x ≡ suc (walk m b a (blocker a x))))
  unfolding walk
  step m x = go (same (current b x) (current a x) || eqb (waits_for a x) 16) (tells_stops x)
    where
      above : ℕ
      above = walk m b a (blocker a x)

      go : (s : Bool) → Tells s (Stops x) → (Stops x × (cond s 1 (1 + above) ≡ 1)) ⊎ ((¬ Stops x) × (cond s 1 (1 + above) ≡ suc above))
      go true t = inl (t.0 refl, refl)
      go false t = inr ((λ s. false≢true (t.1 s)), omega arith)

  pub counts_one : (x : ℕ) → Stops x → Counts x 1
  counts_one x s zero h = absurd (omega arith)
  counts_one x s (suc m) h = ⊎_elim (λ w. w.1) (λ w. absurd (w.0 s)) (step m x)

  pub counts_on : (x n : ℕ) → ¬ Stops x → Counts (blocker a x) n → Counts x (suc n)
  counts_on x n d above zero h = absurd (omega arith)
  counts_on x n d above (suc m) h = ⊎_elim (λ w. absurd (d w.0)) (λ w. w.1 ∙ ap suc (above m (omega arith))) (step m x)

  -- it counts no more threads than the way from x passes, and x
  module _ (g : Good a) where
    pub walk_short : {x n : ℕ} → Climb (hops a g) x n → (m : ℕ) → walk m b a x ≤ suc n
    unfolding walk
    walk_short c zero = omega arith
    walk_short (stop {t = x} f) (suc m) = omega (arith, counts_one x (inr free) (suc m) (omega arith))
      where
        free : waits_for a x ≡ 16
        free = ⊎_elim {C = waits_for a x ≡ 16} (λ k. absurd (f (blocker a x) k.1)) (λ k. k.0) (blocker_cases a g.bare.one_wait (resource_low a g) x)
    walk_short (hop {t = x} {h = v} {n = n} j c) (suc m) =
        let on = rw (← child_blocker a g.bare.one_wait (resource_low a g) x v j) at (walk_short c m) in
        ⊎_elim (λ w. omega (arith, w.1)) (λ w. omega (arith, w.1)) (step m x)

    pub counts_short : {x n : ℕ} → Climb (hops a g) x n → (k : ℕ) → Counts x k → k ≤ suc n
    counts_short c k counts = omega (arith, walk_short c k, counts k (omega arith))
