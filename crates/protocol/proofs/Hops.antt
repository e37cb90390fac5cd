-- What becomes of climbs and dependences when hops are added or moved. Assumes nothing.
use Prim.Native.Nat.{ℕ, zero, suc}
use mathlib.Core.Path.{◌≡◌, sym, subst}
use mathlib.Core.Logic.{◌≢◌, ◌⊎◌, inl, inr, ⊎_elim}
use native.Mathlib.Decide.{ℕ_discrete}
use Rattle.protocol.specs.Sets.{◌∈◌}
use Rattle.protocol.proofs.Chains.{Hops, Depends, direct, through, Reach, Free, Climb, stop, hop, Ends, reach_hop, hop_reach}

-- every hop is kept
module _ (old new : Hops) (to : (u v : ℕ) → u ∈ old v → u ∈ new v) where
  pub depends_map : {u t : ℕ} → Depends old u t → Depends new u t
  depends_map (direct k) = direct (to _ _ k)
  depends_map (through d k) = through (depends_map d) (to _ _ k)

  pub climb_map : ((u v : ℕ) → u ∈ new v → u ∈ old v) → {t n : ℕ} → Climb old t n → Climb new t n
  climb_map from (stop f) = stop (λ v k. f v (from _ v k))
  climb_map from (hop k c) = hop (to _ _ k) (climb_map from c)

-- every hop is kept but those to b, which waits for nobody: whoever depends on another depends on it still
module _ (old new : Hops) (b : ℕ) (free : Free old b) (kept : (u v : ℕ) → v ≢ b → u ∈ old v → u ∈ new v) where
  pub depends_but : {u t : ℕ} → t ≢ b → Depends old u t → Depends new u t
  depends_but n (direct k) = direct (kept _ _ n k)
  depends_but {t = t} n (through {v = v} d k) = through (depends_but (λ (e : v ≡ b). free t (rw e at k)) d) (kept v t n k)

-- one hop is added, from t to h
module _ (old new : Hops) (t h : ℕ) (keeps : (u v : ℕ) → u ∈ old v → u ∈ new v)
    (only : (u v : ℕ) → u ∈ new v → (u ∈ old v) ⊎ ((u ≡ t) × (v ≡ h))) where
  -- where h neither is t nor depends on it, every climb still ends
  module _ (added : t ∈ new h) (no_circle : ¬ Reach old h t) where
    pub climb_untouched : {x n : ℕ} → Climb old x n → ¬ Reach old x t → Climb new x n
    climb_untouched (stop {t = x} f) a = stop (λ v k. ⊎_elim (f v) (λ e. a (inl e.0)) (only x v k))
    climb_untouched (hop {t = x} {h = y} k c) a = hop (keeps x y k) (climb_untouched c (λ r. a (inr (hop_reach old k r))))

    pub climb_added : {x n m : ℕ} → Climb old x n → Climb old h m → Ends new x
    climb_added {m = m} (stop {t = x} f) ch = go (ℕ_discrete x t)
      where
        go : Dec (x ≡ t) → Ends new x
        go (yes e) = (suc m, subst (λ (y : ℕ). Climb new y (suc m)) (sym e) (hop added (climb_untouched ch no_circle)))
        go (no n) = (zero, stop (λ v k. ⊎_elim (f v) (λ e. n e.0) (only x v k)))
    climb_added (hop {t = x} {h = y} k c) ch = let w = climb_added c ch in (suc w.0, hop (keeps x y k) w.1)

  -- a dependence afterwards was one before, or comes by t and goes on from h
  pub depends_added : {u v : ℕ} → Depends new u v → Depends old u v ⊎ (Reach old u t × Reach old h v)
  depends_added {u} {v} (direct k) = ⊎_elim (λ j. inl (direct j)) (λ e. inr (inl e.0, inl (sym e.1))) (only u v k)
  depends_added {u} {v} (through {v = w} d k) = go (depends_added d) (only w v k)
    where
      go : Depends old u w ⊎ (Reach old u t × Reach old h w) → (w ∈ old v) ⊎ ((w ≡ t) × (v ≡ h)) → Depends old u v ⊎ (Reach old u t × Reach old h v)
      go (inl a) (inl j) = inl (through a j)
      go (inl a) (inr e) = inr (inr (rw e.0 at a), inl (sym e.1))
      go (inr a) (inl j) = inr (a.0, inr (reach_hop old a.1 j))
      go (inr a) (inr e) = inr (a.0, inl (sym e.1))

-- b waits no more, whoever else waited waits for whom it waited for or for b, and whoever did not wait does not: every climb
-- still ends
module _ (old new : Hops) (b : ℕ) (b_free : Free new b) (fewer : (x : ℕ) → Free old x → Free new x)
    (moves : (x v : ℕ) → x ∈ old v → (x ≡ b) ⊎ ((x ∈ new v) ⊎ (x ∈ new b))) where
  pub climb_moved : {x n : ℕ} → Climb old x n → Ends new x
  climb_moved (stop {t = x} f) = (zero, stop (fewer x f))
  climb_moved (hop {t = x} {h = v} k c) = go (climb_moved c) (moves x v k)
    where
      go : Ends new v → (x ≡ b) ⊎ ((x ∈ new v) ⊎ (x ∈ new b)) → Ends new x
      go w (inl e) = (zero, stop {t = x} (rw e b_free))
      go w (inr (inl j)) = (suc w.0, hop j w.1)
      go w (inr (inr j)) = (suc zero, hop j (stop b_free))
