-- The law of the walk: where the local law holds everywhere but at one thread, working that one out afresh leaves it broken
-- at its holder at most, and nowhere if the value stayed the same. Values may rise or fall. Assumes nothing.
use Prim.Native.Nat.{ℕ}
use mathlib.Core.Path.{◌≡◌, sym, ◌∙◌}
use mathlib.Core.Logic.{◌≢◌, inl, inr, ⊎_elim}
use native.Mathlib.Decide.{ℕ_discrete}
use Rattle.protocol.specs.Sets.{SetOf, ◌∈◌}
use Rattle.protocol.proofs.Chains.{Hops}
use Rattle.protocol.proofs.LocalLaw.{Local}

module _ {A : Type 0} (at_most : A → A → Type 0) (children : Hops) (own : ℕ → A) where
  -- the law at t looks at the children's values alone
  pub local_cong : (c e : ℕ → A) (t : ℕ) (m : A) → ((u : ℕ) → u ∈ children t → e u ≡ c u) → Local at_most children own c t m → Local at_most children own e t m
  local_cong c e t m agree l = record {
    among = ⊎_elim inl (λ w. inr (w.0, w.1, w.2 ∙ sym (agree w.0 w.1))) l.among;
    bound = λ a i. l.bound a (⊎_elim inl (λ w. inr (w.0, w.1, w.2 ∙ agree w.0 w.1)) i);
  }

  -- e has at x what the law says of c there, and elsewhere what c has
  pub record Afresh (c : ℕ → A) (x : ℕ) (e : ℕ → A) : Type 0 where
    pub there : Local at_most children own c x (e x)
    pub elsewhere : (y : ℕ) → y ≢ x → e y ≡ c y

  module _ (live : SetOf ℕ) (c e : ℕ → A) (x : ℕ) (but_x : (y : ℕ) → y ∈ live → y ≢ x → Local at_most children own c y (c y)) (afresh : Afresh c x e) where
    -- afterwards the law holds everywhere but at x's holder, so everywhere if x waits for nobody
    pub walk_on : (y : ℕ) → y ∈ live → ¬ (x ∈ children y) → Local at_most children own e y (e y)
    walk_on y l apart = go (ℕ_discrete y x)
      where
        others : (z : ℕ) → ¬ (x ∈ children z) → (u : ℕ) → u ∈ children z → e u ≡ c u
        others z apart u k = afresh.elsewhere u (λ (q : u ≡ x). apart (rw q at k))

        go : Dec (y ≡ x) → Local at_most children own e y (e y)
        go (yes q) = rw q (local_cong c e x (e x) (others x (rw q at apart)) afresh.there)
        go (no n) = rw (afresh.elsewhere y n) (local_cong c e y (c y) (others y apart) (but_x y l n))

    -- and if the value stayed the same, everywhere
    pub walk_stop : e x ≡ c x → (y : ℕ) → y ∈ live → Local at_most children own e y (e y)
    walk_stop same y l = rw (agree y) (local_cong c e y (c y) (λ u k. agree u) (at (ℕ_discrete y x)))
      where
        agree : (y : ℕ) → e y ≡ c y
        agree y = go (ℕ_discrete y x)
          where
            go : Dec (y ≡ x) → e y ≡ c y
            go (yes q) = rw q same
            go (no n) = afresh.elsewhere y n

        at : Dec (y ≡ x) → Local at_most children own c y (c y)
        at (yes q) = rw (q, ← same) afresh.there
        at (no n) = but_x y l n
