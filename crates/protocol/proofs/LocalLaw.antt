-- Lemma 4 both ways, over any one-hop relation and any totally ordered values. Assumes nothing.
use Prim.Native.Nat.{ℕ, zero, suc, ◌+◌, ◌≤◌, ◌<◌}
use mathlib.Core.Path.{◌≡◌, refl, ap, ◌∙◌}
use mathlib.Core.Logic.{◌⊎◌, inl, inr, ⊎_elim}
use native.Mathlib.Omega.{arith}
use Rattle.protocol.specs.Sets.{SetOf, ◌∈◌, only, ◌∪◌, image, Max}
use Rattle.protocol.proofs.Order.{Total}
use Rattle.protocol.proofs.Chains.{Hops, Depends, direct, through, hop, Ends, OneParent, climb_unique}

module _ {A : Type 0} (at_most : A → A → Type 0) (children : Hops) (own : ℕ → A) where
  -- m is the highest own value among t and those that depend on it
  abbrev pub Current : ℕ → A → Type 0
  Current t m = Max at_most (only (own t) ∪ image own (λ u. Depends children u t)) m

  -- m is the highest of t's own value and its children's values of c
  abbrev pub Local : (ℕ → A) → ℕ → A → Type 0
  Local c t m = Max at_most (only (own t) ∪ image c (children t)) m

module _ {A : Type 0} (at_most : A → A → Type 0) (total : Total at_most) (children : Hops) (own : ℕ → A) where
  module _ (c : ℕ → A) (t : ℕ) (below : (u : ℕ) → u ∈ children t → Current at_most children own u (c u)) where
    -- a dependant's own value is at most that of the child it comes through
    under : (u : ℕ) → Depends children u t → (v : ℕ) × (v ∈ children t) × at_most (own u) (c v)
    under u (direct k) = (u, k, (below u k).bound (own u) (inl refl))
    under u (through {v = v} d k) = (v, k, (below v k).bound (own u) (inr (u, d, refl)))

    -- a child's value is some dependant's own
    source : (v : ℕ) → v ∈ children t → (u : ℕ) × Depends children u t × (c v ≡ own u)
    source v k = ⊎_elim
        (λ (e : c v ≡ own v). (v, direct k, e))
        (λ (w : c v ∈ image own (λ u. Depends children u v)). (w.0, through w.1 k, w.2))
        (below v k).among

    -- Lemma 4, from the local law to the definition
    pub local_current : (x : A) → Local at_most children own c t x → Current at_most children own t x
    local_current x l = record { among = ⊎_elim inl from l.among; bound = over }
      where
        from : x ∈ image c (children t) → x ∈ (only (own t) ∪ image own (λ u. Depends children u t))
        from (v, k, e) = let w = source v k in inr (w.0, w.1, e ∙ w.2)

        over : (a : A) → a ∈ (only (own t) ∪ image own (λ u. Depends children u t)) → at_most a x
        over a (inl e) = l.bound a (inl e)
        over a (inr (u, d, e)) = let w = under u d in rw e (total.transitive (own u) (c w.0) x w.2 (l.bound (c w.0) (inr (w.0, w.1, refl))))

    -- Lemma 4, from the definition to the local law
    pub current_local : (x : A) → Current at_most children own t x → Local at_most children own c t x
    current_local x k = record { among = ⊎_elim inl from k.among; bound = over }
      where
        over : (a : A) → a ∈ (only (own t) ∪ image c (children t)) → at_most a x
        over a (inl e) = k.bound a (inl e)
        over a (inr (v, j, e)) = let w = source v j in k.bound a (inr (w.0, w.1, e ∙ w.2))

        from : x ∈ image own (λ u. Depends children u t) → x ∈ (only (own t) ∪ image c (children t))
        from (u, d, e) = let w = under u d in
            inr (w.0, w.1, total.antisymmetric x (c w.0) (rw e w.2) (over (c w.0) (inr (w.0, w.1, refl))))

  -- One of the group W takes over: its children are then those that it had and the others of W. So the law gives it the highest value in W.
  module _ (after : Hops) (c : ℕ → A) (b : ℕ) (W : SetOf ℕ) (one : b ∈ W) (kept : (u : ℕ) → u ∈ children b → u ∈ after b)
      (gained : (u : ℕ) → u ∈ W → (u ≡ b) ⊎ (u ∈ after b)) (no_more : (u : ℕ) → u ∈ after b → (u ∈ children b) ⊎ (u ∈ W)) where
    pub local_heir : Local at_most children own c b (c b) → (m : A) → Max at_most (image c W) m → Local at_most after own c b m
    local_heir law m k = record { among = from k.among; bound = over }
      where
        high : at_most (c b) m
        high = k.bound (c b) (b, one, refl)

        from : m ∈ image c W → m ∈ (only (own b) ∪ image c (after b))
        from (u, i, e) = ⊎_elim (λ q. ⊎_elim (λ f. inl (e ∙ ap c q ∙ f)) (λ w. inr (w.0, kept w.0 w.1, e ∙ ap c q ∙ w.2)) law.among) (λ j. inr (u, j, e)) (gained u i)

        over : (a : A) → a ∈ (only (own b) ∪ image c (after b)) → at_most a m
        over a (inl e) = total.transitive a (c b) m (law.bound a (inl e)) high
        over a (inr (u, j, e)) = ⊎_elim (λ i. total.transitive a (c b) m (law.bound a (inr (u, i, e))) high) (λ i. k.bound a (u, i, e)) (no_more u j)

  -- Lemma 4's converse: where no chain closes, whatever satisfies the local law in a set that has all the children of its members is the
  -- current value there.
  module _ (one_parent : OneParent children) (ends : (t : ℕ) → Ends children t) (N : ℕ) (short : (t : ℕ) → (ends t).0 ≤ N)
      (S : SetOf ℕ) (closed : (u t : ℕ) → t ∈ S → u ∈ children t → u ∈ S) where
    pub deeper : (u t : ℕ) → u ∈ children t → (ends t).0 < (ends u).0
    deeper u t k = omega (arith, climb_unique children one_parent (ends u).1 (hop k (ends t).1))

    pub local_is_current : (c : ℕ → A) → ((t : ℕ) → t ∈ S → Local at_most children own c t (c t)) →
        (t : ℕ) → t ∈ S → Current at_most children own t (c t)
    local_is_current c law t l = go N t (omega arith) l
      where
        go : (n t : ℕ) → N ≤ (ends t).0 + n → t ∈ S → Current at_most children own t (c t)
        go zero t h l = local_current c t (λ u k. absurd (omega (arith, deeper u t k, short u))) (c t) (law t l)
        go (suc n) t h l = local_current c t (λ u k. go n u (omega (arith, deeper u t k)) (closed u t l k)) (c t) (law t l)
