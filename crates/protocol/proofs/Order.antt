-- Precedences are totally ordered, and for times up to N their numbers are ordered as they are. Assumes nothing.
use Prim.Native.Nat.{ℕ, suc, ◌+◌, ◌*◌, ◌≤◌, ◌<◌}
use mathlib.Core.Path.{◌≡◌, refl, sym, ap, Σ_path}
use mathlib.Core.Logic.{◌⊎◌, inl, inr, ⊎_elim, ◌↔◌}
use native.Mathlib.Nat.{mul-le-mul_right, suc-mul}
use native.Mathlib.Decide.{dec_lt}
use native.Mathlib.Omega.{arith}
use Rattle.protocol.specs.Events.{Precedence, Higher, ◌≼◌}
use Rattle.protocol.specs.Rank.{rank}

-- a total order
pub record Total {A : Type 0} (at_most : A → A → Type 0) : Type 0 where
  pub reflexive : (a : A) → at_most a a
  pub transitive : (a b c : A) → at_most a b → at_most b c → at_most a c
  pub antisymmetric : (a b : A) → at_most a b → at_most b a → a ≡ b
  pub either : (a b : A) → at_most a b ⊎ at_most b a

-- a higher precedence is a greater number, for times up to N
pub rank_rises : (N : ℕ) (p q : Precedence) → p.1 ≤ N → q.1 ≤ N → Higher p q → rank N q < rank N p
rank_rises N p q fp fq (inl h) = omega (arith, mul-le-mul_right {m = suc q.0} {n = p.0} (N + 1) h, suc-mul q.0 (N + 1))
rank_rises N p q fp fq (inr (e, t)) = omega (arith, ap (λ (a : ℕ). a * (N + 1)) e)

-- of two numbers: less, equal or greater
pub sides : (a b : ℕ) → (a < b) ⊎ ((a ≡ b) ⊎ (b < a))
sides a b = go (dec_lt a b) (dec_lt b a)
  where
    go : Dec (a < b) → Dec (b < a) → (a < b) ⊎ ((a ≡ b) ⊎ (b < a))
    go (yes h) d = inl h
    go (no h) (yes k) = inr (inr k)
    go (no h) (no k) = inr (inl (omega arith))

-- of two precedences: higher, equal or lower
pub compare : (p q : Precedence) → Higher p q ⊎ ((p ≡ q) ⊎ Higher q p)
compare p q = go (sides p.0 q.0) (sides p.1 q.1)
  where
    go : (p.0 < q.0) ⊎ ((p.0 ≡ q.0) ⊎ (q.0 < p.0)) → (p.1 < q.1) ⊎ ((p.1 ≡ q.1) ⊎ (q.1 < p.1)) → Higher p q ⊎ ((p ≡ q) ⊎ Higher q p)
    go (inl h) t = inr (inr (inl h))
    go (inr (inr h)) t = inl (inl h)
    go (inr (inl e)) (inl t) = inl (inr (e, t))
    go (inr (inl e)) (inr (inl t)) = inr (inl (Σ_path e t))
    go (inr (inl e)) (inr (inr t)) = inr (inr (inr (sym e, t)))

module _ (N : ℕ) where
  -- The order as a number: for times up to N, the higher precedence is the greater number.
  pub higher_rank : (p q : Precedence) → p.1 ≤ N → q.1 ≤ N → Higher p q ↔ (rank N q < rank N p)
  higher_rank p q fp fq = (rank_rises N p q fp fq, λ h. go h (compare p q))
    where
      go : rank N q < rank N p → Higher p q ⊎ ((p ≡ q) ⊎ Higher q p) → Higher p q
      go h (inl k) = k
      go h (inr (inl e)) = absurd (omega (arith, ap (rank N) e))
      go h (inr (inr k)) = absurd (omega (arith, rank_rises N q p fq fp k))

  pub ≼_rank : (p q : Precedence) → p.1 ≤ N → q.1 ≤ N → (p ≼ q) ↔ (rank N p ≤ rank N q)
  ≼_rank p q fp fq = (⊎_elim {C = rank N p ≤ rank N q} (λ e. omega (arith, ap (rank N) e)) (λ h. omega (arith, rank_rises N q p fq fp h)), λ h. go h (compare p q))
    where
      go : rank N p ≤ rank N q → Higher p q ⊎ ((p ≡ q) ⊎ Higher q p) → p ≼ q
      go h (inl k) = absurd (omega (arith, rank_rises N p q fp fq k))
      go h (inr k) = k

  -- one number, one precedence
  pub rank_same : (p q : Precedence) → p.1 ≤ N → q.1 ≤ N → rank N p ≡ rank N q → p ≡ q
  rank_same p q fp fq e = go (compare p q)
    where
      go : Higher p q ⊎ ((p ≡ q) ⊎ Higher q p) → p ≡ q
      go (inl k) = absurd (omega (arith, rank_rises N p q fp fq k))
      go (inr (inl k)) = k
      go (inr (inr k)) = absurd (omega (arith, rank_rises N q p fq fp k))

pub ≼_total : Total ◌≼◌
≼_total = record {
  reflexive = λ p. inl refl;
  transitive = λ p q r h k. let N = p.1 + q.1 + r.1 in
      (≼_rank N p r (omega arith) (omega arith)).1 (omega (arith, (≼_rank N p q (omega arith) (omega arith)).0 h, (≼_rank N q r (omega arith) (omega arith)).0 k));
  antisymmetric = λ p q h k. let N = p.1 + q.1 in
      rank_same N p q (omega arith) (omega arith) (omega (arith, (≼_rank N p q (omega arith) (omega arith)).0 h, (≼_rank N q p (omega arith) (omega arith)).0 k));
  either = λ p q. ⊎_elim (λ h. inr (inr h)) inl (compare p q);
}
