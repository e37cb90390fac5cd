-- The number of a set's members: one more or one less of them is one more or one less. Assumes nothing.
use Prim.Native.Nat.{ℕ, suc, ◌<◌}
use mathlib.Core.Path.{◌≡◌, refl, sym, ap, ◌∙◌}
use mathlib.Core.List.{List, [], ◌∷◌}
use mathlib.Core.Logic.{◌≢◌, ◌⊎◌, inl, inr, ⊎_elim, ◌↔◌}
use native.Mathlib.Omega.{arith}
use lib.ListN.{length}
use Rattle.protocol.specs.Sets.{SetOf, ◌∈◌, set, Distinct, Number}
use Rattle.protocol.specs.Schedule.{without}
use Rattle.protocol.proofs.Decide.{below_suc}
use Rattle.protocol.proofs.Lists.{without_in, in_without, without_gone, without_distinct, without_shorter}

pub number_none : {M : SetOf ℕ} → ((x : ℕ) → ¬ (x ∈ M)) → Number M 0
number_none none = record { each = []; once = tt; exactly = λ x. (absurd, λ i. absurd (none x i)); size = refl }

module _ {M N : SetOf ℕ} where
  pub number_same : ((x : ℕ) → (x ∈ M) ↔ (x ∈ N)) → {n : ℕ} → Number M n → Number N n
  number_same same c = record {
    each = c.each;
    once = c.once;
    exactly = λ x. ((λ i. (same x).0 ((c.exactly x).0 i)), λ i. (c.exactly x).1 ((same x).1 i));
    size = c.size;
  }

  pub number_more : (a : ℕ) → ¬ (a ∈ M) → ((x : ℕ) → (x ∈ N) ↔ ((x ∈ M) ⊎ (x ≡ a))) → {n : ℕ} → Number M n → Number N (suc n)
  number_more a new more c = record {
    each = a ∷ c.each;
    once = ((λ i. new ((c.exactly a).0 i)), c.once);
    exactly = λ x. (⊎_elim (λ e. (more x).1 (inr e)) (λ i. (more x).1 (inl ((c.exactly x).0 i))), λ i. ⊎_elim (λ j. inr ((c.exactly x).1 j)) inl ((more x).0 i));
    size = ap suc c.size;
  }

  pub number_less : (a : ℕ) → a ∈ M → ((x : ℕ) → (x ∈ N) ↔ ((x ∈ M) × (x ≢ a))) → {n : ℕ} → Number M n → (k : ℕ) × (n ≡ suc k) × Number N k
  number_less a old less c = (
    length rest,
    sym c.size ∙ without_shorter a c.each ((c.exactly a).1 old),
    record {
      each = rest;
      once = without_distinct a c.each c.once;
      exactly = λ x. ((λ i. (less x).1 ((c.exactly x).0 (in_without a c.each x i), λ (e : x ≡ a). without_gone a c.each c.once (rw e at i))), λ i. let w = (less x).0 i in without_in a c.each x ((c.exactly x).1 w.0) w.1);
      size = refl;
    },
  )
    where
      rest : List ℕ
      rest = without a c.each

-- the members below n + 1 are those below n, with n or without it
module _ {M : SetOf ℕ} {n k : ℕ} (c : Number (λ u. (u < n) × (u ∈ M)) k) where
  low : (u : ℕ) → u < suc n → (u < n) ⊎ (u ≡ n)
  low = below_suc n (λ u. (u < n) ⊎ (u ≡ n)) (λ u. inl) (inr refl)

  pub number_with : n ∈ M → Number (λ u. (u < suc n) × (u ∈ M)) (suc k)
  number_with i = number_more n (λ w. omega (arith, w.0)) (λ u. ((λ w. ⊎_elim (λ l. inl (l, w.1)) inr (low u w.0)), ⊎_elim (λ w. (omega (arith, w.0), w.1)) (λ e. (omega arith, rw e i)))) c

  pub number_without : ¬ (n ∈ M) → Number (λ u. (u < suc n) × (u ∈ M)) k
  number_without ni = number_same (λ u. ((λ w. (omega (arith, w.0), w.1)), λ w. (⊎_elim (λ l. l) (λ (e : u ≡ n). absurd (ni (rw e at w.1))) (low u w.0), w.1))) c

-- the members of a list that has each of them once are as many as it is long
length_number : (l : List ℕ) → Distinct l → {n : ℕ} → Number (set l) n → length l ≡ n
length_number [] d c = go c.each (λ x. (c.exactly x).0) c.size
  where
    go : (l : List ℕ) → ((x : ℕ) → x ∈ set l → ⊥) → {n : ℕ} → length l ≡ n → 0 ≡ n
    go [] empty e = e
    go (x ∷ xs) empty e = absurd (empty x (inl refl))
length_number (x ∷ xs) d c = let w = number_less x (inl refl) rest c in ap suc (length_number xs d.1 w.2) ∙ sym w.1
  where
    rest : (u : ℕ) → (u ∈ set xs) ↔ ((u ∈ set (x ∷ xs)) × (u ≢ x))
    rest u = ((λ i. (inr i, λ e. d.0 (rw e at i))), λ w. ⊎_elim (λ e. absurd (w.1 e)) (λ i. i) w.0)

pub number_unique : {M : SetOf ℕ} {n k : ℕ} → Number M n → Number M k → n ≡ k
number_unique c d = sym c.size ∙ length_number c.each c.once (number_same (λ x. ((c.exactly x).1, (c.exactly x).0)) d)
