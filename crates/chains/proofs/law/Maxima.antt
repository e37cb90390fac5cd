-- The highest of the numbers that the local law compares, as more of them are compared. Assumes nothing.
use Prim.Native.Nat.{ℕ, ◌+◌, ◌≤◌, ◌<◌}
use mathlib.Core.Path.{◌≡◌}
use mathlib.Core.Logic.{◌⊎◌, inl, inr, ⊎_elim, by_cases}
use mathlib.Core.List.{List}
use native.Mathlib.Decide.{ℕ_discrete, dec_lt}
use native.Mathlib.Omega.{arith}
use borrow.Author.Tests.{le-leb}
use Rattle.protocol.specs.Sets.{SetOf, ◌∈◌, only, ◌∪◌, Max}
use Rattle.table.specs.Table.{at}
use Rattle.table.specs.Code.Places.{entry}
use Rattle.table.proofs.Arrays.Maxima.{alike, joined}
use Rattle.chains.specs.Law.{entries_of, WaitersNumbers, Compared}

-- a length of at most 1 has as many entries
pub few_entries : (n : ℕ) → n ≤ 1 → entries_of n ≤ 1
few_entries n h = rw (le-leb n 32 (omega arith)) h

-- the waiters at one place more
module _ (queue current : List ℕ) (r start n : ℕ) where
  abbrev Upto : ℕ → SetOf ℕ
  Upto k = only start ∪ WaitersNumbers queue current r k

  abbrev Here : SetOf ℕ
  Here = only (at current (entry queue r n))

  pub waiter_next : {m h : ℕ} → 1 ≤ n → Max ◌≤◌ (only m ∪ Here) h → Max ◌≤◌ (Upto n) m → Max ◌≤◌ (Upto (n + 1)) h
  waiter_next f q p = alike there back (joined p q)
    where
      there : (a : ℕ) → a ∈ (Upto n ∪ Here) → a ∈ Upto (n + 1)
      there a (inl (inl e)) = inl e
      there a (inl (inr (i, l, k, e))) = inr (i, l, omega arith, e)
      there a (inr e) = inr (n, f, omega arith, e)

      back : (a : ℕ) → a ∈ Upto (n + 1) → a ∈ (Upto n ∪ Here)
      back a (inl e) = inl (inl e)
      back a (inr (i, l, k, e)) = by_cases (ℕ_discrete i n) (λ d. inr (rw d at e)) (λ d. inl (inr (i, l, omega arith, e)))

-- the waiters of one resource more
module _ (queue lengths holders current : List ℕ) (own t : ℕ) where
  abbrev OfFirst : ℕ → SetOf ℕ
  OfFirst k = Compared queue lengths holders current k own t

  -- resources at which nobody waits add nothing
  pub compared_all : {R m : ℕ} → R ≤ 16 → ((r : ℕ) → R ≤ r → r < 16 → at lengths r ≤ 1) → Max ◌≤◌ (OfFirst R) m → Max ◌≤◌ (OfFirst 16) m
  compared_all {R} low none = alike there back
    where
      there : (a : ℕ) → a ∈ OfFirst R → a ∈ OfFirst 16
      there a (inl e) = inl e
      there a (inr (r, i, l, f, k, h, e)) = inr (r, i, omega arith, f, k, h, e)

      back : (a : ℕ) → a ∈ OfFirst 16 → a ∈ OfFirst R
      back a (inl e) = inl e
      back a (inr (r, i, l, f, k, h, e)) = by_cases (dec_lt r R) (λ d. inr (r, i, d, f, k, h, e)) (λ d. absurd (omega (arith, few_entries (at lengths r) (none r (omega arith) l))))

  module _ (r : ℕ) where
    abbrev At : SetOf ℕ
    At = WaitersNumbers queue current r (entries_of (at lengths r))

    grown : (a : ℕ) → a ∈ OfFirst r → a ∈ OfFirst (r + 1)
    grown a (inl e) = inl e
    grown a (inr (q, i, l, f, k, h, e)) = inr (q, i, omega arith, f, k, h, e)

    parted : (a : ℕ) → a ∈ OfFirst (r + 1) → (a ∈ OfFirst r) ⊎ ((at holders r ≡ t) × a ∈ At)
    parted a (inl e) = inl (inl e)
    parted a (inr (q, i, l, f, k, h, e)) = by_cases (ℕ_discrete q r) (λ d. inr (rw d at h, (i, f, rw d at k, rw d at e))) (λ d. inl (inr (q, i, omega arith, f, k, h, e)))

    -- t holds r, and the waiters are compared; or nobody waits for t at r
    pub compared_next : {m h : ℕ} → ((at holders r ≡ t) × Max ◌≤◌ (only m ∪ At) h) ⊎ ((at holders r ≡ t → entries_of (at lengths r) ≤ 1) × (h ≡ m)) → Max ◌≤◌ (OfFirst r) m → Max ◌≤◌ (OfFirst (r + 1)) h
    compared_next (inl (e, q)) p =
        alike (λ a. ⊎_elim (grown a) (λ w. inr (r, w.0, omega arith, w.1, w.2, e, w.3))) (λ a i. ⊎_elim inl (λ w. inr w.1) (parted a i)) (joined p q)
    compared_next (inr (none, e)) p =
        rw e (alike grown (λ a i. ⊎_elim (λ j. j) (λ w. absurd (omega (arith, none w.0, w.1.1, w.1.2))) (parted a i)) p)
