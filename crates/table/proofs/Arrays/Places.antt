-- A queue as a list and as places of the table: the same. Assumes nothing.
use Prim.Native.Nat.{ℕ, zero, suc, ◌+◌, ◌≤◌, ◌<◌}
use mathlib.Core.Path.{◌≡◌, refl, sym, ap, subst, ◌∙◌}
use mathlib.Core.List.{List, [], ◌∷◌}
use mathlib.Core.Logic.{◌≢◌, ◌⊎◌, inl, inr, ⊎_elim, ◌↔◌}
use native.Mathlib.Omega.{arith}
use lib.ListN.{length, take, drop, length-take, length-drop}
use lib.Seq.{get_or-take, get_or-drop}
use Rattle.protocol.specs.Sets.{◌∈◌, set, hd, Distinct}
use Rattle.table.specs.Table.{at}

pub in_index : (x : ℕ) (xs : List ℕ) → x ∈ set xs → (i : ℕ) × (i < length xs) × (at xs i ≡ x)
in_index x [] h = absurd h
in_index x (y ∷ ys) (inl e) = (zero, omega arith, sym e)
in_index x (y ∷ ys) (inr h) = let w = in_index x ys h in (suc w.0, omega (arith, w.1), w.2)

pub index_in : (xs : List ℕ) (i : ℕ) → i < length xs → at xs i ∈ set xs
index_in [] i h = absurd (omega arith)
index_in (y ∷ ys) zero h = inl refl
index_in (y ∷ ys) (suc i) h = inr (index_in ys i (omega arith))

-- distinct: no two places have the same
abbrev pub Apart : List ℕ → Type 0
Apart xs = (i j : ℕ) → i < j → j < length xs → at xs i ≢ at xs j

pub distinct_apart : (xs : List ℕ) → Distinct xs → Apart xs
distinct_apart [] d i j l h = absurd (omega arith)
distinct_apart (y ∷ ys) d i zero l h = absurd (omega arith)
distinct_apart (y ∷ ys) d zero (suc j) l h = λ e. d.0 (rw (← e) at (index_in ys j (omega arith)))
distinct_apart (y ∷ ys) d (suc i) (suc j) l h = distinct_apart ys d.1 i j (omega arith) (omega arith)

pub apart_distinct : (xs : List ℕ) → Apart xs → Distinct xs
apart_distinct [] a = tt
apart_distinct (y ∷ ys) a = ((λ h. let w = in_index y ys h in a zero (suc w.0) (omega arith) (omega (arith, w.1)) (sym w.2)), apart_distinct ys (λ i j l h. a (suc i) (suc j) (omega arith) (omega arith)))

-- n places of q from a on
module _ (q : List ℕ) (a n : ℕ) (fits : (n ≡ 0) ⊎ (a + n ≤ length q)) where
  pub part_length : length (take n (drop a q)) ≡ n
  part_length = ⊎_elim {C = length (take n (drop a q)) ≡ n} (λ (e : n ≡ 0). simp (length-take, length-drop) (omega arith)) (λ (h : a + n ≤ length q). simp (length-take, length-drop) (omega arith)) fits

  pub part_at : (i : ℕ) → i < n → at (take n (drop a q)) i ≡ at q (a + i)
  part_at i h = rw (get_or-take, get_or-drop)

  pub part_in : (x : ℕ) → (x ∈ set (take n (drop a q))) ↔ ((i : ℕ) × (i < n) × (at q (a + i) ≡ x))
  part_in x = (
    λ h. let w = in_index x (take n (drop a q)) h in let l : w.0 < n = omega (arith, w.1, part_length) in (w.0, l, sym (part_at w.0 l) ∙ w.2),
    λ w. subst (λ (y : ℕ). y ∈ set (take n (drop a q))) (part_at w.0 w.1 ∙ w.2) (index_in (take n (drop a q)) w.0 (omega (arith, w.1, part_length))),
  )

  pub part_hd : (x : ℕ) → (x ∈ hd (take n (drop a q))) ↔ ((0 < n) × (at q (a + 0) ≡ x))
  part_hd x = go (take n (drop a q)) refl
    where
      go : (p : List ℕ) → take n (drop a q) ≡ p → (x ∈ hd p) ↔ ((0 < n) × (at q (a + 0) ≡ x))
      go [] e = (absurd, λ w. let z : length (take n (drop a q)) ≡ 0 = ap length e in absurd (omega (arith, w.0, part_length)))
      go (y ∷ ys) e = let z : length (take n (drop a q)) ≡ suc (length ys) = ap length e in let l : 0 < n = omega (arith, part_length) in let f : at q (a + 0) ≡ y = sym (part_at 0 l) ∙ ap (λ (p : List ℕ). at p 0) e in
          ((λ h. (l, f ∙ sym h)), λ w. sym w.1 ∙ f)

  pub part_distinct : Distinct (take n (drop a q)) ↔ ((i j : ℕ) → i < j → j < n → at q (a + i) ≢ at q (a + j))
  part_distinct = (
    λ d i j l h e. distinct_apart (take n (drop a q)) d i j l (omega (arith, part_length)) (part_at i (omega arith) ∙ e ∙ sym (part_at j h)),
    λ f. apart_distinct (take n (drop a q)) (λ i j l h e. let k : j < n = omega (arith, part_length) in f i j l k (sym (part_at i (omega arith)) ∙ e ∙ part_at j k)),
  )
