-- A row of places that was written one by one is the row rewritten. Assumes nothing.
use Prim.Native.Nat.{ℕ, ◌+◌, ◌-◌, ◌≤◌, ◌<◌}
use mathlib.Core.Path.{◌≡◌, sym, ap, ◌∙◌}
use mathlib.Core.List.{List, []}
use mathlib.Core.Logic.{◌⊎◌, inl, inr, ⊎_elim}
use native.Mathlib.Decide.{ℕ_discrete, dec_lt}
use native.Mathlib.Omega.{arith}
use lib.ListN.{length, set, length-set}
use lib.Seq.{ext_get_or, get_or-set_same, get_or-set_other}
use Rattle.table.specs.Table.{at}
use Rattle.table.proofs.Arrays.Places.{part_at}
use Rattle.events.specs.Code.Rows.{rewritten}
use Rattle.events.proofs.Queues.Splice.{row_length, row_outside, row_spare, row_there}

-- ys is xs but for the row of 32 from a on, which has the entries of q, and zeros behind them
pub record RowHas (xs : List ℕ) (a : ℕ) (q ys : List ℕ) : Type 0 where
  pub size : length ys ≡ length xs
  pub outside : (j : ℕ) → (j < a) ⊎ (a + 32 ≤ j) → at ys j ≡ at xs j
  pub entries : (i : ℕ) → i < length q → at ys (a + i) ≡ at q i
  pub spare : (i : ℕ) → length q ≤ i → i < 32 → at ys (a + i) ≡ 0

-- that is the row rewritten
module _ (xs : List ℕ) (a : ℕ) (q : List ℕ) (fits : a + 32 ≤ length xs) (short : length q ≤ 32) where
  pub row_inside : (i : ℕ) → i < length q → at (rewritten xs a q) (a + i) ≡ at q i
  row_inside i h = sym (part_at (rewritten xs a q) a (length q) (inr (omega (arith, row_length xs a q fits short))) i h) ∙ ap (λ (l : List ℕ). at l i) (row_there xs a q fits short)

  pub row_is : (ys : List ℕ) → RowHas xs a q ys → ys ≡ rewritten xs a q
  row_is ys h = ext_get_or 0 ys (rewritten xs a q) (h.size ∙ sym (row_length xs a q fits short)) (λ j l. go j (dec_lt j a) (dec_lt j (a + length q)) (dec_lt j (a + 32)))
    where
      go : (j : ℕ) → Dec (j < a) → Dec (j < a + length q) → Dec (j < a + 32) → at ys j ≡ at (rewritten xs a q) j
      go j (yes b) d e = h.outside j (inl b) ∙ sym (row_outside xs a q fits short j (inl b))
      go j (no n) (yes d) e = let k : j ≡ a + (j - a) = omega arith in rw k (h.entries (j - a) (omega arith) ∙ sym (row_inside (j - a) (omega arith)))
      go j (no n) (no m) (yes e) = let k : j ≡ a + (j - a) = omega arith in rw k (h.spare (j - a) (omega arith) (omega arith) ∙ sym (row_spare xs a q fits short (j - a) (omega arith) (omega arith)))
      go j (no n) (no m) (no f) = h.outside j (inr (omega arith)) ∙ sym (row_outside xs a q fits short j (inr (omega arith)))

-- the row of one entry, emptied
pub emptied : (xs : List ℕ) (a : ℕ) → a + 32 ≤ length xs → ((i : ℕ) → 1 ≤ i → i < 32 → at xs (a + i) ≡ 0) → RowHas xs a [] (set xs a 0)
emptied xs a fits zero = record {
  size = length-set xs a 0;
  outside = λ j o. get_or-set_other xs a j 0 0 (λ e. ⊎_elim {C = ⊥} (λ l. absurd (omega arith)) (λ l. absurd (omega arith)) o);
  entries = λ i h. absurd (omega arith);
  spare = λ i l h. go i h (ℕ_discrete i 0);
}
  where
    go : (i : ℕ) → i < 32 → Dec (i ≡ 0) → at (set xs a 0) (a + i) ≡ 0
    go i h (yes e) = let k : a + i ≡ a = omega arith in rw k (get_or-set_same xs a 0 0 (omega arith))
    go i h (no n) = get_or-set_other xs a (a + i) 0 0 (λ e. n (omega arith)) ∙ zero i (omega arith) h
