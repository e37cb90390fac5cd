-- The places of an array in which a row of 32 is written anew. Assumes nothing.
use Prim.Native.Nat.{ℕ, ◌+◌, ◌-◌, ◌≤◌, ◌<◌}
use mathlib.Core.Path.{◌≡◌, refl, sym, ap, ◌∙◌}
use mathlib.Core.List.{List, ◌++◌}
use mathlib.Core.Logic.{◌⊎◌, inl, inr}
use native.Mathlib.Omega.{arith}
use lib.ListN.{length, take, drop, replicate, length-append, length-take, length-drop, length-replicate, get_or-replicate, get_or-append}
use lib.Seq.{take_at, drop_at, ext_get_or, get_or-append-add, get_or-take, get_or-drop}
use Rattle.table.specs.Table.{at}
use Rattle.table.proofs.Arrays.Places.{part_length, part_at}
use Rattle.events.specs.Code.Rows.{behind, rewritten}

-- past the first list
pub at_past : (xs ys : List ℕ) (n k : ℕ) → length xs ≡ n → at (xs ++ ys) (n + k) ≡ at ys k
at_past xs ys n k e = rw (← e) (get_or-append-add xs ys k 0)

module _ (xs : List ℕ) (a : ℕ) (q : List ℕ) (fits : a + 32 ≤ length xs) (short : length q ≤ 32) where
  -- what stands before the row
  front : length (take a xs) ≡ a
  front = simp length-take (omega arith)

  -- the array keeps its size
  pub row_length : length (rewritten xs a q) ≡ length xs
  row_length = simp (length-append, length-take, length-drop, length-replicate) (omega arith)

  -- the places before the row and after it are what they were
  pub row_outside : (j : ℕ) → (j < a) ⊎ (a + 32 ≤ j) → at (rewritten xs a q) j ≡ at xs j
  row_outside j (inl h) = get_or-append (take a xs) (q ++ behind xs a q) 0 j (omega (arith, front)) ∙ get_or-take a xs j 0 h
  row_outside j (inr h) =
      let e : j ≡ a + (length q + (32 - length q + (j - (a + 32)))) = omega arith in
      let f : a + 32 + (j - (a + 32)) ≡ j = omega arith in
      ap (at (rewritten xs a q)) e
      ∙ at_past (take a xs) (q ++ behind xs a q) a (length q + (32 - length q + (j - (a + 32)))) front
      ∙ get_or-append-add q (behind xs a q) (32 - length q + (j - (a + 32))) 0
      ∙ at_past (replicate (32 - length q) 0) (drop (a + 32) xs) (32 - length q) (j - (a + 32)) (length-replicate {A = ℕ} (32 - length q) 0)
      ∙ get_or-drop (a + 32) xs (j - (a + 32)) 0
      ∙ ap (at xs) f

  -- the places of the row behind q are zero
  pub row_spare : (i : ℕ) → length q ≤ i → i < 32 → at (rewritten xs a q) (a + i) ≡ 0
  row_spare i l h =
      let e : i ≡ length q + (i - length q) = omega arith in
      at_past (take a xs) (q ++ behind xs a q) a i front
      ∙ ap (at (q ++ behind xs a q)) e
      ∙ get_or-append-add q (behind xs a q) (i - length q) 0
      ∙ get_or-append (replicate (32 - length q) 0) (drop (a + 32) xs) 0 (i - length q) (omega (arith, length-replicate {A = ℕ} (32 - length q) 0))
      ∙ get_or-replicate (32 - length q) (i - length q) 0 0 (omega arith)

  -- the row starts with q
  pub row_there : take (length q) (drop a (rewritten xs a q)) ≡ q
  row_there = rw (drop_at (take a xs) (q ++ behind xs a q) a front) (take_at q (behind xs a q) (length q) refl)

  -- n places from b on that lie outside the row are what they were
  pub row_else : (b n : ℕ) → b + n ≤ length xs → ((i : ℕ) → i < n → (b + i < a) ⊎ (a + 32 ≤ b + i)) → take n (drop b (rewritten xs a q)) ≡ take n (drop b xs)
  row_else b n within outside = ext_get_or 0 (take n (drop b (rewritten xs a q))) (take n (drop b xs)) (new ∙ sym (part_length xs b n (inr within)))
      (λ i h. let l : i < n = omega (arith, new) in part_at (rewritten xs a q) b n fits_new i l ∙ row_outside (b + i) (outside i l) ∙ sym (part_at xs b n (inr within) i l))
    where
      fits_new : (n ≡ 0) ⊎ (b + n ≤ length (rewritten xs a q))
      fits_new = inr (omega (arith, row_length))

      new : length (take n (drop b (rewritten xs a q))) ≡ n
      new = part_length (rewritten xs a q) b n fits_new
