-- Moving the places behind the heir up one by one, and the row that this leaves. Assumes nothing.
use Prim.Native.Nat.{ℕ, ◌+◌, ◌*◌, ◌-◌, ◌≤◌, ◌<◌}
use mathlib.Core.Path.{◌≡◌, sym, ap, subst, ◌∙◌}
use mathlib.Core.Option.{some}
use mathlib.Core.List.{List}
use mathlib.Core.Logic.{◌⊎◌, inl, inr, ⊎_elim}
use native.Mathlib.Decide.{ℕ_discrete, dec_lt}
use native.Mathlib.Omega.{arith}
use lib.ListN.{length, take, drop, set, length-set}
use lib.Seq.{get_or-set_same, get_or-set_other}
use Rattle.std.specs.List.{CopiedTo, SameBelow, SameFrom}
use Rattle.protocol.specs.Schedule.{release}
use Rattle.table.specs.Table.{at}
use Rattle.table.specs.Code.Places.{entry}
use Rattle.table.proofs.Arrays.Places.{part_length, part_at}
use Rattle.events.specs.Code.Rows.{Row, rewritten}
use Rattle.events.proofs.Queues.Written.{RowHas, row_is}
use Rattle.release.proofs.MovedUp.{MovedUp, moved_up}

-- ys is xs with the places from `from` up to i filled each from the one behind it
pub record Shifted (xs : List ℕ) (from i : ℕ) (ys : List ℕ) : Type 0 where
  pub size : length ys ≡ length xs
  pub kept : (j : ℕ) → (j < from) ⊎ (i ≤ j) → at ys j ≡ at xs j
  pub moved : (j : ℕ) → from ≤ j → j < i → at ys j ≡ at xs (j + 1)

-- what `copy_within` leaves of the n entries from a on, where those behind p go one place up
pub copied : (xs ys : List ℕ) (a p n : ℕ) → p < n → length ys ≡ length xs → CopiedTo xs ys (a + p + 1) (a + p) (a + n - (a + p + 1)) × SameBelow xs ys (a + p) × SameFrom xs ys (a + p + (a + n - (a + p + 1))) →
    Shifted xs (a + p) (a + n - 1) ys
copied xs ys a p n h size (up, below, from) = record {
  size = size;
  kept = λ j o. ⊎_elim {C = at ys j ≡ at xs j} (below j 0) (λ k. from j 0 (omega arith)) o;
  moved = λ j l k. let e : a + p + 1 + (j - (a + p)) ≡ j + 1 = omega arith in up j 0 l (omega arith) ∙ ap (at xs) e;
}

-- The n entries from a on, where the one at p goes to the head: those behind it are moved up, the last place becomes zero, and the head
-- is written.
pub handed_over : (xs : List ℕ) (a p n : ℕ) (ys q : List ℕ) → a + 32 ≤ length xs → n ≤ 32 → 1 ≤ p → p < n → ((i : ℕ) → n ≤ i → i < 32 → at xs (a + i) ≡ 0) →
    Shifted xs (a + p) (a + n - 1) ys → MovedUp (take n (drop a xs)) p q → RowHas xs a q (set (set ys (a + n - 1) 0) a (at xs (a + p)))
handed_over xs a p n ys q fits short l h zero s m = record {
  size = length-set (set ys (a + n - 1) 0) a (at xs (a + p)) ∙ length-set ys (a + n - 1) 0 ∙ s.size;
  outside = λ j o. ⊎_elim {C = at (set (set ys (a + n - 1) 0) a (at xs (a + p))) j ≡ at xs j} (λ k. untouched j (omega arith) (omega arith) ∙ s.kept j (inl (omega arith))) (λ k. untouched j (omega arith) (omega arith) ∙ s.kept j (inr (omega arith))) o;
  entries = λ i k. inside i k (ℕ_discrete i 0) (dec_lt i p);
  spare = λ i k b. beyond i k b (ℕ_discrete i (n - 1));
}
  where
    all : length (take n (drop a xs)) ≡ n
    all = part_length xs a n (inr (omega arith))

    is : (i : ℕ) → i < n → at (take n (drop a xs)) i ≡ at xs (a + i)
    is = part_at xs a n (inr (omega arith))

    untouched : (j : ℕ) → ¬ (j ≡ a) → ¬ (j ≡ a + n - 1) → at (set (set ys (a + n - 1) 0) a (at xs (a + p))) j ≡ at ys j
    untouched j u v = get_or-set_other (set ys (a + n - 1) 0) a j (at xs (a + p)) 0 u ∙ get_or-set_other ys (a + n - 1) j 0 0 v

    inside : (i : ℕ) → i < length q → Dec (i ≡ 0) → Dec (i < p) → at (set (set ys (a + n - 1) 0) a (at xs (a + p))) (a + i) ≡ at q i
    inside i k (yes z) d = let e : a + i ≡ a = omega arith in rw (e, z) (get_or-set_same (set ys (a + n - 1) 0) a (at xs (a + p)) 0 (omega (arith, length-set ys (a + n - 1) 0, s.size)) ∙ sym (is p h) ∙ sym m.head)
    inside i k (no z) (yes d) = untouched (a + i) (omega arith) (omega arith) ∙ s.kept (a + i) (inl (omega arith)) ∙ sym (is i (omega arith)) ∙ sym (m.before i (omega arith) d)
    inside i k (no z) (no d) =
        let b : i + 1 < n = omega (arith, m.size, all) in
        let e : a + i + 1 ≡ a + (i + 1) = omega arith in
        untouched (a + i) (omega arith) (omega arith) ∙ s.moved (a + i) (omega arith) (omega arith) ∙ ap (at xs) e ∙ sym (is (i + 1) b) ∙ sym (m.after i (omega arith) (omega (arith, all)))

    beyond : (i : ℕ) → length q ≤ i → i < 32 → Dec (i ≡ n - 1) → at (set (set ys (a + n - 1) 0) a (at xs (a + p))) (a + i) ≡ 0
    beyond i k b (yes e) =
        let f : a + i ≡ a + n - 1 = omega arith in
        rw f (get_or-set_other (set ys (a + n - 1) 0) a (a + n - 1) (at xs (a + p)) 0 (omega arith) ∙ get_or-set_same ys (a + n - 1) 0 0 (omega (arith, s.size)))
    beyond i k b (no e) = let c : n ≤ i = omega (arith, m.size, all) in untouched (a + i) (omega arith) (omega arith) ∙ s.kept (a + i) (inr (omega arith)) ∙ zero i c b

-- the row of a queue in which the entry at p follows
module _ (xs : List ℕ) (r p n : ℕ) (w : Row xs r n) (l : 1 ≤ p) (h : p < n) where
  abbrev row : List ℕ
  row = take n (drop (r * 32) xs)

  all : length row ≡ n
  all = part_length xs (r * 32) n (inr (omega (arith, w.size, w.resource, w.short)))

  there : at row p ≡ entry xs r p
  there = part_at xs (r * 32) n (inr (omega (arith, w.size, w.resource, w.short))) p h

  moved : MovedUp row p (release row (some (entry xs r p)))
  moved = subst (λ (x : ℕ). MovedUp row p (release row (some x))) there (moved_up row p w.differ l (omega (arith, all)))

  -- it is one shorter
  pub handed_length : length (release (take n (drop (r * 32) xs)) (some (entry xs r p))) ≡ n - 1
  handed_length = omega (arith, moved.size, all)

  -- and it is what the code leaves
  pub handed_row : (ys : List ℕ) → Shifted xs (r * 32 + p) (r * 32 + n - 1) ys →
      set (set ys (r * 32 + n - 1) 0) (r * 32) (entry xs r p) ≡ rewritten xs (r * 32) (release (take n (drop (r * 32) xs)) (some (entry xs r p)))
  handed_row ys s =
      row_is xs (r * 32) (release row (some (entry xs r p))) (omega (arith, w.size, w.resource)) (omega (arith, handed_length, w.short)) (set (set ys (r * 32 + n - 1) 0) (r * 32) (entry xs r p))
      (handed_over xs (r * 32) p n ys (release row (some (entry xs r p))) (omega (arith, w.size, w.resource)) w.short l h w.spare s moved)
