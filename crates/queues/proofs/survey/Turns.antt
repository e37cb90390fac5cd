-- The queues' entries: what `row_right` learns of one queue in a turn, and `survey` of all. Assumes nothing.
use Prim.Native.Nat.{ℕ, zero, suc, ◌+◌, ◌≤◌, ◌<◌}
use mathlib.Core.Path.{◌≡◌, refl, sym, ap, ◌∙◌}
use mathlib.Core.Logic.{◌≢◌, inl, inr}
use mathlib.Core.List.{List}
use native.Mathlib.Omega.{arith}
use borrow.Author.Count.{below_more}
use lib.ListN.{length, set, length-set, replicate, get_or-replicate}
use lib.Seq.{get_or-set_same, get_or-set_other}
use Rattle.protocol.specs.Sets.{Max}
use Rattle.protocol.proofs.Counting.{number_none}
use Rattle.table.specs.Table.{at}
use Rattle.table.specs.Code.Places.{entry, Lengths}
use Rattle.table.proofs.Arrays.Bounds.{within}
use Rattle.queues.specs.Queues.{Stands, Entered, RowRight, Noted, Headed, Counted, RowsRight, Surveyed}
use Rattle.queues.proofs.survey.Standing.{stands_more}

-- a queue of one, or none, is right where its head is live
pub row_start : {queue live before : List ℕ} {r n : ℕ} → n ≤ 1 → (0 < n → at live (entry queue r 0) ≡ 1) → RowRight queue live before r n
row_start l a = record {
  live_entries = λ i h. let z : i ≡ 0 = omega arith in rw z (a (omega arith));
  not_head = λ i m h. absurd (omega arith);
  different = λ i j m h k. absurd (omega arith);
  fresh = λ i m h. absurd (omega arith);
}

-- and nobody waits in it
pub noted_none : {queue waits : List ℕ} {r n : ℕ} → n ≤ 1 → Noted queue waits waits r n
noted_none l = record { noted = λ x s. absurd (omega (arith, s.1, s.2)); kept = λ x g. refl }

-- what a turn shows of x, the entry at i: it is none of the entries before, and with it the queue is right and r noted for it
abbrev pub Turn : List ℕ → List ℕ → List ℕ → List ℕ → ℕ → ℕ → ℕ → Type 0
Turn queue live before after r i x = (¬ Entered queue r i x) × RowRight queue live before r (i + 1) × Noted queue before (set after x r) r (i + 1)

-- A turn: `after` is what `before` became by the entries before i, and has nothing yet for x.
module _ {queue before after : List ℕ} {r i x : ℕ} (e : entry queue r i ≡ x) (first : 1 ≤ i) (below : r < 16) (noted : Noted queue before after r i) (free : at after x ≡ 16) where
  new : ¬ Stands queue r i x
  new s = omega (arith, noted.noted x s)

  new_entry : entry queue r i ≢ entry queue r 0 → ¬ Entered queue r i x
  new_entry o (zero, l, q) = o (e ∙ sym q)
  new_entry o (suc j, l, q) = new (suc j, omega arith, l, q)

  row_more : {live : List ℕ} → RowRight queue live before r i → entry queue r i ≢ entry queue r 0 → at live (entry queue r i) ≡ 1 → RowRight queue live before r (i + 1)
  row_more {live} row o a = record {
    live_entries = below_more (λ j. at live (entry queue r j) ≡ 1) i row.live_entries a;
    not_head = λ j l h. below_more (λ j. 1 ≤ j → entry queue r j ≢ entry queue r 0) i (λ j h l. row.not_head j l h) (λ l. o) j h l;
    different = λ j k l m h. below_more (λ k. (j : ℕ) → 1 ≤ j → j < k → entry queue r j ≢ entry queue r k) i (λ k h j l m. row.different j k l m h) (λ j l m q. new (j, l, m, q ∙ e)) k h j l m;
    fresh = λ j l h. below_more (λ j. 1 ≤ j → at before (entry queue r j) ≡ 16) i (λ j h l. row.fresh j l h) (λ l. rw e (sym (noted.kept x new) ∙ free)) j h l;
  }

  noted_more : x < length after → Noted queue before (set after x r) r (i + 1)
  noted_more l = record {
    noted = λ y s. below_more (λ j. 1 ≤ j → entry queue r j ≡ y → at (set after x r) y ≡ r) i
        (λ j h l q. get_or-set_other after x y r 0 (λ z. new (j, l, h, q ∙ z)) ∙ noted.noted y (j, l, h, q))
        (λ m q. rw (sym q ∙ e) (get_or-set_same after x r 0 l)) s.0 s.2 s.1 s.3;
    kept = λ y g. get_or-set_other after x y r 0 (λ z. g (i, first, omega arith, e ∙ sym z)) ∙ noted.kept y (λ s. g (s.0, s.1, omega (arith, s.2), s.3));
  }

  pub row_turn : {live : List ℕ} → RowRight queue live before r i → entry queue r i ≢ entry queue r 0 → at live (entry queue r i) ≡ 1 → x < length after → Turn queue live before after r i x
  row_turn row o a l = (new_entry o, row_more row o a, noted_more l)

-- in a right queue there is nothing yet for an entry
pub still_free : {queue live before after : List ℕ} {r n i : ℕ} → RowRight queue live before r n → Noted queue before after r i → 1 ≤ i → i < n → at after (entry queue r i) ≡ 16
still_free {queue} {r = r} {i = i} row noted l h = noted.kept (entry queue r i) (λ s. row.different s.0 i s.1 s.2 h s.3) ∙ row.fresh i l h

-- no queue, so that nobody waits and nobody holds
pub rows_none : {queue lengths live : List ℕ} → RowsRight queue lengths live 0
rows_none = record {
  lengths_right = λ r h. absurd (omega arith);
  live_entries = λ r i h l. absurd (omega arith);
  spare_zero = λ r i h l m. absurd (omega arith);
  not_head = λ r i h l m. absurd (omega arith);
  different = λ r i j h l m n. absurd (omega arith);
  one_queue = λ r q x h l a b. absurd (omega arith);
}

pub surveyed_none : {queue lengths : List ℕ} → Surveyed queue lengths 0 (replicate 32 16) (replicate 16 32) (replicate 32 0)
surveyed_none = record {
  waiting = λ r x h s. absurd (omega arith);
  free = λ x h g. get_or-replicate 32 x 16 0 h;
  held = λ r h l. absurd (omega arith);
  unheld = λ r h z. get_or-replicate 16 r 32 0 h;
  stands = λ x h. rw (get_or-replicate {A = ℕ} 32 x 0 0 h) (number_none (λ r w. omega (arith, w.0)));
}

-- where no queue has a second entry nobody waits
pub waits_nowhere : (queue lengths : List ℕ) {waits holders standing : List ℕ} {n : ℕ} → Max ◌≤◌ (Lengths lengths 16) n → n < 2 → Surveyed queue lengths 16 waits holders standing → (x : ℕ) → x < 32 → at waits x ≡ 16
waits_nowhere queue lengths longest few known x h = known.free x h (λ r l s. omega (arith, longest.bound _ (inr (r, l, refl)), s.1, s.2))

-- One queue more: `waits`, `holders` and `standing` have what the first r queues say, and the queue of r, of length n, is right.
module _ {queue lengths live waits holders standing : List ℕ} {r n : ℕ} (e : n ≡ at lengths r) (below : r < 16) (known : Surveyed queue lengths r waits holders standing) (row : RowRight queue live waits r n) where
  elsewhere : (q x : ℕ) → q < r → Stands queue q (at lengths q) x → ¬ Stands queue r n x
  elsewhere q x l a b =
      let f : at waits x ≡ 16 = rw b.3 at (row.fresh b.0 b.1 b.2) in
      omega (arith, known.waiting q x l a)

  -- n is the length
  here : (x : ℕ) → Stands queue r (at lengths r) x → Stands queue r n x
  here x s = (s.0, s.1, omega (arith, s.2), s.3)

  rows_more : RowsRight queue lengths live r → n ≤ 32 → ((i : ℕ) → n ≤ i → i < 32 → entry queue r i ≡ 0) → RowsRight queue lengths live (r + 1)
  rows_more rows l z = record {
    lengths_right = below_more (λ q. at lengths q ≤ 32) r rows.lengths_right (omega arith);
    live_entries = λ q i h. below_more (λ q. (i : ℕ) → i < at lengths q → at live (entry queue q i) ≡ 1) r (λ q h i. rows.live_entries q i h) (λ i l. row.live_entries i (omega arith)) q h i;
    spare_zero = λ q i h. below_more (λ q. (i : ℕ) → at lengths q ≤ i → i < 32 → entry queue q i ≡ 0) r (λ q h i. rows.spare_zero q i h) (λ i l. z i (omega arith)) q h i;
    not_head = λ q i h. below_more (λ q. (i : ℕ) → 1 ≤ i → i < at lengths q → entry queue q i ≢ entry queue q 0) r (λ q h i. rows.not_head q i h) (λ i l h. row.not_head i l (omega arith)) q h i;
    different = λ q i j h. below_more (λ q. (i j : ℕ) → 1 ≤ i → i < j → j < at lengths q → entry queue q i ≢ entry queue q j) r (λ q h i j. rows.different q i j h) (λ i j l m h. row.different i j l m (omega arith)) q h i j;
    one_queue = λ p q x h l. below_more (λ p. Stands queue p (at lengths p) x → Stands queue q (at lengths q) x → p ≡ q) r
        (λ p h. below_more (λ q. Stands queue p (at lengths p) x → Stands queue q (at lengths q) x → p ≡ q) r (λ q l. rows.one_queue p q x h l) (λ a b. absurd (elsewhere p x h a (here x b))) q l)
        (below_more (λ q. Stands queue r (at lengths r) x → Stands queue q (at lengths q) x → r ≡ q) r (λ q l a b. absurd (elsewhere q x l b (here x a))) (λ a b. refl) q l) p h;
  }

  module _ {after counts : List ℕ} (noted : Noted queue waits after r n) (counted : Counted queue standing counts r n) where
    waiting_more : (q x : ℕ) → q < r + 1 → Stands queue q (at lengths q) x → at after x ≡ q
    waiting_more q x h = below_more (λ q. Stands queue q (at lengths q) x → at after x ≡ q) r (λ q h s. noted.kept x (elsewhere q x h s) ∙ known.waiting q x h s) (λ s. noted.noted x (here x s)) q h

    free_more : (x : ℕ) → x < 32 → ((q : ℕ) → q < r + 1 → ¬ Stands queue q (at lengths q) x) → at after x ≡ 16
    free_more x l g = noted.kept x (rw e (g r (omega arith))) ∙ known.free x l (λ q h. g q (omega arith))

    -- r is held by its first entry
    held_more : length holders ≡ 16 → 0 < n → Surveyed queue lengths (r + 1) after (set holders r (entry queue r 0)) counts
    held_more size some = record {
      waiting = waiting_more;
      free = free_more;
      held = λ q h. below_more (λ q. 0 < at lengths q → at (set holders r (entry queue r 0)) q ≡ entry queue q 0) r
          (λ q h l. get_or-set_other holders r q (entry queue r 0) 0 (omega arith) ∙ known.held q h l)
          (λ l. get_or-set_same holders r (entry queue r 0) 0 (omega arith)) q h;
      unheld = λ q h z. let n : q ≢ r = λ d. omega (arith, z (omega arith), ap (at lengths) d) in get_or-set_other holders r q (entry queue r 0) 0 n ∙ known.unheld q h (λ l. z (omega arith));
      stands = λ x h. stands_more counted lengths e x (known.stands x h);
    }

    -- or by nobody
    unheld_more : n ≤ 0 → Surveyed queue lengths (r + 1) after holders counts
    unheld_more none = record {
      waiting = waiting_more;
      free = free_more;
      held = λ q h. below_more (λ q. 0 < at lengths q → at holders q ≡ entry queue q 0) r known.held (λ l. absurd (omega arith)) q h;
      unheld = λ q h z. known.unheld q h (λ l. z (omega arith));
      stands = λ x h. stands_more counted lengths e x (known.stands x h);
    }

    -- what a turn leaves
    pub rows_turn : RowsRight queue lengths live r → n ≤ 32 → ((i : ℕ) → n ≤ i → i < 32 → entry queue r i ≡ 0) → length holders ≡ 16 → {left : List ℕ} →
        Headed queue holders left r n → RowsRight queue lengths live (r + 1) × (length left ≡ 16) × Surveyed queue lengths (r + 1) after left counts
    rows_turn rows l z size (inl (some, f)) = (rows_more rows l z, rw (f, length-set) size, rw f (held_more size some))
    rows_turn rows l z size (inr (none, f)) = (rows_more rows l z, rw f size, rw f (unheld_more none))

-- where all queues are right, so is the queue of r
pub row_of_rows : {queue lengths live waits holders standing : List ℕ} {r n : ℕ} → n ≡ at lengths r → r < 16 → Surveyed queue lengths r waits holders standing → length live ≡ 32 → RowsRight queue lengths live 16 → RowRight queue live waits r n
row_of_rows {queue} {live = live} {r = r} e below known f rows = rw e (record {
  live_entries = λ i. rows.live_entries r i below;
  not_head = λ i. rows.not_head r i below;
  different = λ i j. rows.different r i j below;
  fresh = λ i l h. known.free (entry queue r i) (omega (arith, within live (entry queue r i) (omega (arith, rows.live_entries r i below h))))
      (λ q m s. let z : q ≡ r = rows.one_queue q r (entry queue r i) (omega arith) below s (i, l, h, refl) in omega arith);
})
