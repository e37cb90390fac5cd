-- In how many queues each thread stands: what `row_right` counts of one queue, and `survey` of all. Assumes nothing.
use Prim.Native.Nat.{ℕ, ◌+◌, ◌≤◌, ◌<◌}
use mathlib.Core.Path.{◌≡◌, refl, sym, ◌∙◌}
use mathlib.Core.Logic.Dec
use mathlib.Core.Logic.{by_cases}
use mathlib.Core.List.{List}
use native.Mathlib.Decide.{ℕ_discrete, dec_lt, map_dec}
use native.Mathlib.Numerals.{add-one}
use native.Mathlib.Omega.{arith}
use borrow.Author.Count.{below_more}
use lib.ListN.{length, set}
use lib.Seq.{get_or-set_same, get_or-set_other}
use Rattle.protocol.specs.Sets.{Number}
use Rattle.protocol.proofs.Counting.{number_with, number_without}
use Rattle.protocol.proofs.Decide.{dec_some}
use Rattle.table.specs.Table.{at}
use Rattle.table.specs.Code.Places.{entry}
use Rattle.queues.specs.Queues.{Entered, Counted}

-- in no entries nobody stands
pub counted_none : {queue standing : List ℕ} {r n : ℕ} → n ≤ 0 → Counted queue standing standing r n
counted_none l = record { counted = λ x s. absurd (omega (arith, s.1)); kept = λ x g. refl }

-- one entry more, which is none of those before
pub counted_more : {queue before after : List ℕ} {r i x : ℕ} → entry queue r i ≡ x → ¬ Entered queue r i x → x < length after → Counted queue before after r i → Counted queue before (set after x (at after x + 1)) r (i + 1)
counted_more {queue} {before} {after} {r} {i} {x} e new l counted = record {
  counted = λ y s. below_more (λ j. entry queue r j ≡ y → at (set after x (at after x + 1)) y ≡ at before y + 1) i
      (λ j h q. get_or-set_other after x y (at after x + 1) 0 (λ z. new (j, h, q ∙ z)) ∙ counted.counted y (j, h, q))
      (λ q. rw (sym q ∙ e) (get_or-set_same after x (at after x + 1) 0 l ∙ rw (counted.kept x new))) s.0 s.1 s.2;
  kept = λ y g. get_or-set_other after x y (at after x + 1) 0 (λ z. g (i, omega arith, e ∙ sym z)) ∙ counted.kept y (λ s. g (s.0, omega (arith, s.1), s.2));
}

-- One queue more, that of r: `before` and `after` have in how many queues each thread stands without it and with it.
module _ {queue before after : List ℕ} {r n : ℕ} (counted : Counted queue before after r n) where
  -- whether x stands in it
  dec_entered : (x : ℕ) → Dec (Entered queue r n x)
  dec_entered x = map_dec (λ w. (w.0, w.1.0, w.1.1)) (λ s. (s.0, (s.1, s.2))) (dec_some (λ i. (i < n) × (entry queue r i ≡ x)) (λ i. Dec.and (dec_lt i n) (ℕ_discrete (entry queue r i) x)) n (λ i w. w.0))

  -- each stands in one more at most
  pub few_more : ((x : ℕ) → at before x ≤ r) → (x : ℕ) → at after x ≤ r + 1
  few_more few x = by_cases (dec_entered x) (λ s. omega (arith, counted.counted x s, few x)) (λ g. omega (arith, counted.kept x g, few x))

  pub stands_more : (lengths : List ℕ) → n ≡ at lengths r → (x : ℕ) →
      Number (λ q. (q < r) × Entered queue q (at lengths q) x) (at before x) → Number (λ q. (q < r + 1) × Entered queue q (at lengths q) x) (at after x)
  stands_more lengths e x c = rw (add-one r) (by_cases (dec_entered x) (λ s. rw (counted.counted x s, add-one (at before x)) (number_with c (rw e at s))) (λ g. rw (counted.kept x g) (number_without c (rw e at g))))
