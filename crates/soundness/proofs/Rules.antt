-- The rules of soundness for queues and totals, place by place and in the paper's terms: the same. Assumes nothing.
use Prim.Native.Nat.{ℕ, ◌+◌, ◌≤◌, ◌<◌}
use mathlib.Core.Path.{◌≡◌, refl, sym, ap, subst, ◌∙◌}
use mathlib.Core.List.{List}
use mathlib.Core.Logic.{◌≢◌, ◌↔◌}
use native.Mathlib.Decide.{ℕ_discrete}
use native.Mathlib.Omega.{arith}
use Rattle.protocol.specs.Sets.{◌∈◌, set, Number}
use Rattle.protocol.specs.Children.{children}
use Rattle.protocol.proofs.Chains.{Ends}
use Rattle.protocol.proofs.Counting.{number_same, number_unique}
use Rattle.table.specs.declared.Table.{Table}
use Rattle.table.specs.Table.{at, queues}
use Rattle.table.specs.Sound.{QueuesRight, Bare}
use Rattle.table.specs.Code.Places.{entry}
use Rattle.table.specs.Code.Shape.{Shape}
use Rattle.table.proofs.Sound.Queues.{taken_low, in_queue, distinct_queue, holds_first, waits_behind, waits_low, behind_waits, OneQueue}
use Rattle.chains.specs.Ways.{EndsFrom}
use Rattle.chains.proofs.ways.Climbs.{Graphed, unheld_empty, walk_ends}
use Rattle.slots.specs.Slots.{AddsUp, AllAddUp}
use Rattle.queues.specs.Queues.{RowsRight, Surveyed}
use Rattle.soundness.proofs.Bounded.{bounded}

-- the totals of th add up, by the number of queues that it stands in
abbrev pub StandingTotal : Table → ℕ → Type 0
StandingTotal t th = (n : ℕ) × Number (λ cs. th ∈ set (queues t cs)) n × AddsUp t.clock (at t.requests th) (at t.releases th) n

module _ (t : Table) (shape : Shape t) where
  pub bare_rows : Bare t → RowsRight t.rows.queue t.rows.length t.live 16
  bare_rows b = let right = b.queues_right in record {
    lengths_right = λ r h. right.lengths r;
    live_entries = λ r i h l. right.live_entries r (entry t.rows.queue r i) ((in_queue t shape right.lengths r (entry t.rows.queue r i)).1 (i, l, refl));
    spare_zero = b.spare_places;
    not_head = λ r i h p l e. (distinct_queue t shape right.lengths r).0 (right.differ r) 0 i p l (sym e);
    different = λ r i j h p l k. (distinct_queue t shape right.lengths r).0 (right.differ r) i j l k;
    one_queue = λ r q x h k v w. b.one_wait x r q (behind_waits t shape right.lengths x r (right.differ r) v) (behind_waits t shape right.lengths x q (right.differ q) w);
  }

  module _ (rows : RowsRight t.rows.queue t.rows.length t.live 16) where
    rows_lengths : (r : ℕ) → at t.rows.length r ≤ 32
    rows_lengths = bounded t.rows.length 16 32 shape.length_size rows.lengths_right

    pub rows_right : QueuesRight t
    rows_right = record {
      lengths = rows_lengths;
      live_entries = λ r x h. let w = (in_queue t shape rows_lengths r x).0 h in subst (λ (y : ℕ). at t.live y ≡ 1) w.2 (rows.live_entries r w.0 (taken_low t shape r w.0 w.1) w.1);
      differ = λ r. (distinct_queue t shape rows_lengths r).1 (λ i j l k. apart r i j l k (ℕ_discrete i 0));
    }
      where
        apart : (r i j : ℕ) → i < j → j < at t.rows.length r → Dec (i ≡ 0) → entry t.rows.queue r i ≢ entry t.rows.queue r j
        apart r i j l k (yes z) e = rows.not_head r j (taken_low t shape r j k) (omega arith) k (sym e ∙ ap (entry t.rows.queue r) z)
        apart r i j l k (no n) e = rows.different r i j (taken_low t shape r j k) (omega arith) l k e

    pub rows_one_queue : OneQueue t
    rows_one_queue x r q v w = rows.one_queue r q x (waits_low t shape rows_lengths x r v) (waits_low t shape rows_lengths x q w) (waits_behind t shape rows_lengths x r v) (waits_behind t shape rows_lengths x q w)

    -- what the survey noted is the table's graph
    pub surveyed_graphed : {w h standing : List ℕ} → Surveyed t.rows.queue t.rows.length 16 w h standing → Graphed t w h
    surveyed_graphed s = record {
      waiting = λ x r v. s.waiting r x (waits_low t shape rows_lengths x r v) (waits_behind t shape rows_lengths x r v);
      free = λ x l none. s.free x l (λ r k b. none r (behind_waits t shape rows_lengths x r (rows_right.differ r) b));
      held = λ x r o. let f = (holds_first t shape rows_lengths x r).0 o in s.held r (taken_low t shape r 0 f.0) f.0 ∙ f.1;
      unheld = λ r l none. s.unheld r l (λ k. unheld_empty t shape rows_lengths r none);
    }

    -- and its ways end where the table's do
    pub surveyed_ends : {w h standing : List ℕ} → Surveyed t.rows.queue t.rows.length 16 w h standing → ((x : ℕ) → x < 32 → EndsFrom w h x) ↔ ((x : ℕ) → x < 32 → Ends (children (queues t)) x)
    surveyed_ends s = walk_ends t shape rows_right (surveyed_graphed s)

    -- in so many queues each thread stands, so that the totals add up where they do in the table's terms
    pub surveyed_totals : {w h standing : List ℕ} → Surveyed t.rows.queue t.rows.length 16 w h standing → AllAddUp t.clock t.requests t.releases standing ↔ ((th : ℕ) → th < 32 → StandingTotal t th)
    surveyed_totals {standing = standing} s = (
      (λ add th h. (at standing th, stands th h, add th h)),
      λ totals th h. let w = totals th h in (w.2.0 ∙ ap (λ (n : ℕ). at t.releases th + n) (number_unique w.1 (stands th h)), w.2.1),
    )
      where
        stands : (x : ℕ) → x < 32 → Number (λ cs. x ∈ set (queues t cs)) (at standing x)
        stands x h = number_same (λ r. let i = in_queue t shape rows_lengths r x in ((λ w. i.1 w.1), λ e. let w = i.0 e in (taken_low t shape r w.0 w.1, w))) (s.stands x h)
