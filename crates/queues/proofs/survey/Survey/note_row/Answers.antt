-- `queues::survey::Survey::note_row` meets its contract. Assumes nothing.
use Prim.Native.Nat.{ℕ, ◌+◌, ◌<◌}
use mathlib.Core.Path.{◌≡◌, refl, sym, ◌∙◌}
use mathlib.Core.Bool.{false≢true}
use mathlib.Core.Logic.{inl}
use mathlib.Core.List.{List}
use native.Mathlib.Omega.{arith}
use lib.ListN.{length, set, length-set}
use Rattle.std.specs.Prelude.{slice_set}
use Rattle.table.specs.Table.{at}
use Rattle.table.proofs.Arrays.Bounds.{within}
use Rattle.queues.specs.Queues.{Noted}
use Rattle.queues.proofs.survey.Cut.{Cut, cut_out}
use Rattle.queues.proofs.survey.Standing.{counted_none, counted_more}
use Rattle.queues.proofs.survey.Turns.{row_start, noted_none, row_turn, still_free}
use Rattle.queues.proofs.survey.Survey.note_row.Goals as goal
use Rattle.queues.proofs.survey.Survey.note_row.Goals.{In-Some, then-twice-via-then-twice, then-twice-via-else-twice+then-not-is_live-2, then-twice-via-else-twice+else-not-is_live-2+then-self-at-ne-NOTHING}

-- the entries that were cut out are those of the queue
entries : (c : In-Some) → Cut c.args.queue.now c.args.r c.args.n c.in-Some.head.now c.in-Some.waiters.now
entries c = cut_out _ _ _ _ _ c.from-start.ensures (omega arith) (omega arith) c.in-Some.ensures.cases.0

-- a live thread has a place in each array
low : (live : List ℕ) (x : ℕ) → length live ≡ 32 → at live x ≡ 1 → x < 32
low live x e a = omega (arith, within live x (omega arith))

-- a byte put into an array, its place and its value told by other names
placed : (before : List ℕ) {after : List ℕ} {i r x y : ℕ} → after ≡ slice_set before i x → i ≡ r → x ≡ y → after ≡ slice_set before r y
placed before e place value = rw (← place, ← value) e

-- and so one that is noted,
noted_at : {queue before : List ℕ} (after : List ℕ) {r i x y q : ℕ} → Noted queue before (set after x r) r i → y ≡ x → q ≡ r → Noted queue before (set after y q) r i
noted_at _ noted place value = rw (place, value) noted

-- and one that was read
live_at : (live : List ℕ) (x : ℕ) {y : ℕ} → at live x ≡ 1 → y ≡ x → at live y ≡ 1
live_at _ _ live place = rw place live

pub loop-x-init : goal.loop-x-init
loop-x-init c =
    let cut = entries (goal.at.loop-x-init c).In-Some in
    let live = c.is_live.ensures.0 c.if-not-is_live.false in
    let there = low c.args.live.now c.in-Some.head.now c.told-live live in
    record {
      waits_size = omega arith;
      standing_size = simp length-set (omega arith);
      row = row_start (omega arith) (λ _. rw cut.first live);
      noted = noted_none (omega arith);
      held = refl;
      counted = counted_more {i = 0} (cut.first ∙ sym c.from-3.ensures) (λ s. omega (arith, s.1)) (omega arith) (counted_none (omega arith));
    }

-- in a right row none of the three tests finds anything
pub returns-then-twice-clause-right : goal.returns-then-twice-clause-right
returns-then-twice-clause-right c =
    λ row.
    let cut = entries (goal.at.returns-then-twice-clause-right c).In-Some in
    let i = c.loop-x.x-index + 1 in
    let inv = c.loop-x.invariant in
    let here = cut.next c.loop-x.x-index c.loop-x-test.true in
    let below : i < c.args.n = omega (arith, cut.many, c.loop-x-test.true) in
    absurd
    (elim c.then-twice.branch [
      | then-twice-via-then-twice w ↦ row.not_head i (omega arith) below (omega (arith, here, w.if-twice.true, cut.first))
      | then-twice-via-else-twice+then-not-is_live-2 w ↦ false≢true (sym w.if-not-is_live-2.true ∙ w.is_live-else-twice.ensures.1 (grind (arith, here, row.live_entries i below)))
      | then-twice-via-else-twice+else-not-is_live-2+then-self-at-ne-NOTHING w ↦ w.if-self-at-ne-NOTHING.true (rw (c.from-at.ensures, ← here) (still_free row inv.noted (omega arith) below))
    ])

pub loop-x-preserved : goal.loop-x-preserved
loop-x-preserved c =
    let cut = entries (goal.at.loop-x-preserved c).In-Some in
    let inv = c.loop-x.invariant in
    let here = cut.next c.loop-x.x-index c.loop-x-test.true ∙ sym c.from-at.ensures in
    let live : at c.args.live.now c.from-at.result ≡ 1 = live_at c.args.live.now _ (c.is_live-else-twice.ensures.0 c.if-not-is_live-2.false) (omega arith) in
    let there = low c.args.live.now c.from-at.result c.told-live live in
    let turn = row_turn here (omega arith) c.requires.0 inv.noted c.if-self-at-ne-NOTHING.false inv.row (λ e. c.if-twice.false (omega (arith, here, e, cut.first))) (rw here live) (omega arith) in
    record {
      waits_size = simp length-set (omega arith);
      standing_size = simp length-set (omega arith);
      row = turn.1;
      noted = noted_at _ turn.2 (omega arith) (omega arith);
      held = inv.held;
      counted = counted_more here turn.0 (omega arith) inv.counted;
    }

pub returns-clause-noted : goal.returns-clause-noted
returns-clause-noted c =
    let cut = entries (goal.at.returns-clause-noted c).In-Some in
    let inv = c.loop-x.invariant in
    let e : c.loop-x.x-index + 1 ≡ c.args.n = omega (arith, cut.many) in
    λ _. (rw e at inv.row, rw e at inv.noted, inl (omega (arith, e), placed c.args.self.now.graph.holders inv.held c.from-2.ensures (omega (arith, cut.first))), rw e at inv.counted)
