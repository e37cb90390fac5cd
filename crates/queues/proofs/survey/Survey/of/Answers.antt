-- `queues::survey::Survey::of` meets its contract. Assumes nothing.
use Prim.Native.Nat.{ℕ, ◌≤◌, ◌<◌}
use mathlib.Core.Path.{◌≡◌, refl, sym, ap, ◌∙◌}
use mathlib.Core.Bool.{false≢true}
use mathlib.Core.Logic.{inr}
use mathlib.Core.List.{List}
use native.Mathlib.Omega.{arith}
use Rattle.protocol.specs.Sets.{Max}
use Rattle.table.specs.Table.{at}
use Rattle.table.specs.Code.Places.{Lengths}
use Rattle.table.proofs.Sound.Empty.{zeros}
use Rattle.queues.proofs.survey.Standing.{few_more}
use Rattle.queues.proofs.survey.Turns.{rows_none, surveyed_none, rows_turn, row_of_rows}
use Rattle.queues.proofs.survey.Survey.of.Goals as goal
use Rattle.queues.proofs.survey.Survey.of.Goals.{then-not-spare_zero-via-then-not-spare_zero, then-not-spare_zero-via-else-not-spare_zero+then-not-note_row}

-- each queue is at most as long as the longest
short : (lengths : List ℕ) (r n m : ℕ) → Max ◌≤◌ (Lengths lengths 16) m → m ≤ 32 → r < 16 → n ≡ r → at lengths n ≤ 32
short lengths r n m longest l h e = omega (arith, longest.bound (at lengths n) (inr (r, h, ap (at lengths) e)))

pub loop-r-init : goal.loop-r-init
loop-r-init c = rw c.empty.ensures (record { holders_size = refl; few = λ x. omega (arith, zeros 32 x); right = rows_none; known = surveyed_none })

pub spare_zero-requires : goal.spare_zero-requires
spare_zero-requires c = (c.loop-r-test.true, short _ _ _ _ c.longest-too_long.ensures c.if-too_long.false c.loop-r-test.true c.from.ensures)

pub note_row-requires : goal.note_row-requires
note_row-requires c = (c.loop-r-test.true, short _ _ _ _ c.longest-too_long.ensures c.if-too_long.false c.loop-r-test.true c.from.ensures, c.loop-r.invariant.few)

pub returns-then-not-spare_zero-clause-found : goal.returns-then-not-spare_zero-clause-found
returns-then-not-spare_zero-clause-found c =
    λ rows.
    elim c.then-not-spare_zero.branch [
      | then-not-spare_zero-via-then-not-spare_zero w ↦
          false≢true (sym w.if-not-spare_zero.true ∙ c.spare_zero.ensures.1 (λ i l h. rows.spare_zero c.loop-r.r i c.loop-r-test.true (rw (← c.from.ensures) l) h))
      | then-not-spare_zero-via-else-not-spare_zero+then-not-note_row w ↦
          false≢true (sym w.if-not-note_row.true ∙ w.note_row.ensures.right (row_of_rows (ap (at c.args.rows.now.length) c.from.ensures) c.loop-r-test.true c.loop-r.invariant.known c.told-live rows))
    ]

pub loop-r-preserved : goal.loop-r-preserved
loop-r-preserved c =
    let inv = c.loop-r.invariant in
    let found = c.note_row.ensures.noted c.if-not-note_row.false in
    let e = ap (at c.args.rows.now.length) c.from.ensures in
    let few = short _ _ _ _ c.longest-too_long.ensures c.if-too_long.false c.loop-r-test.true c.from.ensures in
    let done = rows_turn e c.loop-r-test.true inv.known found.0 found.1 found.3 inv.right few (c.spare_zero.ensures.0 c.if-not-spare_zero.false) inv.holders_size found.2 in
    record { holders_size = done.1; few = few_more found.3 inv.few; right = done.0; known = done.2 }
