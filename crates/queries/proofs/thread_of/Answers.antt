-- `queries::thread_of` meets its contract. Assumes nothing.
use mathlib.Core.Path.{refl, ◌∙◌}
use native.Mathlib.Omega.{arith}
use borrow.Author.Tests.{lt-ltb, le-ltb, eq-eqb, ne_eqb}
use Rattle.table.specs.Table.{at}
use Rattle.table.specs.Compute.{is_live}
use Rattle.table.proofs.Sound.Typed.{typed_shape}
use Rattle.table.proofs.Sound.Read.{current_stored}
use Rattle.soundness.proofs.Found.{found_sound, found_unsound}
use Rattle.refusals.specs.Refusals.{unsound, lowest}
use Rattle.queries.specs.Queries.{thread_refusals, thread_told, thread_answer}
use Rattle.queries.proofs.thread_of.Goals as goal

-- a table by value has the sizes of its arrays by its type
pub returns-in_default : goal.returns-in_default
unfolding is_live unsound thread_refusals thread_told thread_answer lowest
returns-in_default c = c.refused.ensures ∙ rw (found_unsound _ (typed_shape _ c.well_formed.0) c.in_default.ensures)

pub returns-then-i-ge-THREADS : goal.returns-then-i-ge-THREADS
unfolding is_live unsound thread_refusals thread_told thread_answer lowest
returns-then-i-ge-THREADS c =
    c.refused-then-i-ge-THREADS.ensures ∙ rw (found_sound _ c.in-Some.ensures, lt-ltb 31 c.args.thread (omega (arith, c.from-i.ensures, c.if-i-ge-THREADS.true))) refl

pub returns-then-t-i-ne1 : goal.returns-then-t-i-ne1
unfolding is_live unsound thread_refusals thread_told thread_answer lowest
returns-then-t-i-ne1 c =
    c.refused-then-t-i-ne1.ensures
    ∙ rw (found_sound _ c.in-Some.ensures, le-ltb 31 c.args.thread (omega (arith, c.from-i.ensures, c.if-i-ge-THREADS.false)), ← c.from-i.ensures, ne_eqb _ _ c.if-t-i-ne1.true) refl

-- the answer is written out, so that the refusal of a wrong value names it
pub returns : goal.returns
unfolding is_live unsound thread_refusals thread_told thread_answer lowest
returns c =
    let t = c.args.t in
    let i = c.from-i.result in
    let known = c.in-Some.ensures in
    rw (found_sound t known, ← c.from-i.ensures, le-ltb 31 i (omega arith), eq-eqb _ _ c.if-t-i-ne1.false, current_stored t known.shape known.sound i c.if-t-i-ne1.false)
    (λ x. record { number = 0; priority = at t.priority i; time = at t.time i; current_priority = at t.current_priority i; current_time = at t.current_time i; waits_for = known.tracks.waits_right i (omega arith) x; requests = at t.requests i; releases = at t.releases i })
