-- `soundness::check::passes` meets its contract: each part that fails refutes what a sound table passes. Assumes nothing.
use Prim.Native.Nat.{ℕ, ◌<◌}
use mathlib.Core.Path.{◌≡◌, sym, ap, ◌∙◌}
use mathlib.Core.Bool.{Bool, true, false≢true}
use mathlib.Core.Logic.{◌↔◌}
use mathlib.Core.List.{List}
use native.Mathlib.Omega.{arith}
use borrow.Author.Tests.{lt-ltb}
use lib.ListN.{length}
use Rattle.std.specs.Str.{bytes_eq}
use Rattle.std.proofs.lemmas.List.{ext_get_or}
use Rattle.std.proofs.lemmas.Slice.Eq.{bytes_eq-Decides}
use Rattle.table.specs.Table.{at}
use Rattle.table.specs.Code.Shape.{Shape}
use Rattle.chains.specs.Ways.{here, EndsFrom}
use Rattle.queues.proofs.survey.Turns.{waits_nowhere}
use Rattle.soundness.proofs.Rules.{surveyed_ends, surveyed_totals}
use Rattle.soundness.proofs.Passed.{sound_passed}
use Rattle.soundness.proofs.Verdict.{known, lawful}
use Rattle.soundness.proofs.check.passes.Goals as goal
use Rattle.soundness.proofs.check.passes.Goals.{After-of, then-longest-lt-WAITED, else-longest-lt-WAITED}

-- the arrays have their sizes
shape : (c : After-of) → Shape c.args.t.now
shape c = record {
  live_size = omega arith;
  priority_size = omega arith;
  time_size = omega arith;
  current_priority_size = omega arith;
  current_time_size = omega arith;
  queue_size = c.of.ensures.sizes.0;
  length_size = c.of.ensures.sizes.1;
  requests_size = omega arith;
  releases_size = omega arith;
}

-- arrays of threads are equal where their places are
same_places : (xs ys : List ℕ) → length xs ≡ 32 → length ys ≡ 32 → {b : Bool} → b ≡ bytes_eq xs ys → (b ≡ true) ↔ ((th : ℕ) → th < 32 → at xs th ≡ at ys th)
same_places xs ys l k e = (
  λ yes th h. ap (λ (zs : List ℕ). at zs th) ((bytes_eq-Decides xs ys).0 (sym e ∙ yes)),
  λ same. e ∙ (bytes_eq-Decides xs ys).1 (ext_get_or 0 xs ys (l ∙ sym k) (λ th h. same th (omega arith))),
)

pub returns-in_default-clause-failed : goal.returns-in_default-clause-failed
returns-in_default-clause-failed c =
    λ owns currents no s. c.in_default.ensures.found (sound_passed _ (shape (goal.at.returns-in_default-clause-failed c).After-of) s).rows

pub returns-then-not-totals_right-clause-failed : goal.returns-then-not-totals_right-clause-failed
returns-then-not-totals_right-clause-failed c =
    λ owns currents no s.
    let a = shape (goal.at.returns-then-not-totals_right-clause-failed c).After-of in
    let q = c.in-Some.ensures.found in
    false≢true (sym c.if-not-totals_right.true ∙ c.totals_right.ensures.1 ((surveyed_totals _ a q.0 q.1).1 (sound_passed _ a s).totals))

pub returns-then-not-ends-clause-failed : goal.returns-then-not-ends-clause-failed
returns-then-not-ends-clause-failed c =
    λ owns currents no s.
    let a = shape (goal.at.returns-then-not-ends-clause-failed c).After-of in
    let q = c.in-Some.ensures.found in
    let ends = (surveyed_ends _ a q.0 q.1).1 (sound_passed _ a s).ends in
    false≢true
    (sym c.if-not-ends.true ∙ elim c.if-longest-lt-WAITED.branch [
      | then-longest-lt-WAITED w ↦ w.ends-is ∙ lt-ltb _ _ w.if-longest-lt-WAITED.true
      | else-longest-lt-WAITED w ↦ w.ends-is ∙ w.no_circle-ends.ensures.1 ends
    ])

pub returns-clause-passed : goal.returns-clause-passed
returns-clause-passed c =
    λ owns currents yes.
    let a = shape (goal.at.returns-clause-passed c).After-of in
    let q = c.in-Some.ensures.found in
    -- where no queue has a second entry nobody waits, so that every way ends at once
    let ends : (th : ℕ) → th < 32 → EndsFrom c.in-Some.found.graph.waits c.in-Some.found.graph.holders th =
    elim c.if-longest-lt-WAITED.branch [
      | then-longest-lt-WAITED w ↦ λ th h. (0, here {t = th} h (omega (arith, waits_nowhere _ _ c.longest.ensures (omega (arith, w.if-longest-lt-WAITED.true)) q.1 th h)))
      | else-longest-lt-WAITED w ↦ w.no_circle-ends.ensures.0 (sym w.ends-is ∙ c.if-not-ends.false)
    ] in
    known _ a _ _ owns currents c.slots_right.ensures.clock
    (record { slots = c.slots_right.ensures.right.0 c.if-not-slots_right.false; times = c.times_differ.ensures.0 c.if-not-times_differ.false; rows = q.0; ends = (surveyed_ends _ a q.0 q.1).0 ends; totals = (surveyed_totals _ a q.0 q.1).0 (c.totals_right.ensures.0 c.if-not-totals_right.false) })
    q.1 c.law_values.result c.law_values.ensures ((same_places _ _ (omega arith) (omega arith) c.eq.ensures).0 yes)

pub returns-clause-failed : goal.returns-clause-failed
returns-clause-failed c =
    λ owns currents no s.
    let a = shape (goal.at.returns-clause-failed c).After-of in
    let q = c.in-Some.ensures.found in
    false≢true
    (sym no ∙ (same_places _ _ (omega arith) (omega arith) c.eq.ensures).1 (lawful _ a _ _ owns currents c.slots_right.ensures.clock (sound_passed _ a s) q.1 c.law_values.result c.law_values.ensures s))
