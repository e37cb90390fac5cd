-- `refusals::refusal::refusal` meets its contract: the parts follow each other as `proofs/Given/Parts.antt` says. Assumes nothing.
use Prim.Native.Nat.{ℕ}
use mathlib.Core.Path.{◌≡◌, sym, ◌∙◌}
use mathlib.Core.Bool.{true}
use mathlib.Core.List.{List}
use Rattle.std.proofs.lemmas.Result.{err_from_is_err_and}
use Rattle.table.specs.declared.Table.{Table}
use Rattle.table.specs.Compute.{is_sound}
use Rattle.table.specs.Code.Tracks.{Known}
use Rattle.table.proofs.Tests.Decided.{tells_sound}
use Rattle.refusals.specs.declared.Record.{Record}
use Rattle.refusals.specs.declared.reasons.Reason.{Reason}
use Rattle.refusals.specs.Numbers.{reason_number}
use Rattle.refusals.specs.Refusals.{lowest, refusals, by_record, by_thread, by_queues}
use Rattle.refusals.proofs.Given.Parts.{above_0, given_record, given_thread, given_queues}
use Rattle.refusals.proofs.refusal.refusal.Goals as goal

is_right : {t : Table} {waits holders owns currents : List ℕ} → Known t waits holders owns currents → is_sound t ≡ true
is_right {t} known = (tells_sound t known.shape).1 known.sound

module _ {t : Table} {waits holders owns currents : List ℕ} (known : Known t waits holders owns currents) (e : Record) where
  -- the number of a part that refuses is the number that is given, where the parts before it let the record through
  of_record : (reason : Reason) → reason_number reason ≡ lowest (by_record e) → reason_number reason ≡ lowest (refusals t e)
  of_record reason is = is ∙ sym (given_record t e (is_right known) (λ z. above_0 reason (is ∙ z)))

  of_thread : (reason : Reason) → 0 ≡ lowest (by_record e) → reason_number reason ≡ lowest (by_thread t e) → reason_number reason ≡ lowest (refusals t e)
  of_thread reason none is = is ∙ sym (given_thread t e (is_right known) (sym none) (λ z. above_0 reason (is ∙ z)))

  of_queues : {n : ℕ} → 0 ≡ lowest (by_record e) → 0 ≡ lowest (by_thread t e) → n ≡ lowest (by_queues t e) → n ≡ lowest (refusals t e)
  of_queues none unrefused is = is ∙ sym (given_queues t e (is_right known) (sym none) (sym unrefused))

pub returns-in_err-kind-clause-number : goal.returns-in_err-kind-clause-number
returns-in_err-kind-clause-number c owns currents known running =
    let p = err_from_is_err_and c.from_residual.result c.from_residual.ensures.1 in
    rw (p.1, p.2) (of_record known _ _ c.in_err-kind.ensures.number)

pub returns-in_err-by_thread-clause-number : goal.returns-in_err-by_thread-clause-number
returns-in_err-by_thread-clause-number c owns currents known running =
    let p = err_from_is_err_and c.from_residual-in_err-by_thread.result c.from_residual-in_err-by_thread.ensures.1 in
    let before = c.in_ok-kind.ensures in
    rw (p.1, p.2) (of_thread known _ _ before.number (c.in_err-by_thread.ensures.number before.kind running))

pub returns-in_err-by_queues-clause-number : goal.returns-in_err-by_queues-clause-number
returns-in_err-by_queues-clause-number c owns currents known running =
    let p = err_from_is_err_and c.from_residual-in_err-by_queues.result c.from_residual-in_err-by_queues.ensures.1 in
    let before = c.in_ok-kind.ensures in
    rw (p.1, p.2) (of_queues known _ before.number (c.in_ok-by_thread.ensures.number before.kind running) (c.in_err-by_queues.ensures _ _ _ known before.kind before.thread))

pub returns-clause-number : goal.returns-clause-number
returns-clause-number c owns currents known running =
    let before = c.in_ok-kind.ensures in
    of_queues known _ before.number (c.in_ok-by_thread.ensures.number before.kind running) (c.in_ok-by_queues.ensures _ _ _ known before.kind before.thread)
