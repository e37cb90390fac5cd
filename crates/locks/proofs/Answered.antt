-- The answer, by the number of the refusal. Assumes nothing.
use Prim.Native.Nat.{ℕ}
use mathlib.Core.Path.{◌≡◌, ◌∙◌}
use mathlib.Core.Bool.{false}
use mathlib.Core.Option.{some}
use mathlib.Core.Logic.{◌≢◌}
use borrow.Author.Tests.{ne_eqb}
use Rattle.protocol.specs.Events.{Event}
use Rattle.table.specs.declared.Table.{Table}
use Rattle.table.specs.Sound.{Sound}
use Rattle.table.specs.Code.Shape.{Shape}
use Rattle.table.specs.Compute.{is_sound, runner}
use Rattle.refusals.specs.declared.Record.{Record}
use Rattle.refusals.specs.Refusals.{unsound, refusals, lowest}
use Rattle.refusals.proofs.Given.Exactly.{exactly, given_1}
use Rattle.events.specs.Events.{settled, changed, event_of}
use Rattle.events.specs.Count.{count}
use Rattle.locks.specs.Answers.{accepted, refused, carried_out, answer_of}

module _ (t : Table) (e : Record) where
  pub not_sound : is_sound t ≡ false → answer_of t e ≡ record { answer = record { number = 1; running = 32; count = 0 }; table = t }
  unfolding answer_of refused unsound refusals lowest
  not_sound s = rw s

  -- a refused record: its number, and the very table
  pub refused_is : lowest (refusals t e) ≢ 0 → answer_of t e ≡ refused t (lowest (refusals t e))
  unfolding answer_of
  refused_is n = rw (ne_eqb (lowest (refusals t e)) 0 n)

  -- on a sound table it names the running thread
  pub refused_runs : Shape t → Sound t → (refused t (lowest (refusals t e))).answer.running ≡ runner t
  unfolding refused
  refused_runs s sound = rw (ne_eqb (lowest (refusals t e)) 1 (λ z. given_1 t e (lowest (refusals t e)) (exactly t e s) z sound))

  pub turned_down : (n r : ℕ) → Shape t → Sound t → n ≡ lowest (refusals t e) → n ≢ 0 → r ≡ runner t → answer_of t e ≡ record { answer = record { number = n; running = r; count = 0 }; table = t }
  unfolding refused
  turned_down n r s sound q z u = refused_is (λ k. z (q ∙ k)) ∙ rw (q, u, refused_runs s sound)

  -- an accepted one: its event
  pub let_through : lowest (refusals t e) ≡ 0 → {ev : Event} → event_of t e ≡ some ev → answer_of t e ≡ accepted (settled (changed t ev)) (count t ev)
  unfolding answer_of carried_out
  let_through z named = rw (z, named)
