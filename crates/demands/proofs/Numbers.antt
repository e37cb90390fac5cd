-- The numbers of the step's answer, and the tables it gives back. Assumes nothing.
use mathlib.Core.Path.{◌≡◌, refl, sym, ap, ◌∙◌}
use mathlib.Core.Option.{Option, none, some}
use mathlib.Core.Logic.{◌≢◌, by_cases}
use native.Mathlib.Decide.{ℕ_discrete}
use Rattle.protocol.specs.Events.{Event}
use Rattle.table.specs.declared.Table.{Table}
use Rattle.table.specs.Compute.{runner}
use Rattle.refusals.specs.declared.Record.{Record}
use Rattle.refusals.specs.Refusals.{refusals, lowest}
use Rattle.events.specs.Events.{event_of}
use Rattle.events.proofs.Kept.Stays.{Right}
use Rattle.locks.specs.declared.Answer.{Answer}
use Rattle.locks.specs.declared.Done.{Done}
use Rattle.locks.specs.Answers.{accepted, refused, carried_out, answer_of}
use Rattle.locks.proofs.Answered.{refused_is, refused_runs}
use Rattle.demands.specs.Memory.{AnyTable, AnyRecord}
use Rattle.demands.specs.Calls.{Left, Calls}
use Rattle.demands.specs.Stated.{AsStated}

-- what is left is told by its two parts
pub left_is : {A : Type 0} {x : A} {u : Table} (l : Left A) → (l.answer ≡ x) × (l.table ≡ u) → l ≡ record { answer = x; table = u }
left_is l p = λ i. record { answer = p.0 i; table = p.1 i }

-- what is carried out gets 0, and names the running thread of the table afterwards
carried_0 : (t : Table) (o : Option Event) → (carried_out t o).answer.number ≡ 0
unfolding accepted carried_out
carried_0 t none = refl
carried_0 t (some ev) = refl

carried_runs : (t : Table) (o : Option Event) → (carried_out t o).answer.running ≡ runner (carried_out t o).table
unfolding accepted carried_out
carried_runs t none = refl
carried_runs t (some ev) = refl

module _ (t : Table) (e : Record) where
  -- a refused record gives back the very table
  pub kept : lowest (refusals t e) ≢ 0 → (answer_of t e).table ≡ t
  unfolding refused
  kept n = ap (λ (d : Done). d.table) (refused_is t e n)

  -- an accepted one is carried out
  done : lowest (refusals t e) ≡ 0 → answer_of t e ≡ carried_out t (event_of t e)
  unfolding answer_of
  done z = rw z

  -- the number is the lowest that applies
  pub number_is : (answer_of t e).answer.number ≡ lowest (refusals t e)
  unfolding refused
  number_is = by_cases (ℕ_discrete (lowest (refusals t e)) 0)
      (λ z. ap (λ (d : Done). d.answer.number) (done z) ∙ carried_0 t (event_of t e) ∙ sym z)
      (λ n. ap (λ (d : Done). d.answer.number) (refused_is t e n))

  -- on a sound table the running thread that is named is that of the table afterwards
  pub running_is : Right t → (answer_of t e).answer.running ≡ runner (answer_of t e).table
  running_is r = by_cases (ℕ_discrete (lowest (refusals t e)) 0)
      (λ z. rw (done z) (carried_runs t (event_of t e)))
      (λ n. ap (λ (d : Done). d.answer.running) (refused_is t e n) ∙ refused_runs t e r.0 r.1 ∙ sym (ap runner (kept n)))

-- the number that a step gives which does what the contract says
pub stated_number : (c : Calls) → AsStated c → (t : Table) (e : Record) → AnyTable t → AnyRecord e → (c.step t e).answer.number ≡ lowest (refusals t e)
stated_number c is t e a b = ap (λ (r : Answer). r.number) (is.step t e a b).0 ∙ number_is t e
