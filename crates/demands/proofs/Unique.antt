-- Document 01, "How much each call's statement says": no two results satisfy the statement of a call for one input. Assumes nothing.
use Prim.Native.Nat.{ℕ}
use mathlib.Core.Path.{◌≡◌, sym, ◌∙◌}
use mathlib.Core.Bool.{Bool}
use Rattle.table.specs.declared.Table.{Table}
use Rattle.table.proofs.Table.empty.Reads as EmptyTable
use Rattle.table.proofs.Tests.Reflect.{same_test}
use Rattle.soundness.proofs.check.sound.Reads as sound
use Rattle.refusals.specs.declared.Record.{Record}
use Rattle.queries.specs.declared.RunningAnswer.{RunningAnswer}
use Rattle.queries.specs.declared.ThreadAnswer.{ThreadAnswer}
use Rattle.queries.specs.declared.ResourceAnswer.{ResourceAnswer}
use Rattle.queries.proofs.running_of.Reads as RunningOf
use Rattle.queries.proofs.thread_of.Reads as ThreadOf
use Rattle.queries.proofs.resource_of.Reads as ResourceOf
use Rattle.locks.specs.declared.Answer.{Answer}
use Rattle.locks.specs.declared.Done.{Done}
use Rattle.locks.proofs.step.step.Reads as step_of_lem
use Rattle.demands.specs.Calls.{Left}
use Rattle.demands.specs.Contracts.{EmptySays, StepSays, RunningSays, ThreadSays, ResourceSays}
use Rattle.demands.proofs.Numbers.{left_is}

one : {A : Type 0} {x : A} (a b : A) → a ≡ x → b ≡ x → a ≡ b
one a b p q = p ∙ sym q

left_one : {A : Type 0} {x : A} {u : Table} (a b : Left A) → (a.answer ≡ x) × (a.table ≡ u) → (b.answer ≡ x) × (b.table ≡ u) → a ≡ b
left_one a b p q = one a b (left_is a p) (left_is b q)

-- The calls that are lent the table: the answer, and the whole table afterwards.

pub empty_one : (t u u' : Table) → EmptySays t u → EmptySays t u' → u ≡ u'
empty_one t = one

pub step_one : (t : Table) (e : Record) (a b : Left Answer) → StepSays t e a → StepSays t e b → a ≡ b
step_one t e = left_one

pub running_one : (t : Table) (a b : Left RunningAnswer) → RunningSays t a → RunningSays t b → a ≡ b
running_one t = left_one

pub thread_one : (t : Table) (th : ℕ) (a b : Left ThreadAnswer) → ThreadSays t th a → ThreadSays t th b → a ≡ b
thread_one t th = left_one

pub resource_one : (t : Table) (cs : ℕ) (a b : Left ResourceAnswer) → ResourceSays t cs a → ResourceSays t cs b → a ≡ b
resource_one t cs = left_one

-- The functions by value (locks/src/step.rt, queries/src/lib.rt, table/src/lib.rt, soundness/src/check.rt). `Asked` and `Learnt` are what a contract asks of a caller and lets it learn, read off its
-- clauses: they take the lifetimes, none here, then the arguments as a row that ends with `tt`, the result, and the arguments as they are after the call.

abbrev StepByValue : Table → Record → Done → Type 0
StepByValue t e d = step_of_lem.Asked tt (t, (e, tt)) → step_of_lem.Learnt tt (t, (e, tt)) d (t, (e, tt))

pub step_by_value_one : (t : Table) (e : Record) (d d' : Done) → StepByValue t e d → StepByValue t e d' → d ≡ d'
step_by_value_one t e d d' p q = one d d' (p tt) (q tt)

abbrev RunningByValue : Table → RunningAnswer → Type 0
RunningByValue t a = RunningOf.Asked tt (t, tt) → RunningOf.Learnt tt (t, tt) a (t, tt)

pub running_by_value_one : (t : Table) (a b : RunningAnswer) → RunningByValue t a → RunningByValue t b → a ≡ b
running_by_value_one t a b p q = one a b (p tt) (q tt)

abbrev ThreadByValue : Table → ℕ → ThreadAnswer → Type 0
ThreadByValue t th a = ThreadOf.Asked tt (t, (th, tt)) → ThreadOf.Learnt tt (t, (th, tt)) a (t, (th, tt))

pub thread_by_value_one : (t : Table) (th : ℕ) (a b : ThreadAnswer) → ThreadByValue t th a → ThreadByValue t th b → a ≡ b
thread_by_value_one t th a b p q = one a b (p tt) (q tt)

abbrev ResourceByValue : Table → ℕ → ResourceAnswer → Type 0
ResourceByValue t cs a = ResourceOf.Asked tt (t, (cs, tt)) → ResourceOf.Learnt tt (t, (cs, tt)) a (t, (cs, tt))

pub resource_by_value_one : (t : Table) (cs : ℕ) (a b : ResourceAnswer) → ResourceByValue t cs a → ResourceByValue t cs b → a ≡ b
resource_by_value_one t cs a b p q = one a b (p tt) (q tt)

abbrev EmptyByValue : Table → Type 0
EmptyByValue t = EmptyTable.Asked tt tt → EmptyTable.Learnt tt tt t tt

pub empty_by_value_one : (t t' : Table) → EmptyByValue t → EmptyByValue t' → t ≡ t'
empty_by_value_one t t' p q = one t t' (p tt) (q tt)

abbrev SoundByValue : Table → Bool → Type 0
SoundByValue t b = sound.Asked tt (t, tt) → sound.Learnt tt (t, tt) b (t, tt)

pub sound_by_value_one : (t : Table) (b b' : Bool) → SoundByValue t b → SoundByValue t b' → b ≡ b'
sound_by_value_one t b b' p q = same_test (p tt) (q tt)
