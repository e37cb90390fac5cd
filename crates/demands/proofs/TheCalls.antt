-- The functions that the contracts name do what the contracts say, so `AsStated` can be met; of these the demands hold with no premise at all. Assumes nothing.
use Prim.Native.Nat.{ℕ, ◌≤◌}
use mathlib.Core.Path.{◌≡◌, refl, ap}
use Rattle.table.specs.declared.Table.{Table}
use Rattle.table.specs.Table.{empty}
use Rattle.refusals.specs.declared.Record.{Record}
use Rattle.queries.specs.declared.RunningAnswer.{RunningAnswer}
use Rattle.queries.specs.declared.ThreadAnswer.{ThreadAnswer}
use Rattle.queries.specs.declared.ResourceAnswer.{ResourceAnswer}
use Rattle.queries.specs.Queries.{running_answer, thread_answer, resource_answer}
use Rattle.locks.specs.declared.Answer.{Answer}
use Rattle.locks.specs.Answers.{answer_of}
use Rattle.demands.specs.Memory.{AnyTable, AnyRecord}
use Rattle.demands.specs.Calls.{Left, Calls}
use Rattle.demands.specs.Stated.{AsStated}
use Rattle.demands.specs.Demand1.{Demand1}
use Rattle.demands.specs.Demand2.{Demand2}
use Rattle.demands.specs.Demand3.{Demand3}
use Rattle.demands.proofs.Demand1.{demand_1}
use Rattle.demands.proofs.Demand2.{demand_2}
use Rattle.demands.proofs.Demand3.{demand_3}

-- the five, each with what it answers and what it leaves of the table
abbrev pub the_calls : Calls
the_calls = record {
  empty = λ t. empty;
  step = λ t e. record { answer = (answer_of t e).answer; table = (answer_of t e).table };
  running = λ t. record { answer = running_answer t; table = t };
  thread = λ t th. record { answer = thread_answer t th; table = t };
  resource = λ t cs. record { answer = resource_answer t cs; table = t };
}

-- they do what the contracts say
pub as_stated : AsStated the_calls
as_stated = record { empty = λ t _. refl; step = λ t e _ _. (refl, refl); running = λ t _. (refl, refl); thread = λ t th _ _. (refl, refl); resource = λ t cs _ _. (refl, refl) }

-- and so does whatever leaves the same, for the tables and bytes that there are: no more is asked
pub whatever_agrees : (c : Calls) → ((t : Table) → AnyTable t → c.empty t ≡ the_calls.empty t) → ((t : Table) (e : Record) → AnyTable t → AnyRecord e → c.step t e ≡ the_calls.step t e) →
    ((t : Table) → AnyTable t → c.running t ≡ the_calls.running t) → ((t : Table) (th : ℕ) → AnyTable t → th ≤ 255 → c.thread t th ≡ the_calls.thread t th) →
    ((t : Table) (cs : ℕ) → AnyTable t → cs ≤ 255 → c.resource t cs ≡ the_calls.resource t cs) → AsStated c
whatever_agrees c empties steps runs threads resources = record {
  empty = empties;
  step = λ t e a b. let q = steps t e a b in (ap (λ (l : Left Answer). l.answer) q, ap (λ (l : Left Answer). l.table) q);
  running = λ t a. let q = runs t a in (ap (λ (l : Left RunningAnswer). l.answer) q, ap (λ (l : Left RunningAnswer). l.table) q);
  thread = λ t th a h. let q = threads t th a h in (ap (λ (l : Left ThreadAnswer). l.answer) q, ap (λ (l : Left ThreadAnswer). l.table) q);
  resource = λ t cs a h. let q = resources t cs a h in (ap (λ (l : Left ResourceAnswer). l.answer) q, ap (λ (l : Left ResourceAnswer). l.table) q);
}

-- they meet the demands
pub demand_1_met : Demand1 the_calls
demand_1_met = demand_1 the_calls as_stated

pub demand_2_met : Demand2 the_calls
demand_2_met = demand_2 the_calls as_stated

pub demand_3_met : Demand3 the_calls
demand_3_met = demand_3 the_calls as_stated
