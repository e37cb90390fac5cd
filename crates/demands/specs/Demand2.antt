-- Demand 2. "From the empty table on, and up to 65,535 accepted events, a well-formed event is accepted exactly when the paper's rules admit it, and the
-- live threads, queues, current precedences and running thread are then the ones the paper's definitions give for the accepted events, with one fixed
-- choice of the next holder." Document 02, K2: "Demand 2 reads the totals from the events." Assumes nothing.
use Rattle.std.specs.Prelude.{◌<◌, ◌≡◌, ◌↔◌, List, ◌∷◌, length}
use Rattle.protocol.specs.Sets.{◌∈◌, Names}
use Rattle.protocol.specs.Events.{Thread, Resource, Event, State, threads}
use Rattle.protocol.specs.Schedule.{running}
use Rattle.protocol.specs.Rules.{Step, Valid}
use Rattle.table.specs.declared.Table.{Table}
use Rattle.table.specs.Sound.{Sound}
use Rattle.refusals.specs.declared.Record.{Record}
use Rattle.demands.specs.Memory.{AnyTable, AnyRecord}
use Rattle.demands.specs.Calls.{Calls}
use Rattle.demands.specs.Runs.{Call, event, table_after, number_of, AnyCalls, Writes, History, WellFormed}
use Rattle.demands.specs.Counted.{Counts}
use Rattle.demands.specs.Told.{Shows, RunningTold, ThreadTold, ResourceTold}

-- What is so after the calls ks, refused ones and queries included, of a kernel whose table held t before the first:
pub record After (c : Calls) (t : Table) (ks : List Call) (s : State) : Type 0 where
  -- s is the accepted events, and nothing else is; they came about by the paper's rules
  pub history : History c t ks s
  pub only : (s' : State) → History c t ks s' → s' ≡ s
  pub by_rules : Valid s
  -- the table is sound and a value of its type: so what the paper does not speak of, dead slots, spare places and sizes, is said too, and that at most 65,535 events are accepted
  pub sound : Sound (table_after c t ks)
  pub memory : AnyTable (table_after c t ks)
  -- the table is what the paper's definitions give for them, and its totals are what they say
  pub shows : Shows (table_after c t ks) s
  -- and so are the queries' answers; those that are refused are demand 1's
  pub running_query : RunningTold s (c.running (table_after c t ks)).answer
  pub thread_query : (th : Thread) → th ∈ threads s → ThreadTold s th (c.thread (table_after c t ks) th).answer
  pub resource_query : (cs : Resource) → cs < 16 → ResourceTold s cs (c.resource (table_after c t ks) cs).answer
  -- a well-formed record, while fewer than 65,535 events are accepted, has an event, and is accepted exactly when the paper's rules admit it
  pub admits : (e : Record) → AnyRecord e → WellFormed e → length s < 65535 → ((ev : Event) × Writes s e ev) × ((ev : Event) → Writes s e ev → (number_of c t ks e ≡ 0) ↔ Step s ev)
  -- any record's answer names the running thread of the state afterwards
  pub answer_names : (e : Record) → AnyRecord e → (s' : State) → History c t (event e ∷ ks) s' → Names 32 (running s') (c.step (table_after c t ks) e).answer.running
  -- and an accepted one's counts the threads that were worked out afresh
  pub counts : (e : Record) → AnyRecord e → number_of c t ks e ≡ 0 → (ev : Event) → Writes s e ev → Counts s ev (c.step (table_after c t ks) e).answer.count

-- for any calls, from the empty table on, whatever the kernel's table held before
abbrev pub Demand2 : Calls → Type 0
Demand2 c = (t : Table) → AnyTable t → (ks : List Call) → AnyCalls ks → (s : State) × After c t ks s
