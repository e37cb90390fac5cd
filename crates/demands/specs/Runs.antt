-- A kernel that lends its table: calls one after another from the empty table on, and the accepted events as the paper writes them. Assumes nothing.
use Rattle.std.specs.Prelude.{ℕ, ◌≤◌, ◌≡◌, ◌≢◌, List, [], ◌∷◌}
use Rattle.std.proofs.Math.Option.{Option, none, some}
use Rattle.protocol.specs.Sets.{◌∈◌, Highest}
use Rattle.protocol.specs.Events.{Thread, Resource, Event, Create, Exit, Set, P, «V», State, ◌≼◌}
use Rattle.protocol.specs.Schedule.{Waits, Cprec}
use Rattle.table.specs.declared.Table.{Table}
use Rattle.refusals.specs.declared.Record.{Record}
use Rattle.refusals.specs.Applies.{IllFormed}
use Rattle.demands.specs.Memory.{AnyRecord}
use Rattle.demands.specs.Calls.{Calls}

-- one of the three queries
pub data Query : Type 0 where
  running : Query
  thread : ℕ → Query
  resource : ℕ → Query

-- what a kernel calls after `locktable_empty`: the step, with a record, or a query
pub data Call : Type 0 where
  event : Record → Call
  ask : Query → Call

-- its arguments are bytes
abbrev pub AnyCall : Call → Type 0
AnyCall (event e) = AnyRecord e
AnyCall (ask running) = Unit {0}
AnyCall (ask (thread th)) = th ≤ 255
AnyCall (ask (resource cs)) = cs ≤ 255

-- Calls stand in a list as the paper's events do, the newest first. The arguments of all of them are bytes:
abbrev pub AnyCalls : List Call → Type 0
AnyCalls [] = Unit {0}
AnyCalls (k ∷ ks) = AnyCall k × AnyCalls ks

-- what the kernel's table holds after the calls: it held t, whatever that was, and was lent to `locktable_empty` and then to each of them
abbrev pub table_after : Calls → Table → List Call → Table
table_after c t [] = c.empty t
table_after c t (event e ∷ ks) = (c.step (table_after c t ks) e).table
table_after c t (ask running ∷ ks) = (c.running (table_after c t ks)).table
table_after c t (ask (thread th) ∷ ks) = (c.thread (table_after c t ks) th).table
table_after c t (ask (resource cs) ∷ ks) = (c.resource (table_after c t ks) cs).table

-- the number that the record gets after the calls
abbrev pub number_of : Calls → Table → List Call → Record → ℕ
number_of c t ks e = (c.step (table_after c t ks) e).answer.number

-- Document 02's choice of the next holder (K5), in the paper's terms: of those who wait, the one with the highest current precedence, before the V; nobody where nobody waits.
abbrev pub Chosen : State → Resource → Option Thread → Type 0
Chosen s cs none = (th : Thread) → ¬ Waits s th cs
Chosen s cs (some th) = th ∈ Highest ◌≼◌ (Cprec s) (λ u. Waits s u cs)

-- the event of a record, as the paper writes it in the state s; a V names the next holder
pub data Writes (s : State) (e : Record) : Event → Type 0 where
  create : e.kind ≡ 1 → Writes s e (Create e.thread e.argument)
  exit : e.kind ≡ 2 → Writes s e (Exit e.thread)
  set_anew : e.kind ≡ 3 → Writes s e (Set e.thread e.argument)
  request : e.kind ≡ 4 → Writes s e (P e.thread e.argument)
  release : {next : Option Thread} → e.kind ≡ 5 → Chosen s e.argument next → Writes s e («V» e.thread e.argument next)

-- s is the accepted events of the calls, the newest first, as the paper writes them: a record that gets 0 is accepted, any other is refused, and a query is no event
pub data History (c : Calls) (t : Table) : List Call → State → Type 0 where
  none_yet : History c t [] []
  accepted : {ks : List Call} {s : State} {e : Record} {ev : Event} → History c t ks s → number_of c t ks e ≡ 0 → Writes s e ev → History c t (event e ∷ ks) (ev ∷ s)
  refused : {ks : List Call} {s : State} {e : Record} → History c t ks s → number_of c t ks e ≢ 0 → History c t (event e ∷ ks) s
  asked : {ks : List Call} {s : State} {q : Query} → History c t ks s → History c t (ask q ∷ ks) s

-- a well-formed record: one that refusals 2, 3 and 4 don't catch
abbrev pub WellFormed : Record → Type 0
WellFormed e = (n : ℕ) → ¬ IllFormed e n
