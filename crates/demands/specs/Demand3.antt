-- Demand 3. "Take a moment when one thread's own precedence is the highest of all live threads. Suppose that afterwards nobody sets it anew or ends it, and
-- no thread is created with or set to a priority above its own. Then any other thread that runs was live at that moment, has held or waited for a resource
-- ever since, and runs at exactly the first thread's precedence. If each of the n others holding or waiting at that moment makes at most K accepted calls
-- until it first neither holds nor waits, that call included, or so far if that has not come, then all others together have made at most n times K, Creates
-- not counted." Assumes nothing.
use Rattle.std.specs.Prelude.{ℕ, ◌*◌, ◌≤◌, ◌<◌, ◌≡◌, ◌≢◌, List, ◌∷◌, ◌++◌, map}
use Rattle.protocol.specs.Sets.{◌∈◌, set, Number}
use Rattle.protocol.specs.Events.{Thread, Event, State, threads, priority, prec, ◌≼◌}
use Rattle.protocol.specs.Schedule.{Cprec}
use Rattle.protocol.specs.Demand3.{Moment, HoldsOrWaits, Spares, calls, calls_of_others, others, Until}
use Rattle.table.specs.declared.Table.{Table}
use Rattle.table.specs.Table.{stored}
use Rattle.refusals.specs.declared.Record.{Record}
use Rattle.demands.specs.Memory.{AnyTable}
use Rattle.demands.specs.Calls.{Calls}
use Rattle.demands.specs.Runs.{Query, Call, event, ask, AnyCalls, table_after, History}

-- The kernel's table held t before the first call. The moment is after the calls ks, and ks' are the calls since, both lists the newest first; s and s' are the events of theirs that were accepted,
-- as demand 2 has them: there always are such (`events_since` in proofs/Demand3). Whose call an event is, `HoldsOrWaits`, `Moment`, `Until` and `Number` are the words of protocol/specs/Demand3.
pub record Since (c : Calls) (t : Table) (th : Thread) (ks ks' : List Call) (s s' : List Event) : Type 0 where
  pub memory : AnyTable t
  pub bytes : AnyCalls (ks' ++ ks)
  pub moment : History c t ks s
  pub later : History c t (ks' ++ ks) (s' ++ s)
  -- at the moment th is live and its own precedence is the highest of all live threads
  pub live : th ∈ threads s
  pub highest : (u : Thread) → u ∈ threads s → prec u s ≼ prec th s
  -- none of the events since sets th anew or ends it, creates a thread with, or sets one to, a priority above its own
  pub spared : (e : Event) → e ∈ set s' → Spares th (priority th s) e

-- the thread that runs after the calls, by either call that a kernel can obey: the running query names it, or the answer to the newest record did, whatever queries were made since
pub data RunsAfter (c : Calls) (t : Table) : List Call → Thread → Type 0 where
  by_query : {ks : List Call} {th : Thread} → th < 32 → (c.running (table_after c t ks)).answer.running ≡ th → RunsAfter c t ks th
  by_answer : (qs : List Query) (e : Record) (ks : List Call) {th : Thread} → th < 32 → (c.step (table_after c t ks) e).answer.running ≡ th → RunsAfter c t (map ask qs ++ (event e ∷ ks)) th

pub record Demand3 (c : Calls) : Type 0 where
  -- the first sentence, of any other thread that runs; the precedence is both the paper's and the stored one
  pub who_runs : (t : Table) (th : Thread) (ks ks' : List Call) (s s' : List Event) → Since c t th ks ks' s s' →
      (th' : Thread) → RunsAfter c t (ks' ++ ks) th' → th' ≢ th →
      (th' ∈ threads s) × ((m : State) → Moment s s' m → HoldsOrWaits m th') × Cprec (s' ++ s) th' (prec th s) × (stored (table_after c t (ks' ++ ks)) th' ≡ prec th s)
  -- the second sentence
  pub how_many : (t : Table) (th : Thread) (ks ks' : List Call) (s s' : List Event) → Since c t th ks ks' s s' →
      (n K : ℕ) → Number (others s th) n →
      ((u : Thread) → u ∈ others s th → (calls_until : List Event) → Until u s s' calls_until → calls u calls_until ≤ K) →
      calls_of_others th s' ≤ n * K
