-- Demand 3 as it is used, for any kernel, threads and numbers: its premises handed over one by one as the sentence has them, and no other. Assumes nothing.
use Prim.Native.Nat.{ℕ, ◌*◌, ◌≤◌, ◌<◌}
use mathlib.Core.Path.{◌≡◌}
use mathlib.Core.Logic.{◌≢◌}
use mathlib.Core.List.{List, ◌∷◌, ◌++◌, map}
use Rattle.protocol.specs.Sets.{◌∈◌, set, Number}
use Rattle.protocol.specs.Events.{Thread, Event, State, threads, priority, prec, ◌≼◌}
use Rattle.protocol.specs.Schedule.{Cprec}
use Rattle.protocol.specs.Demand3.{Moment, HoldsOrWaits, Spares, calls, calls_of_others, others, Until}
use Rattle.table.specs.declared.Table.{Table}
use Rattle.table.specs.Table.{stored}
use Rattle.refusals.specs.declared.Record.{Record}
use Rattle.demands.specs.Memory.{AnyTable}
use Rattle.demands.specs.Calls.{Calls}
use Rattle.demands.specs.Runs.{Query, Call, event, ask, AnyCalls, table_after, History}
use Rattle.demands.specs.Demand3.{Since, RunsAfter, by_query, by_answer, Demand3}

-- the answer to the newest record names who runs, whatever queries were made since
pub answer_runs : (c : Calls) (t : Table) (qs : List Query) (e : Record) (ks : List Call) (u : Thread) → u < 32 → (c.step (table_after c t ks) e).answer.running ≡ u → RunsAfter c t (map ask qs ++ (event e ∷ ks)) u
answer_runs c t qs e ks u low q = by_answer qs e ks low q

module _ (c : Calls) (d : Demand3 c) (t : Table) (memory : AnyTable t) (th : Thread) (ks ks' : List Call) (s s' : List Event) (bytes : AnyCalls (ks' ++ ks)) (moment : History c t ks s) (later : History c t (ks' ++ ks) (s' ++ s))
    (live : th ∈ threads s) (highest : (u : Thread) → u ∈ threads s → prec u s ≼ prec th s) (spared : (e : Event) → e ∈ set s' → Spares th (priority th s) e) where
  -- what the sentences suppose is all that is asked
  pub given : Since c t th ks ks' s s'
  given = record { memory = memory; bytes = bytes; moment = moment; later = later; live = live; highest = highest; spared = spared }

  -- whom the query names, if another
  pub whom_the_query_names : (u : Thread) → u < 32 → (c.running (table_after c t (ks' ++ ks))).answer.running ≡ u → u ≢ th →
      (u ∈ threads s) × ((m : State) → Moment s s' m → HoldsOrWaits m u) × Cprec (s' ++ s) u (prec th s) × (stored (table_after c t (ks' ++ ks)) u ≡ prec th s)
  whom_the_query_names u low q ne = d.who_runs t th ks ks' s s' given u (by_query low q) ne

  -- how many calls the others make
  pub calls_at_most : (n K : ℕ) → Number (others s th) n → ((u : Thread) → u ∈ others s th → (es : List Event) → Until u s s' es → calls u es ≤ K) → calls_of_others th s' ≤ n * K
  calls_at_most = d.how_many t th ks ks' s s' given
