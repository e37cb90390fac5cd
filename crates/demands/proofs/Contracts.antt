-- What specs/Contracts says of the five calls on the table, specs/Kept of the log's call and specs/Replay of the one that reads a log back, is what their contracts say: each asks nothing, and lets
-- its caller learn just this. Assumes nothing.
use Prim.Native.Nat.{ℕ}
use mathlib.Core.Path.{◌≡◌, refl}
use mathlib.Core.List.{List}
use seplogic.Ra.Ura.{Ura}
use base.Logic.{SProp, emp}
use base.Fml.{Lft}
use prog.Memory.{Memory}
use prog.Routine.{Routine}
use types.Logic.{Logic}
use contract.Monad.{Fun, fact}
use contract.Lifetimes.{Lfts}
use denote.Ref.{Bor, MutBor}
use denote.Triple.Entry.{Res}
use denote.Triple.Clauses.{Ended, AtExit, at_exit, ClausesAt}
use Rattle.table.specs.declared.Table.{Table}
use Rattle.refusals.specs.declared.Record.{Record}
use Rattle.queries.specs.declared.RunningAnswer.{RunningAnswer}
use Rattle.queries.specs.declared.ThreadAnswer.{ThreadAnswer}
use Rattle.queries.specs.declared.ResourceAnswer.{ResourceAnswer}
use Rattle.locks.specs.declared.Answer.{Answer}
use Rattle.locktable.specs.contracts.locktable_empty as empty
use Rattle.locktable.specs.contracts.locktable_step as step
use Rattle.locktable.specs.contracts.locktable_running as running
use Rattle.locktable.specs.contracts.locktable_thread as thread
use Rattle.locktable.specs.contracts.locktable_resource as resource
use Rattle.locktable.specs.contracts.locktable_log as log
use Rattle.locktable.specs.contracts.locktable_replay as replay
use Rattle.replay.specs.declared.Replayed.{Replayed}
use Rattle.replay.specs.Read.{Gives}
use Rattle.demands.specs.Contracts.{EmptySays, StepSays, RunningSays, ThreadSays, ResourceSays}
use Rattle.demands.specs.Kept.{LogSays}

-- In every model of the logic:
module _ {M : Type 1} {𝓤 : Ura M} (𝓛 : Logic 𝓤) (at_mem : Memory → SProp 𝓤) (run : Routine → Fun 𝓤) where
  -- clauses ask nothing, and what they say of the result r and the arguments at exit e is φ
  abbrev pub Says : {S : Ended} {κs : Lfts S.signature.lifetimes} (c : ClausesAt 𝓤 S κs) → c.ghost → Res S.signature κs → AtExit S κs → Type 0 → Type 2
  Says c g r e φ = (c.requires g ≡ emp 𝓤) × (c.ensures g r e ≡ fact 𝓤 φ)

  -- wherever the kernel keeps its table, which holds t.now when it is lent, for a lifetime κ:
  module _ (κ : Lft) (t : MutBor Table) where
    -- the table is emptied, and holds u
    pub empty_says : (u : Table) → Says (empty.clauses 𝓛 at_mem run (κ, tt) (t, tt)) tt tt (at_exit empty.ended (κ, tt) (t, tt) (u, tt)) (EmptySays t.now u)
    empty_says u = (refl, refl)

    -- a step answers r, and the table holds u
    pub step_says : (e : Record) (r : Answer) (u : Table) → Says (step.clauses 𝓛 at_mem run (κ, tt) (t, (e, tt))) tt r (at_exit step.ended (κ, tt) (t, (e, tt)) (u, (tt, tt))) (StepSays t.now e (record { answer = r; table = u }))
    step_says e r u = (refl, refl)

  -- a query answers r; the table, which is lent as `&`, holds what it held
  module _ (κ : Lft) (t : Bor Table) where
    pub running_says : (r : RunningAnswer) → Says (running.clauses 𝓛 at_mem run (κ, tt) (t, tt)) tt r (at_exit running.ended (κ, tt) (t, tt) (tt, tt)) (RunningSays t.now (record { answer = r; table = t.now }))
    running_says r = (refl, refl)

    pub thread_says : (th : ℕ) (r : ThreadAnswer) → Says (thread.clauses 𝓛 at_mem run (κ, tt) (t, (th, tt))) tt r (at_exit thread.ended (κ, tt) (t, (th, tt)) (tt, (tt, tt))) (ThreadSays t.now th (record { answer = r; table = t.now }))
    thread_says th r = (refl, refl)

    pub resource_says : (cs : ℕ) (r : ResourceAnswer) → Says (resource.clauses 𝓛 at_mem run (κ, tt) (t, (cs, tt))) tt r (at_exit resource.ended (κ, tt) (t, (cs, tt)) (tt, (tt, tt))) (ResourceSays t.now cs (record { answer = r; table = t.now }))
    resource_says cs r = (refl, refl)

  -- wherever it keeps its log, which holds l.now when it is lent: the call answers r, and the log holds after
  module _ (κ : Lft) (l : MutBor (List ℕ)) where
    pub log_says : (n : ℕ) (e : Record) (r : ℕ) (after : List ℕ) → Says (log.clauses 𝓛 at_mem run (κ, tt) (l, (n, (e, tt)))) tt r (at_exit log.ended (κ, tt) (l, (n, (e, tt))) (after, (tt, (tt, tt)))) (LogSays l.now n e (record { number = r; log = after }))
    log_says n e r after = (refl, refl)

  -- a log is read back, and gives r; the log, which is lent as `&`, holds what it held
  module _ (κ : Lft) (l : Bor (List ℕ)) where
    pub replay_says : (r : Replayed) → Says (replay.clauses 𝓛 at_mem run (κ, tt) (l, tt)) tt r (at_exit replay.ended (κ, tt) (l, tt) (tt, tt)) (Gives l.now r)
    replay_says r = (refl, refl)
