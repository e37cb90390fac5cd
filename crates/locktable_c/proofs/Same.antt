-- What a call for C takes and states is, word for word, what the call of its name in crate `locktable` takes and states: so what crates `demands` and `shipment` show of that one's contract holds of this
-- one's. Assumes nothing.
use mathlib.Core.Path.{◌≡◌, refl}
use seplogic.Ra.Ura.{Ura}
use base.Logic.{SProp}
use prog.Memory.{Memory}
use prog.Routine.{Routine}
use types.Logic.{Logic}
use contract.Monad.{Fun}
use Rattle.locktable.specs.contracts.locktable_empty as empty
use Rattle.locktable.specs.contracts.locktable_step as step
use Rattle.locktable.specs.contracts.locktable_running as running
use Rattle.locktable.specs.contracts.locktable_thread as thread
use Rattle.locktable.specs.contracts.locktable_resource as resource
use Rattle.locktable.specs.contracts.locktable_log as log
use Rattle.locktable.specs.contracts.locktable_replay as replay
use Rattle.locktable.specs.contracts.tasks.terminal_start as start
use Rattle.locktable.specs.contracts.tasks.terminal_spare as spare
use Rattle.locktable.specs.contracts.tasks.terminal_spare_at as spare_at
use Rattle.locktable_c.specs.contracts.locktable_empty as empty_c
use Rattle.locktable_c.specs.contracts.locktable_step as step_c
use Rattle.locktable_c.specs.contracts.locktable_running as running_c
use Rattle.locktable_c.specs.contracts.locktable_thread as thread_c
use Rattle.locktable_c.specs.contracts.locktable_resource as resource_c
use Rattle.locktable_c.specs.contracts.locktable_log as log_c
use Rattle.locktable_c.specs.contracts.locktable_replay as replay_c
use Rattle.locktable_c.specs.contracts.tasks.terminal_start as start_c
use Rattle.locktable_c.specs.contracts.tasks.terminal_spare as spare_c
use Rattle.locktable_c.specs.contracts.tasks.terminal_spare_at as spare_at_c

-- the types of what it takes and gives, and of what of it is seen at exit
pub empty_takes : empty_c.ended ≡ empty.ended
empty_takes = refl

pub step_takes : step_c.ended ≡ step.ended
step_takes = refl

pub running_takes : running_c.ended ≡ running.ended
running_takes = refl

pub thread_takes : thread_c.ended ≡ thread.ended
thread_takes = refl

pub resource_takes : resource_c.ended ≡ resource.ended
resource_takes = refl

pub log_takes : log_c.ended ≡ log.ended
log_takes = refl

pub replay_takes : replay_c.ended ≡ replay.ended
replay_takes = refl

pub start_takes : start_c.ended ≡ start.ended
start_takes = refl

pub spare_takes : spare_c.ended ≡ spare.ended
spare_takes = refl

pub spare_at_takes : spare_at_c.ended ≡ spare_at.ended
spare_at_takes = refl

-- In every model of the logic, its clauses:
module _ {M : Type 1} {𝓤 : Ura M} (𝓛 : Logic 𝓤) (at_mem : Memory → SProp 𝓤) (run : Routine → Fun 𝓤) where
  pub empty_states : empty_c.clauses 𝓛 at_mem run ≡ empty.clauses 𝓛 at_mem run
  empty_states = refl

  pub step_states : step_c.clauses 𝓛 at_mem run ≡ step.clauses 𝓛 at_mem run
  step_states = refl

  pub running_states : running_c.clauses 𝓛 at_mem run ≡ running.clauses 𝓛 at_mem run
  running_states = refl

  pub thread_states : thread_c.clauses 𝓛 at_mem run ≡ thread.clauses 𝓛 at_mem run
  thread_states = refl

  pub resource_states : resource_c.clauses 𝓛 at_mem run ≡ resource.clauses 𝓛 at_mem run
  resource_states = refl

  pub log_states : log_c.clauses 𝓛 at_mem run ≡ log.clauses 𝓛 at_mem run
  log_states = refl

  pub replay_states : replay_c.clauses 𝓛 at_mem run ≡ replay.clauses 𝓛 at_mem run
  replay_states = refl

  pub start_states : start_c.clauses 𝓛 at_mem run ≡ start.clauses 𝓛 at_mem run
  start_states = refl

  pub spare_states : spare_c.clauses 𝓛 at_mem run ≡ spare.clauses 𝓛 at_mem run
  spare_states = refl

  pub spare_at_states : spare_at_c.clauses 𝓛 at_mem run ≡ spare_at.clauses 𝓛 at_mem run
  spare_at_states = refl
