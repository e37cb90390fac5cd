-- What specs/Calls says of the terminal's calls is what their contracts say: each asks nothing, and lets its caller learn just this; and what they are given is what specs/Calls takes. Assumes nothing.
use Rattle.std.specs.Prelude.{Some, None}
use Prim.Native.Nat.{ℕ}
use mathlib.Core.Path.{◌≡◌, refl}
use mathlib.Core.List.{[], ◌∷◌}
use seplogic.Ra.Ura.{Ura}
use base.Logic.{SProp}
use base.Fml.{Lft}
use mir.Syntax.{w8, named}
use prog.Memory.{Memory}
use prog.Routine.{Routine}
use types.Logic.{Logic}
use contract.Monad.{Fun}
use denote.Plain.{UInt}
use denote.Ref.{MutBor, MutRef}
use denote.Signature.{types_at}
use denote.Triple.Clauses.{at_exit}
use Rattle.table.specs.declared.Table.{Table}
use Rattle.table.specs.contracts.Table as table
use Rattle.locks.specs.declared.Answer.{Answer}
use Rattle.locktable.specs.contracts.tasks.terminal_start as start
use Rattle.locktable.specs.contracts.tasks.terminal_spare as spare
use Rattle.locktable.specs.contracts.tasks.terminal_spare_at as spare_at
use Rattle.demands.proofs.Contracts.{Says}
use Rattle.shipment.specs.Calls.{StartSays, SpareSays}

-- In every model of the logic, wherever the kernel keeps its table, which holds t.now when it is lent, for a lifetime κ: a call answers r, and the table holds u.
module _ {M : Type 1} {𝓤 : Ura M} (𝓛 : Logic 𝓤) (at_mem : Memory → SProp 𝓤) (run : Routine → Fun 𝓤) (κ : Lft) (t : MutBor Table) (r : Answer) (u : Table) where
  pub start_says : Says 𝓛 at_mem run (start.clauses 𝓛 at_mem run (κ, tt) (t, tt)) tt r (at_exit start.ended (κ, tt) (t, tt) (u, tt)) (StartSays (record { answer = r; table = u }))
  start_says = (refl, refl)

  pub spare_says : (id : ℕ) → Says 𝓛 at_mem run (spare.clauses 𝓛 at_mem run (κ, tt) (t, (id, tt))) tt r (at_exit spare.ended (κ, tt) (t, (id, tt)) (u, (tt, tt))) (SpareSays t.now id None (record { answer = r; table = u }))
  spare_says id = (refl, refl)

  pub spare_at_says : (id priority : ℕ) → Says 𝓛 at_mem run (spare_at.clauses 𝓛 at_mem run (κ, tt) (t, (id, (priority, tt)))) tt r (at_exit spare_at.ended (κ, tt) (t, (id, (priority, tt))) (u, (tt, (tt, tt))))
      (SpareSays t.now id (Some priority) (record { answer = r; table = u }))
  spare_at_says id priority = (refl, refl)

-- The types of what they are given: a borrow of a table, κ long, and besides bytes.
pub start_takes : (κ : Lft) → types_at (start.signature).params (κ, tt) ≡ MutRef (named 0) κ table.the_row ∷ []
start_takes κ = refl

pub spare_takes : (κ : Lft) → types_at (spare.signature).params (κ, tt) ≡ MutRef (named 0) κ table.the_row ∷ (UInt w8 ∷ [])
spare_takes κ = refl

pub spare_at_takes : (κ : Lft) → types_at (spare_at.signature).params (κ, tt) ≡ MutRef (named 0) κ table.the_row ∷ (UInt w8 ∷ (UInt w8 ∷ []))
spare_at_takes κ = refl
