-- What the queries read off a sound table. Assumes nothing.
use Prim.Native.Nat.{ℕ, ◌-◌, ◌<◌}
use mathlib.Core.Path.{◌≡◌, refl}
use mathlib.Core.List.{List, [], ◌∷◌}
use native.Mathlib.Omega.{arith}
use lib.ListN.{length}
use Rattle.protocol.specs.Events.{Resource}
use Rattle.table.specs.declared.Table.{Table}
use Rattle.table.specs.Table.{at, queues}
use Rattle.table.proofs.Sound.Read.{queue_length}
use Rattle.table.proofs.Values.Values.{Good}
use Rattle.queries.specs.Queries.{waiters}

-- all of a queue but its first
waiters_length : (q : List ℕ) → waiters q ≡ length q - 1
unfolding waiters
waiters_length [] = refl
waiters_length (h ∷ ws) = omega arith

-- by its length
pub waiters_are : (t : Table) → Good t → (cs : Resource) → cs < 16 → waiters (queues t cs) ≡ at t.rows.length cs - 1
waiters_are t g cs h = omega (arith, waiters_length (queues t cs), queue_length t g cs h)
