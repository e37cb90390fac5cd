-- `refusals::refusal::leads` meets its contract. Assumes nothing.
use Prim.Native.Nat.{ℕ, ◌<◌}
use mathlib.Core.Path.{◌≡◌, refl, sym}
use mathlib.Core.Bool.{false}
use mathlib.Core.List.{List}
use native.Mathlib.Omega.{arith}
use Rattle.table.specs.Table.{at}
use Rattle.chains.specs.Marks.{marked}
use Rattle.chains.specs.Ways.{resource_way}
use Rattle.chains.proofs.marks.Bits.{nobody_marked}
use Rattle.chains.proofs.ways.Steps.{thread_past, resource_on}
use Rattle.refusals.proofs.refusal.leads.Goals as goal

-- on the way from a free resource there is nobody
free_way : (waits holders : List ℕ) (r t : ℕ) → r < 16 → at holders r ≡ 32 → marked (resource_way 64 waits holders 0 0 r) t ≡ false
free_way waits holders r t low free =
    rw (resource_on waits holders 0 0 64 63 refl r low, thread_past waits holders 0 0 63 62 refl (at holders r) (omega arith)) (nobody_marked t)

pub returns-then-graph-from-eq-NOBODY : goal.returns-then-graph-from-eq-NOBODY
returns-then-graph-from-eq-NOBODY c = sym (free_way _ _ _ _ c.requires (rw c.from.ensures at c.if-graph-from-eq-NOBODY.true))
