-- `terminal::start::start` meets its contract. The loop's invariant: the tasks before `id` are created. Assumes nothing.
use Prim.Native.Nat.{ℕ, zero, suc, ◌+◌, ◌-◌, ◌≤◌}
use mathlib.Core.Path.{◌≡◌, refl}
use native.Mathlib.Omega.{arith}
use native.Mathlib.Numerals.{unary_clauses}
use Rattle.table.specs.Table.{at}
use Rattle.locks.specs.Answers.{answer_of}
use Rattle.terminal.specs.Tasks.{priorities, creation}
use Rattle.terminal.specs.Start.{created_to}
use Rattle.terminal.proofs.start.start.Goals as goal

-- the next task is created
next : (id : ℕ) → 1 ≤ id → created_to id ≡ answer_of (created_to (id - 1)).table (creation id (at priorities id))
unfolding created_to
next zero h = absurd (omega arith)
next (suc n) h = simp unary_clauses refl

pub loop-id-init : goal.loop-id-init
unfolding created_to
loop-id-init c = cc

pub loop-id-preserved : goal.loop-id-preserved
loop-id-preserved c =
    let e : c.loop-id.id + 1 - 1 ≡ c.loop-id.id = omega arith in
    cc (next c.loop-id.id (omega arith))
