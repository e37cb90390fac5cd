-- `drill::printing::print_part` meets its contract: a turn goes on from where the last one stopped. Assumes nothing.
use native.Mathlib.Omega.{arith}
use Rattle.drill.proofs.Parts.{goes_on_from, start_after}
use Rattle.drill.proofs.printing.print_part.Goals as goal

pub loop-used-init : goal.loop-used-init
loop-used-init g c = (omega arith, start_after _)

pub loop-used-preserved : goal.loop-used-preserved
loop-used-preserved g c =
    let a = c.args in
    let l = c.loop-used in
    let on = goes_on_from a.bench.now a.input.now l.used (omega arith) l.invariant.1 c.in_ok-used.ensures in
    (on.0, on.2)
