-- `drill::printing::print_start` meets its contract: the room is large, so that some of the input goes in. Assumes nothing.
use Rattle.std.proofs.Common.{◌≡◌, length, arith}
use Rattle.drill.proofs.Parts.{goes_on}
use Rattle.drill.proofs.printing.print_start.Goals as goal

pub returns-in-Ok : goal.returns-in-Ok
returns-in-Ok g c =
    let d = c.drill-part.ensures in
    let large : 65536 ≡ length c.large_buffer-out.result = c.large_buffer-out.ensures in
    record { within = d.within; some = goes_on d (omega (arith, large, c.drill-part.auto.out)); carried = d.carried }
