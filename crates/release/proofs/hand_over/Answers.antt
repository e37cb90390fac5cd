-- `release::hand_over` meets its contract. Assumes nothing.
use Prim.Native.Nat.{◌*◌}
use Rattle.release.proofs.Shift.{copied, handed_row}
use Rattle.release.proofs.hand_over.Goals as goal

pub returns-clause-written : goal.returns-clause-written
returns-clause-written c =
    let a = c.args in
    let p = c.requires in
    handed_row a.queue.now a.r a.p a.n p.0 p.1 p.2 c.copy_within.new.self (copied a.queue.now c.copy_within.new.self (a.r * 32) a.p a.n p.2 c.copy_within.ensures.len c.copy_within.ensures.by_index)
