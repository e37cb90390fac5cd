-- `apply::one_slot::set_anew` meets its contract. Assumes nothing.
use borrow.Author.Rules.{rules}
use Rattle.apply.proofs.one_slot.Work.{set_done}
use Rattle.apply.proofs.one_slot.set_anew.Goals as goal

pub returns : goal.returns
returns c t owns b e =
    rw c.from.ensures (set_done t (search rules) b e (rw c.number.ensures at c.afresh.ensures))
