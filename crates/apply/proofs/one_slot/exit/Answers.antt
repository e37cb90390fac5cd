-- `apply::one_slot::exit` meets its contract. Assumes nothing.
use borrow.Author.Rules.{rules}
use Rattle.apply.proofs.one_slot.Work.{exit_done}
use Rattle.apply.proofs.one_slot.exit.Goals as goal

pub returns : goal.returns
returns c t queue lengths holders waits owns b =
    rw c.from.ensures (exit_done t (search rules) b)
