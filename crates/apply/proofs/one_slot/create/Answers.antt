-- `apply::one_slot::create` meets its contract. Assumes nothing.
use borrow.Author.Rules.{rules}
use Rattle.apply.proofs.one_slot.Work.{create_done}
use Rattle.apply.proofs.one_slot.create.Goals as goal

pub returns : goal.returns
returns c t queue lengths holders waits owns b e =
    rw (c.number.ensures, c.from.ensures) (create_done t (search rules) b e)
