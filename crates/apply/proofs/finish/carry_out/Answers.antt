-- `apply::finish::carry_out` meets its contract. Assumes nothing.
use Rattle.apply.proofs.finish.Work.{bytes, carried}
use Rattle.apply.proofs.finish.carry_out.Goals as goal

pub store-requires : goal.store-requires
store-requires c = bytes c.requires c.apply-count.ensures

pub returns : goal.returns
returns c = carried c.requires c.apply-count.ensures c.store.new.t c.running.result c.store.ensures.rest c.store.ensures.stored c.running.ensures
