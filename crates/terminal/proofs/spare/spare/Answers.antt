-- `terminal::spare::spare` meets its contract. Assumes nothing.
use Rattle.terminal.proofs.Spared.{as_create, as_turned_away}
use Rattle.terminal.proofs.spare.spare.Goals as goal

pub returns-then-not-is_spare : goal.returns-then-not-is_spare
returns-then-not-is_spare c = cc (as_turned_away c.args.t c.args.id c.args.wanted (cc))

pub returns : goal.returns
returns c = cc (as_create c.args.t c.args.id c.args.wanted (cc))
