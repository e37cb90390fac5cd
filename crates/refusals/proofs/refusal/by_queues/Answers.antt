-- `refusals::refusal::by_queues` meets its contract: at most one of the three goes by a record's kind. Assumes nothing.
use Rattle.std.proofs.Common.{arith}
use Rattle.refusals.specs.Refusals.{lowest, by_queues}
use Rattle.refusals.proofs.Tests.Queues.{marked_leads, found_holds}
use Rattle.refusals.proofs.refusal.by_queues.Goals as goal

pub returns-in-P : goal.returns-in-P
unfolding lowest by_queues
returns-in-P c t owns currents known kind low = grind (arith, marked_leads known c.args.e.argument c.args.e.thread low)

pub returns-in_default : goal.returns-in_default
unfolding lowest by_queues
returns-in_default c t owns currents known kind low = grind (arith, marked_leads known c.args.e.argument c.args.e.thread low)

pub returns-in-Exit : goal.returns-in-Exit
unfolding lowest by_queues
returns-in-Exit c t owns currents known kind low = grind (arith, found_holds known _ low)

pub returns-in_default-3 : goal.returns-in_default-3
unfolding lowest by_queues
returns-in_default-3 c t owns currents known kind low = grind (arith, found_holds known _ low)
