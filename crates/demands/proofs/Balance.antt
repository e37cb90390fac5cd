-- Of a table that shows a valid state, the rule on the totals follows from the paper's theorem on states. Assumes nothing.
use mathlib.Core.Path.{sym}
use Rattle.protocol.specs.Sets.{◌∈◌}
use Rattle.protocol.specs.Events.{Thread, State}
use Rattle.protocol.specs.Rules.{Valid}
use Rattle.protocol.specs.Totals.{Balanced}
use Rattle.protocol.proofs.Balance.{balance, balanced_same}
use Rattle.table.specs.declared.Table.{Table}
use Rattle.table.specs.Table.{at, live, queues}
use Rattle.demands.specs.Told.{Shows}

-- so it needs nothing of how the table came about, and holds with any choice of the next holder
pub shown_balance : {t : Table} {s : State} → Shows t s → Valid s → (th : Thread) → th ∈ live t → Balanced (queues t) th (at t.requests th) (at t.releases th)
shown_balance shows v th l = let here = (shows.live_are th).0 l in rw (shows.requests_are th here, shows.releases_are th here) (balanced_same (λ cs. sym (shows.queues_are cs)) (balance v th))
