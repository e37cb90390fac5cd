-- A table agrees with a state: what an event has to carry on, from which all that the table shows follows. Assumes nothing.
use mathlib.Core.Path.{◌≡◌, sym, subst}
use mathlib.Core.Logic.{◌↔◌}
use lib.ListN.{length}
use Rattle.protocol.specs.Sets.{◌∈◌}
use Rattle.protocol.specs.Events.{Thread, State, threads, prec}
use Rattle.protocol.specs.Graph.{Queues}
use Rattle.protocol.specs.Schedule.{wq}
use Rattle.protocol.specs.Totals.{requests, releases}
use Rattle.protocol.specs.Rules.{Valid}
use Rattle.protocol.proofs.Kept.{Kept, valid_kept}
use Rattle.table.specs.declared.Table.{Table}
use Rattle.table.specs.Table.{at, live, own, queues}
use Rattle.table.proofs.Sound.Read.{sound_good}
use Rattle.table.proofs.Values.Values.{Good}
use Rattle.events.proofs.Kept.Stays.{Right}

-- the same clock, live threads, own precedences, queues and totals
pub record Agrees (t : Table) (s : State) : Type 0 where
  pub clock : t.clock ≡ length s
  pub live : (th : Thread) → (th ∈ live t) ↔ (th ∈ threads s)
  pub own : (th : Thread) → th ∈ threads s → own t th ≡ prec th s
  pub queues : queues t ≡ wq s
  pub totals : (th : Thread) → th ∈ threads s → (at t.requests th ≡ requests th s) × (at t.releases th ≡ releases th s)

-- the table is sound and agrees with the state, which came about by the rules
pub record Reached (t : Table) (s : State) : Type 0 where
  pub right : Right t
  pub agrees : Agrees t s
  pub by_rules : Valid s

module _ {t : Table} {s : State} (r : Reached t s) where
  -- so the table is in good order, and the state is what a valid one is
  pub good : Good t
  good = sound_good t r.right.0 r.right.1

  pub ordered : Kept s
  ordered = valid_kept s r.by_rules

  -- and what is said of the table's queues is said of the state's
  pub same_queues : (Q : Queues → Type 0) → Q (queues t) ↔ Q (wq s)
  same_queues Q = (subst Q r.agrees.queues, subst Q (sym r.agrees.queues))
