-- What an accepted record may count on, and what it leaves. Assumes nothing.
use Rattle.std.specs.Prelude.{ℕ, ◌<◌, ◌≡◌, List, Option}
use Rattle.std.proofs.Math.Option as paper
use Rattle.protocol.specs.Events.{Thread, Event}
use Rattle.protocol.proofs.Lists.{Follows}
use Rattle.table.specs.declared.Table.{Table}
use Rattle.table.specs.Table.{queues}
use Rattle.table.specs.Compute.{runner}
use Rattle.table.specs.Code.Tracks.{Tracks, Known}
use Rattle.refusals.specs.declared.Record.{Record}
use Rattle.refusals.specs.declared.kinds.Kind.{Kind}
use Rattle.refusals.specs.declared.kinds.Kind.TheVariants.{V}
use Rattle.refusals.specs.Numbers.{kind_number}
use Rattle.refusals.specs.Refusals.{lowest, refusals}
use Rattle.events.specs.Events.{settled, changed, named}
use Rattle.events.specs.Count.{count}
use Rattle.events.specs.Code.Permits.{Permits}
use Rattle.release.specs.declared.heir.Next.{Next}
use Rattle.release.specs.Heir.{NextRight, next_at}
use Rattle.apply.specs.declared.finish.Outcome.{Outcome}

-- A record of this kind that is accepted, on a table that was found sound; the arrays go with the table, and at a V whoever `next` is may follow.
pub record Accepted (t : Table) (e : Record) (kind : Kind) (waits holders owns currents : List ℕ) (next : Option Next) : Type 0 where
  pub known : Known t waits holders owns currents
  pub unrefused : lowest (refusals t e) ≡ 0
  pub kind_is : kind_number kind ≡ e.kind
  pub thread_low : e.thread < 32
  pub clock_early : t.clock < 65535
  pub next_right : kind ≡ V → NextRight t.rows.queue t.rows.length currents e.argument next
  pub follows : kind ≡ V → Follows (queues t e.argument) (next_at t.rows.queue e.argument next)

-- Its event, with `next` after a V, is done: the table is the one after it, but for the current precedences that it stores, the arrays go with that, and so many threads were worked out afresh.
pub record Applied (t : Table) (e : Record) (next : paper.Option Thread) (after : Table) (holders waits currents : List ℕ) (n : ℕ) : Type 0 where
  pub event : Event
  pub named_is : named e next ≡ paper.some event
  pub permitted : Permits t event
  pub made : after ≡ changed t event
  pub tracks : Tracks (changed t event) waits holders currents
  pub counted : n ≡ count t event

-- And with the current precedences stored, the table and the answer's numbers are those of the event.
pub record Carried (t : Table) (e : Record) (next : paper.Option Thread) (after : Table) (o : Outcome) : Type 0 where
  pub event : Event
  pub named_is : named e next ≡ paper.some event
  pub made : after ≡ settled (changed t event)
  pub running_is : o.running ≡ runner (settled (changed t event))
  pub count_is : o.count ≡ count t event
