-- What an accepted record is ready for: its event may begin. Assumes nothing.
use Prim.Native.Nat.{ℕ, ◌≤◌}
use mathlib.Core.Path.{◌≡◌, refl, sym, ap, ◌∙◌}
use mathlib.Core.List.{List}
use Rattle.std.specs.declared.option.Option.{Option}
use Rattle.protocol.specs.Events.{Event, Create, Exit, Set, P, «V»}
use Rattle.table.specs.declared.Table.{Table}
use Rattle.refusals.specs.declared.Record.{Record}
use Rattle.refusals.specs.declared.kinds.Kind.{Kind}
use Rattle.refusals.specs.declared.kinds.Kind.TheVariants as kinds
use Rattle.refusals.specs.Numbers.{kind_number}
use Rattle.events.specs.Code.Permits.{Permits}
use Rattle.events.specs.Code.Work.{Begun}
use Rattle.events.proofs.Accepted.Permitted.{create_permitted, exit_permitted, set_permitted, request_permitted, release_permitted}
use Rattle.release.specs.declared.heir.Next.{Next}
use Rattle.release.specs.Heir.{next_at}
use Rattle.apply.specs.Accepted.{Accepted}

module _ {t : Table} {e : Record} {kind : Kind} {waits holders owns currents : List ℕ} {next : Option Next} (a : Accepted t e kind waits holders owns currents next) where
  -- the number of a kind that is known
  pub number_is : {k : Kind} → kind ≡ k → e.kind ≡ kind_number k
  number_is k = sym a.kind_is ∙ ap kind_number k

  begun : {ev : Event} → Permits t ev → Begun t ev t.rows.queue t.rows.length holders waits owns currents
  begun permits = record { known = a.known; early = a.clock_early; permitted = permits; queue_is = refl; lengths_are = refl }

  pub create_begun : e.argument ≤ 255 → kind ≡ kinds.Create → Begun t (Create e.thread e.argument) t.rows.queue t.rows.length holders waits owns currents
  create_begun small k = begun (create_permitted t e a.known.shape a.unrefused (number_is k) small)

  pub exit_begun : kind ≡ kinds.Exit → Begun t (Exit e.thread) t.rows.queue t.rows.length holders waits owns currents
  exit_begun k = begun (exit_permitted t e a.known.shape a.unrefused (number_is k))

  pub set_begun : e.argument ≤ 255 → kind ≡ kinds.Set → Begun t (Set e.thread e.argument) t.rows.queue t.rows.length holders waits owns currents
  set_begun small k = begun (set_permitted t e a.known.shape a.unrefused (number_is k) small)

  pub request_begun : kind ≡ kinds.P → Begun t (P e.thread e.argument) t.rows.queue t.rows.length holders waits owns currents
  request_begun k = begun (request_permitted t e a.known.shape a.unrefused (number_is k))

  pub release_begun : kind ≡ kinds.V → Begun t («V» e.thread e.argument (next_at t.rows.queue e.argument next)) t.rows.queue t.rows.length holders waits owns currents
  release_begun k = begun (release_permitted t e a.known.shape a.unrefused (number_is k) (a.follows k))
