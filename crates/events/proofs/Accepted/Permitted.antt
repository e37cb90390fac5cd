-- A record that no refusal meets names an event that the table permits. Assumes nothing.
use Prim.Native.Nat.{ℕ, ◌≤◌, ◌<◌}
use mathlib.Core.Path.{◌≡◌}
use mathlib.Core.Option.{Option, some}
use mathlib.Core.Logic.{◌≢◌, ◌⊎◌, inl}
use native.Mathlib.Decide.{ℕ_discrete}
use native.Mathlib.Omega.{arith}
use Rattle.protocol.specs.Events.{Event, Create, Exit, Set, P, «V»}
use Rattle.protocol.proofs.Lists.{Follows}
use Rattle.table.specs.declared.Table.{Table}
use Rattle.table.specs.Table.{queues, Holds}
use Rattle.table.specs.Code.Shape.{Shape}
use Rattle.refusals.specs.declared.Record.{Record}
use Rattle.refusals.specs.Refusals.{lowest, refusals}
use Rattle.refusals.specs.Applies.{Applies}
use Rattle.refusals.proofs.Given.Exactly.{exactly, given_none}
use Rattle.refusals.proofs.Given.Passed.{kind_known, thread_small, resource_small, table_sound, clock_early, is_new, is_running, is_chainless, is_holding, is_empty_handed}
use Rattle.events.specs.Events.{heir, named, event_of}
use Rattle.events.specs.Code.Permits.{Permits, create, exit, set, request, release}
use Rattle.events.proofs.Heir.{heir_follows}
use Rattle.events.proofs.Accepted.Named.{names_create, names_exit, names_set, names_request, names_release}

module _ (t : Table) (e : Record) (shape : Shape t) (z : lowest (refusals t e) ≡ 0) where
  none : (m : ℕ) → ¬ Applies t e m
  none = given_none t e (lowest (refusals t e)) (exactly t e shape) z

  pub early : t.clock < 65535
  early = clock_early none shape

  pub low : e.thread < 32
  low = thread_small none

  pub resource_low : (e.kind ≡ 4) ⊎ (e.kind ≡ 5) → e.argument < 16
  resource_low = resource_small none

  pub create_permitted : e.kind ≡ 1 → e.argument ≤ 255 → Permits t (Create e.thread e.argument)
  create_permitted k small = create low small (is_new none k)

  pub exit_permitted : e.kind ≡ 2 → Permits t (Exit e.thread)
  exit_permitted k = exit (is_running none shape (omega arith)) (is_empty_handed none k)

  pub set_permitted : e.kind ≡ 3 → e.argument ≤ 255 → Permits t (Set e.thread e.argument)
  set_permitted k small = set (is_running none shape (omega arith)) small

  pub request_permitted : e.kind ≡ 4 → Permits t (P e.thread e.argument)
  request_permitted k = request (is_running none shape (omega arith)) (resource_low (inl k)) (is_chainless none k)

  pub release_holds : e.kind ≡ 5 → Holds t e.thread e.argument
  release_holds = is_holding none shape

  pub release_permitted : e.kind ≡ 5 → {next : Option ℕ} → Follows (queues t e.argument) next → Permits t («V» e.thread e.argument next)
  release_permitted k follows = release (is_running none shape (omega arith)) (release_holds k) follows

  -- no other kind is accepted
  pub no_other : e.kind ≢ 1 → e.kind ≢ 2 → e.kind ≢ 3 → e.kind ≢ 4 → e.kind ≢ 5 → ⊥
  no_other n1 n2 n3 n4 n5 = absurd (omega (arith, (kind_known none).0, (kind_known none).1))

  -- whatever its kind, and whoever may follow at a V
  pub named_permitted : e.argument ≤ 255 → (next : Option ℕ) → (e.kind ≡ 5 → Follows (queues t e.argument) next) → (ev : Event) × (named e next ≡ some ev) × Permits t ev
  named_permitted small next follows = go (ℕ_discrete e.kind 1) (ℕ_discrete e.kind 2) (ℕ_discrete e.kind 3) (ℕ_discrete e.kind 4)
    where
      go : Dec (e.kind ≡ 1) → Dec (e.kind ≡ 2) → Dec (e.kind ≡ 3) → Dec (e.kind ≡ 4) → (ev : Event) × (named e next ≡ some ev) × Permits t ev
      go (yes k) d2 d3 d4 = (_, names_create e next k, create_permitted k small)
      go (no n1) (yes k) d3 d4 = (_, names_exit e next k, exit_permitted k)
      go (no n1) (no n2) (yes k) d4 = (_, names_set e next k, set_permitted k small)
      go (no n1) (no n2) (no n3) (yes k) = (_, names_request e next k, request_permitted k)
      go (no n1) (no n2) (no n3) (no n4) = let k : e.kind ≡ 5 = omega (arith, (kind_known none).0, (kind_known none).1) in (_, names_release e next k, release_permitted k (follows k))

  -- so it is with the heir
  pub permitted : e.argument ≤ 255 → (ev : Event) × (event_of t e ≡ some ev) × Permits t ev
  unfolding event_of
  permitted small = named_permitted small (heir t (queues t e.argument)) (λ k. heir_follows t (queues t e.argument) ((table_sound none shape).bare.queues_right.differ e.argument))
