-- At an accepted V the code finds the heir's place. Assumes nothing.
use Prim.Native.Nat.{ℕ, ◌+◌, ◌*◌, ◌-◌, ◌≤◌, ◌<◌}
use mathlib.Core.Path.{◌≡◌, ◌∙◌}
use mathlib.Core.List.{List}
use mathlib.Core.Logic.{inr}
use native.Mathlib.Omega.{arith}
use lib.ListN.{length}
use Rattle.std.specs.Prelude.{MatchOption, IfSome}
use Rattle.std.specs.List.{slice_range}
use Rattle.std.specs.declared.option.Option.{Option}
use Rattle.table.specs.declared.Table.{Table}
use Rattle.table.specs.Table.{at, queues}
use Rattle.table.specs.Code.Tracks.{Known}
use Rattle.table.proofs.Sound.Queues.{holds_first}
use Rattle.table.proofs.Values.Known.{known_good}
use Rattle.refusals.specs.declared.Record.{Record}
use Rattle.refusals.specs.Refusals.{lowest, refusals}
use Rattle.events.specs.Events.{heir}
use Rattle.events.proofs.Accepted.Permitted.{resource_low, release_holds}
use Rattle.release.specs.declared.heir.Next.{Next}
use Rattle.release.specs.Heir.{NextRight, next_at}
use Rattle.release.proofs.heir.Place.{place_right}

module _ (t : Table) (e : Record) {waits holders owns currents : List ℕ} (k : Known t waits holders owns currents) (z : lowest (refusals t e) ≡ 0) (kind : e.kind ≡ 5) where
  pub named_low : e.argument < 16
  named_low = resource_low t e k.shape z (inr kind)

  -- the thread itself stands in the queue
  standing : 1 ≤ at t.rows.length e.argument
  standing = ((holds_first t k.shape k.sound.bare.queues_right.lengths e.thread e.argument).0 (release_holds t e k.shape z kind)).0

  pub found : {queue lengths row : List ℕ} {resource r n : ℕ} (next : Option Next) → queue ≡ t.rows.queue → lengths ≡ t.rows.length → e.argument ≡ resource → r ≡ resource → n ≡ at lengths r →
      row ≡ slice_range queue (r * 32) (r * 32 + n) → MatchOption next (length row < 2) (λ x. (1 ≤ x.place) × (x.place < length row)) →
      IfSome next (λ x. x.number ≡ at currents (at row x.place)) → ((i : ℕ) → i + 1 < length row → IfSome next (λ x. at currents (at row (i + 1)) ≤ x.number)) →
      NextRight queue lengths currents resource next × (next_at queue resource next ≡ heir t (queues t resource))
  found {queue} {lengths} {row} {resource} {r} {n} next q l named index size part waiter number highest =
      rw (q, l, ← named) (place_right t (known_good t k) k.tracks e.argument named_low next standing (rw its_queue at waiter) (rw its_queue at number) (rw its_queue at highest))
    where
      its_queue : row ≡ queues t e.argument
      its_queue =
          let many : r * 32 + n - r * 32 ≡ n = omega arith in
          part ∙ rw (many, size, index, ← named, q, l)
