-- The heir of a queue: the waiter of highest current precedence, and there is one such. Assumes nothing.
use Prim.Native.Nat.{ℕ, zero, suc, ◌+◌, ◌*◌, ◌≤◌, ◌<◌}
use mathlib.Core.Path.{◌≡◌, refl, sym, ap, ◌∙◌}
use mathlib.Core.Option.{Option, none, some}
use mathlib.Core.List.{List, [], ◌∷◌}
use mathlib.Core.Logic.{inr}
use native.Mathlib.Omega.{arith}
use lib.ListN.{length}
use Rattle.std.specs.Prelude.{MatchOption, IfSome}
use Rattle.std.specs.declared.option.Option.{Option as Maybe}
use Rattle.std.specs.declared.option.Option.TheVariants.{Some, None}
use Rattle.protocol.specs.Sets.{◌∈◌, Highest}
use Rattle.protocol.specs.Events.{◌≼◌}
use Rattle.protocol.proofs.Lists.{Follows}
use Rattle.table.specs.declared.Table.{Table}
use Rattle.table.specs.Table.{at, queues, Waits, Cprec}
use Rattle.table.specs.Code.Places.{entry}
use Rattle.table.specs.Code.Tracks.{Tracks}
use Rattle.table.proofs.Arrays.Places.{part_at}
use Rattle.table.proofs.Sound.Queues.{waits_behind, behind_waits}
use Rattle.table.proofs.Sound.Read.{queue_length, one_heir}
use Rattle.table.proofs.Values.Values.{Good}
use Rattle.table.proofs.Values.Runs.{highest_number}
use Rattle.events.specs.Events.{heir}
use Rattle.events.proofs.Heir.{heir_follows, heir_topmost}
use Rattle.release.specs.declared.heir.Next.{Next}
use Rattle.release.specs.Heir.{GreatestBehind, NextRight, next_at}

-- where fewer than two stand in a queue it has no heir
no_heir : (t : Table) (q : List ℕ) → length q < 2 → heir t q ≡ none
unfolding heir
no_heir t [] h = refl
no_heir t (a ∷ []) h = refl
no_heir t (a ∷ (x ∷ xs)) h = absurd (omega arith)

module _ (t : Table) (g : Good t) {waiting holders currents : List ℕ} (k : Tracks t waiting holders currents) (r : ℕ) (low : r < 16) where
  all : length (queues t r) ≡ at t.rows.length r
  all = queue_length t g r low

  is : (i : ℕ) → i < at t.rows.length r → at (queues t r) i ≡ entry t.rows.queue r i
  is = part_at t.rows.queue (r * 32) (at t.rows.length r) (inr (omega (arith, g.shape.queue_size, g.bare.queues_right.lengths r)))

  -- a place behind the head, with its number, and none behind the head has a greater one
  module _ (x : Next) (behind : 1 ≤ x.place) (inside : x.place < length (queues t r)) (number : x.number ≡ at currents (at (queues t r) x.place))
      (highest : (i : ℕ) → i + 1 < length (queues t r) → at currents (at (queues t r) (i + 1)) ≤ x.number) where
    within : x.place < at t.rows.length r
    within = omega (arith, inside, all)

    number_is : x.number ≡ at currents (entry t.rows.queue r x.place)
    number_is = number ∙ ap (at currents) (is x.place within)

    bound : (i : ℕ) → 1 ≤ i → i < at t.rows.length r → at currents (entry t.rows.queue r i) ≤ x.number
    bound zero l h = absurd (omega arith)
    bound (suc i) l h =
        let e : i + 1 ≡ suc i = omega arith in
        rw (← is (suc i) h, ← e) (highest i (omega (arith, h, all)))

    right : GreatestBehind t.rows.queue t.rows.length currents r x
    right = record { behind = behind; within = within; greatest = record { among = (x.place, behind, within, number_is); bound = λ a w. rw w.3 (bound w.0 w.1 w.2) } }

    -- at that place stands a waiter
    e_waits : Waits t (entry t.rows.queue r x.place) r
    e_waits = behind_waits t g.shape g.bare.queues_right.lengths (entry t.rows.queue r x.place) r (g.bare.queues_right.differ r) (x.place, behind, within, refl)

    -- of highest current precedence
    e_topmost : entry t.rows.queue r x.place ∈ Highest ◌≼◌ (Cprec t) (λ u. Waits t u r)
    e_topmost = highest_number t g k (λ u. Waits t u r) (λ u w. g.bare.queues_right.live_entries r u w.0) (entry t.rows.queue r x.place) e_waits
        (λ u w. let b = waits_behind t g.shape g.bare.queues_right.lengths u r w in rw (← b.3, ← number_is) (bound b.0 b.1 b.2))

    -- which is the heir
    highest_heir : heir t (queues t r) ≡ some (entry t.rows.queue r x.place)
    highest_heir = go (heir t (queues t r)) refl (heir_follows t (queues t r) (g.bare.queues_right.differ r))
      where
        go : (next : Option ℕ) → heir t (queues t r) ≡ next → Follows (queues t r) next → heir t (queues t r) ≡ some (entry t.rows.queue r x.place)
        go none e f = absurd (f (entry t.rows.queue r x.place) e_waits)
        go (some b) e f = e ∙ ap some (one_heir t g r b (entry t.rows.queue r x.place) (heir_topmost t g r b e) e_topmost)

  -- whoever stands at the place that is found in the queue is the heir, and nobody where none is found
  pub place_right : (next : Maybe Next) → 1 ≤ at t.rows.length r → MatchOption next (length (queues t r) < 2) (λ x. (1 ≤ x.place) × (x.place < length (queues t r))) →
      IfSome next (λ x. x.number ≡ at currents (at (queues t r) x.place)) →
      ((i : ℕ) → i + 1 < length (queues t r) → IfSome next (λ x. at currents (at (queues t r) (i + 1)) ≤ x.number)) →
      NextRight t.rows.queue t.rows.length currents r next × (next_at t.rows.queue r next ≡ heir t (queues t r))
  place_right None held few n h = (held, sym (no_heir t (queues t r) few))
  place_right (Some x) held w n h = (right x w.0 w.1 n h, sym (highest_heir x w.0 w.1 n h))
