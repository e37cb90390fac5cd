-- The count of re-evaluations is never above 16. Assumes nothing.
use Prim.Native.Nat.{ℕ, ◌≤◌, ◌<◌}
use mathlib.Core.Path.{◌≡◌, refl, sym, subst}
use mathlib.Core.Option.{Option, none, some}
use mathlib.Core.List.{List, [], ◌∷◌, ◌++◌}
use mathlib.Core.Logic.{inl}
use native.Mathlib.Omega.{arith}
use Rattle.protocol.specs.Events.{Event, P}
use Rattle.protocol.specs.Graph.{Queues, Holds as HoldsIn}
use Rattle.protocol.specs.Ways.{on_to_holder}
use Rattle.protocol.specs.Schedule.{update}
use Rattle.protocol.proofs.Forest.{holds_join}
use Rattle.protocol.proofs.Lists.{Holding}
use Rattle.protocol.proofs.Ways.{climb_way, way_bounded}
use Rattle.table.specs.declared.Table.{Table}
use Rattle.table.specs.Table.{queues, Holds}
use Rattle.table.proofs.Values.Values.{Good, resource_low}
use Rattle.events.specs.Events.{with_queue, changed}
use Rattle.events.specs.Count.{request_count, release_count, count}
use Rattle.events.specs.Code.Permits.{Permits, create, exit, set, request, release}
use Rattle.events.proofs.Queues.Queued.{queues_queued}
use Rattle.events.proofs.Kept.Queues.{queue_short, request_fits, request_joins}
use Rattle.events.proofs.Kept.Stays.{changed_good}
use Rattle.events.proofs.Walk.Steps.{walk_short}

-- from a resource the walk passes at most sixteen holders
request_sixteen : (b a : Table) → Good a → (cs : ℕ) (q : List ℕ) → ((h : ℕ) → Holding q h → Holds a h cs) → request_count b a q ≤ 16
unfolding request_count
request_sixteen b a g cs [] f = omega arith
request_sixteen b a g cs (h ∷ hs) f = let c = (g.order.forest.ends h).1 in
    omega (arith, walk_short b a g c 32, way_bounded (queues a) g.bare.one_wait 16 (λ x r i. resource_low a g x r i.0) (on_to_holder (f h (inl refl, refl)) (climb_way (queues a) c)))

-- V counts at most two
release_two : (next : Option ℕ) → release_count next ≤ 16
unfolding release_count
release_two none = omega arith
release_two (some h) = omega arith

-- The count is never above 16.
pub counted_sixteen : (t : Table) → Good t → t.clock < 65535 → {ev : Event} → Permits t ev → count t ev ≤ 16
unfolding count changed with_queue
counted_sixteen t g early (create low small new) = omega arith
counted_sixteen t g early (exit runs empty_handed) = omega arith
counted_sixteen t g early (set runs small) = omega arith
counted_sixteen t g early (request {th} {cs} runs low chainless) = request_sixteen t _ (changed_good t g early p) cs (queues t cs) (λ h o. subst (λ (wq : Queues). HoldsIn wq h cs) (sym is) (holds_join (request_joins t g p) cs h o))
  where
    p : Permits t (P th cs)
    p = request runs low chainless

    q : List ℕ
    q = queues t cs ++ (th ∷ [])

    is : queues (with_queue t cs q) ≡ update (queues t) cs q
    is = queues_queued t cs q g.shape low (queue_short t cs q g.shape (request_fits t g p)) g.bare.queues_right.lengths
counted_sixteen t g early (release {next = next} runs head follows) = release_two next
