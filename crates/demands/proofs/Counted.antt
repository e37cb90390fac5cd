-- The count that is computed over the table is document 01's in the paper's words, and there is no other. Assumes nothing.
use Prim.Native.Nat.{ℕ, suc, ◌<◌}
use mathlib.Core.Path.{◌≡◌, refl, sym, ap, subst, ◌∙◌}
use mathlib.Core.Option.{none, some}
use mathlib.Core.List.{List, [], ◌∷◌}
use mathlib.Core.Logic.{◌≢◌, inl, inr, ⊎_elim, by_cases}
use mathlib.Core.HLevel.{×_discrete}
use native.Mathlib.Decide.{ℕ_discrete}
use native.Mathlib.Omega.{arith}
use Rattle.protocol.specs.Sets.{◌∈◌}
use Rattle.protocol.specs.Events.{Thread, Resource, Event, Create, Exit, Set, P, «V», State, threads, ◌≼◌}
use Rattle.protocol.specs.Graph.{Queues, Holds as HoldsIn, Waits as WaitsIn}
use Rattle.protocol.specs.Schedule.{wq, Cprec, Holds}
use Rattle.protocol.specs.Rules.{Valid}
use Rattle.protocol.proofs.Order.{≼_total}
use Rattle.protocol.proofs.Highest.{max_unique}
use Rattle.protocol.proofs.Chains.{Free, Climb, stop, hop}
use Rattle.protocol.proofs.Ways.{free_waits}
use Rattle.protocol.proofs.Theorems.{holds_one, waits_one}
use Rattle.table.specs.declared.Table.{Table}
use Rattle.table.specs.Table.{queues}
use Rattle.table.specs.Compute.{waits_for, current}
use Rattle.table.proofs.Sound.Read.{waited, waits_named}
use Rattle.table.proofs.Tests.Computed.{child_blocker, sixteen}
use Rattle.table.proofs.Values.Values.{Good, thread_low, resource_low, current_defined, hops}
use Rattle.events.specs.Events.{settled, changed}
use Rattle.events.specs.Count.{walk, request_count, release_count, count}
use Rattle.events.specs.Code.Permits.{Permits}
use Rattle.events.proofs.Kept.Stays.{changed_good}
use Rattle.events.proofs.Walk.Steps as steps
use Rattle.demands.specs.Counted.{Walk, same, last, on, Counts, create, exit, set_anew, free, taken, alone, follows}
use Rattle.demands.proofs.Agrees.{Reached, good, ordered, same_queues}
use Rattle.demands.proofs.Same.{same_cprec, shows}

-- t is the table before a P and a the one after it, but for its stored current precedences
module _ {t a : Table} {s : State} {th : Thread} {cs : Resource} (before : Reached t s) (after : Reached (settled a) (P th cs ∷ s)) (g : Good a) where
  -- the queues after the P are those of the state after it
  queues_now : (Q : Queues → Type 0) → Q (queues a) → Q (wq (P th cs ∷ s))
  unfolding settled
  queues_now Q = (same_queues after Q).0

  -- what is computed is a live thread's current precedence, before and after
  was : (x : Thread) → x ∈ threads s → Cprec s x (current t x)
  was x l = (same_cprec before x l (current t x)).0 (current_defined t (good before) x)

  now : (x : Thread) → x ∈ threads s → Cprec (P th cs ∷ s) x (current a x)
  unfolding settled
  now x l = (same_cprec after x l (current a x)).0 (current_defined a g x)

  -- from x the walk that is computed counts as many threads as the paper's, if it may count so many:
  abbrev Walked : Thread → Type 0
  Walked x = (n : ℕ) × steps.Counts t a x n × Walk s (P th cs) x n

  -- where the current precedence stays the same,
  stops_same : (x : Thread) → x ∈ threads s → current t x ≡ current a x → Walked x
  stops_same x l e = (1, steps.counts_one t a x (inl e), same (current t x) (was x l) (rw e (now x l)))

  -- where the thread waits for nothing,
  stops_last : (x : Thread) → Free (hops a g) x → Walked x
  stops_last x f = ⊎_elim {C = Walked x}
      (λ w. absurd (free_waits (queues a) x (waits_for a x) f w.1))
      (λ w. (1, steps.counts_one t a x (inr w.0), last (queues_now (λ q. (r : Resource) → ¬ WaitsIn q x r) w.1)))
      (waited a g x)

  -- else where it waits for what h holds, if it is so from h,
  goes_on : (x h : Thread) → x ∈ threads s → current t x ≢ current a x → x ∈ hops a g h → Walked h → Walked x
  goes_on x h l d (r, w, k) (n, counts, up) = (
    suc n,
    steps.counts_on t a x n (⊎_elim {C = ⊥} d waiting) (rw (child_blocker a g.bare.one_wait (resource_low a g) x h (r, w, k)) counts),
    on (current t x) (current a x) r (was x l) (now x l) d (queues_now (λ q. WaitsIn q x r) w) (queues_now (λ q. HoldsIn q h r) k) up,
  )
    where
      waiting : waits_for a x ≢ 16
      waiting e = omega (arith, waits_named a g x r w, resource_low a g x r w.0)

  -- and so at every live thread, up to where its way ends
  walked : {x k : ℕ} → Climb (hops a g) x k → x ∈ threads s → Walked x
  walked (stop {t = x} f) l = stops_last x f
  walked (hop {t = x} {h = h} (r, w, k) c) l = by_cases {C = Walked x} (×_discrete ℕ_discrete ℕ_discrete (current t x) (current a x))
      (stops_same x l)
      (λ d. goes_on x h l d (r, w, k) (walked c ((ordered after).entries r h (queues_now (λ q. HoldsIn q h r) k).0)))

  -- 32 threads are enough, since a chain passes at most sixteen holders
  walk_is : (h : Thread) → h ∈ threads s → Walk s (P th cs) h (walk 32 t a h)
  walk_is h l = let c = (g.order.forest.ends h).1 in let w = walked c l in
      subst (Walk s (P th cs) h) (sym (w.1 32 (omega (arith, steps.counts_short t a g c w.0 w.1, sixteen a g.order (resource_low a g) (thread_low a g) h)))) w.2

  -- so what is computed for a P is right
  request_is : Counts s (P th cs) (request_count t a (queues t cs))
  unfolding request_count
  request_is = rw ((shows before).queues_are cs) (go (wq s cs) refl)
    where
      go : (q : List Thread) → wq s cs ≡ q → Counts s (P th cs) (request_count t a q)
      go [] e = free e
      go (h ∷ hs) e = let held : Holds s h cs = rw e (inl refl, refl) in taken held (walk_is h ((ordered before).entries cs h held.0))

-- the count that is computed is the one in the paper's words
pub counted : {t : Table} {s : State} → Reached t s → t.clock < 65535 → {ev : Event} → Permits t ev → Reached (settled (changed t ev)) (ev ∷ s) → Counts s ev (count t ev)
unfolding count release_count
counted r early {ev = Create th prio} p after = create
counted r early {ev = Exit th} p after = exit
counted r early {ev = Set th prio} p after = set_anew
counted {t} r early {ev = P th cs} p after = request_is r after (changed_good t (good r) early p)
counted r early {ev = «V» th cs none} p after = alone
counted r early {ev = «V» th cs (some next)} p after = follows

-- from a thread there is one walk
walk_one : {s : State} {ev : Event} → Valid (ev ∷ s) → {x : Thread} {n m : ℕ} → Walk s ev x n → Walk s ev x m → n ≡ m
walk_one v (same p a b) (same q c d) = refl
walk_one v (same p a b) (last f) = refl
walk_one v (same p a b) (on q q' r c c' d w h k) = absurd (d (max_unique ◌≼◌ ≼_total c a ∙ max_unique ◌≼◌ ≼_total b c'))
walk_one v (last f) (same q c d) = refl
walk_one v (last f) (last f') = refl
walk_one v (last f) (on q q' r c c' d w h k) = absurd (f r w)
walk_one v (on q q' r c c' d w h k) (same p a b) = absurd (d (max_unique ◌≼◌ ≼_total c a ∙ max_unique ◌≼◌ ≼_total b c'))
walk_one v (on q q' r c c' d w h k) (last f) = absurd (f r w)
walk_one {s} {ev} v {x} (on {h = h} p p' r a a' d w k up) (on {h = h₂} q q' r₂ c c' d₂ w₂ k₂ up₂) =
    let e : r₂ ≡ r = waits_one (ev ∷ s) v x r₂ r w₂ w in
    let same_holder : h₂ ≡ h = holds_one (ev ∷ s) h₂ h r (rw e at k₂) k in
    ap suc (walk_one v up (rw same_holder at up₂))

-- and there is one count
pub counts_one : {s : State} {ev : Event} → Valid (ev ∷ s) → {n m : ℕ} → Counts s ev n → Counts s ev m → n ≡ m
counts_one v create create = refl
counts_one v exit exit = refl
counts_one v set_anew set_anew = refl
counts_one v (free e) (free e') = refl
counts_one v (free e) (taken h w) = absurd (rw e at h.0)
counts_one v (taken h w) (free e) = absurd (rw e at h.0)
counts_one {s} v (taken {h = h} {cs = cs} held w) (taken {h = h'} held' w') = let e : h' ≡ h = holds_one s h' h cs held' held in walk_one v w (rw e at w')
counts_one v alone alone = refl
counts_one v follows follows = refl
