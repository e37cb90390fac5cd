-- The way by the arrays is the graph's: so both end, or neither. Assumes nothing.
use Prim.Native.Nat.{ℕ, ◌≤◌, ◌<◌}
use mathlib.Core.Path.{◌≡◌, refl, sym, subst, ◌∙◌}
use mathlib.Core.List.{List}
use mathlib.Core.Logic.{◌↔◌, ⊎_elim}
use native.Mathlib.Decide.{ℕ_discrete}
use native.Mathlib.Omega.{arith}
use Rattle.protocol.specs.Sets.{◌∈◌, set}
use Rattle.protocol.specs.Children.{children}
use Rattle.protocol.proofs.Chains.{Climb, stop, hop, Ends}
use Rattle.protocol.proofs.Lists.{in_held}
use Rattle.protocol.proofs.Ways.{free_waits}
use Rattle.table.specs.declared.Table.{Table}
use Rattle.table.specs.Table.{at, queues, Holds, Waits}
use Rattle.table.specs.Sound.{QueuesRight}
use Rattle.table.specs.Compute.{first_or_32, holder, waits_for}
use Rattle.table.specs.Code.Places.{entry}
use Rattle.table.specs.Code.Shape.{Shape}
use Rattle.table.specs.Code.Tracks.{Tracks}
use Rattle.table.proofs.Sound.Queues.{live_low, taken_low, in_queue, holds_first, waits_low, OneQueue}
use Rattle.table.proofs.Sound.Read.{waited, waits_named, holder_free}
use Rattle.table.proofs.Tests.Computed.{holds_holder, waits_for_cases}
use Rattle.table.proofs.Values.Values.{Good, resource_low, thread_low}
use Rattle.chains.specs.Ways.{Ending, here, goes_on, EndsFrom}

-- the arrays have the table's graph: w what each thread waits for (16: nothing), h who holds each resource (32: nobody)
pub record Graphed (t : Table) (w h : List ℕ) : Type 0 where
  pub waiting : (x r : ℕ) → Waits t x r → at w x ≡ r
  pub free : (x : ℕ) → x < 32 → ((r : ℕ) → ¬ Waits t x r) → at w x ≡ 16
  pub held : (x r : ℕ) → Holds t x r → at h r ≡ x
  pub unheld : (r : ℕ) → r < 16 → ((x : ℕ) → ¬ Holds t x r) → at h r ≡ 32

-- the queue of a resource that nobody holds is empty
pub unheld_empty : (t : Table) → Shape t → ((r : ℕ) → at t.rows.length r ≤ 32) → (r : ℕ) → ((x : ℕ) → ¬ Holds t x r) → at t.rows.length r ≡ 0
unheld_empty t shape lengths r none = go (ℕ_discrete (at t.rows.length r) 0)
  where
    go : Dec (at t.rows.length r ≡ 0) → at t.rows.length r ≡ 0
    go (yes z) = z
    go (no n) = absurd (none (entry t.rows.queue r 0) ((holds_first t shape lengths (entry t.rows.queue r 0) r).1 (omega arith, refl)))

module _ (t : Table) (shape : Shape t) (right : QueuesRight t) {w h : List ℕ} (graphed : Graphed t w h) where
  one_queue : OneQueue t
  one_queue x r q a b = sym (graphed.waiting x r a) ∙ graphed.waiting x q b

  low : (x r : ℕ) → x ∈ set (queues t r) → r < 16
  low x r i = let a = (in_queue t shape right.lengths r x).0 i in taken_low t shape r a.0 a.1

  -- so they have what the definitions compute
  pub graphed_waits : (x : ℕ) → x < 32 → at w x ≡ waits_for t x
  graphed_waits x l = ⊎_elim {C = at w x ≡ waits_for t x} (λ k. graphed.waiting x (waits_for t x) k.1) (λ k. graphed.free x l k.1 ∙ sym k.0) (waits_for_cases t one_queue low x)

  pub graphed_holders : (r : ℕ) → r < 16 → at h r ≡ holder t r
  unfolding holder first_or_32
  graphed_holders r l = go (ℕ_discrete (at t.rows.length r) 0)
    where
      go : Dec (at t.rows.length r ≡ 0) → at h r ≡ holder t r
      go (yes z) = graphed.unheld r l (λ x o. omega (arith, ((holds_first t shape right.lengths x r).0 o).0)) ∙ rw z
      go (no n) = let o = (holds_first t shape right.lengths (entry t.rows.queue r 0) r).1 (omega arith, refl) in graphed.held (entry t.rows.queue r 0) r o ∙ sym (holds_holder t (entry t.rows.queue r 0) r o)

  named_waits : (x : ℕ) → x < 32 → at w x < 16 → Waits t x (at w x)
  named_waits x l k = ⊎_elim {C = Waits t x (at w x)} (λ c. rw (graphed_waits x l) c.1) (λ c. absurd (omega (arith, c.0, graphed_waits x l))) (waits_for_cases t one_queue low x)

  -- a resource that is waited for is held
  named_holds : (x r : ℕ) → Waits t x r → Holds t (at h r) r
  named_holds x r a = let o = in_held (queues t r) x a.0 in subst (λ (y : ℕ). Holds t y r) (sym (graphed.held o.0 r o.1)) o.1

  pub ending_climb : {x k : ℕ} → Ending w h x k → Climb (children (queues t)) x k
  ending_climb (here {t = x} l f) = stop (λ v (c : x ∈ children (queues t) v). omega (arith, graphed.waiting x c.0 c.1, waits_low t shape right.lengths x c.0 c.1))
  ending_climb (goes_on {t = x} l k e) = let a = named_waits x l k in hop (at w x, a, named_holds x (at w x) a) (ending_climb e)

  pub climb_ending : {x k : ℕ} → Climb (children (queues t)) x k → x < 32 → Ending w h x k
  climb_ending (stop {t = x} f) l = here l (omega (arith, graphed.free x l (λ r. free_waits (queues t) x r f)))
  climb_ending (hop {t = x} {h = v} {n = k} (r, a, o) c) l = goes_on {k = k} l (omega (arith, e, waits_low t shape right.lengths x r a))
      (rw (e, graphed.held v r o) (climb_ending c (live_low t shape v (right.live_entries r v o.0))))
    where
      e : at w x ≡ r
      e = graphed.waiting x r a

  pub walk_ends : ((x : ℕ) → x < 32 → EndsFrom w h x) ↔ ((x : ℕ) → x < 32 → Ends (children (queues t)) x)
  walk_ends = ((λ f x l. let c = f x l in (c.0, ending_climb c.1)), λ f x l. let c = f x l in (c.0, climb_ending c.1 l))

-- arrays that have what the definitions compute of a table in good order have its graph
pub named_graphed : (t : Table) → Good t → {w h : List ℕ} → ((x : ℕ) → x < 32 → at w x ≡ waits_for t x) → ((r : ℕ) → r < 16 → at h r ≡ holder t r) → Graphed t w h
named_graphed t g waits_right holders_right = record {
  waiting = λ x r a. waits_right x (thread_low t g x (g.bare.queues_right.live_entries r x a.0)) ∙ waits_named t g x r a;
  free = λ x l none. waits_right x l ∙ ⊎_elim {C = waits_for t x ≡ 16} (λ c. absurd (none (waits_for t x) c.1)) (λ c. c.0) (waited t g x);
  held = λ x r o. holders_right r (resource_low t g x r o.0) ∙ holds_holder t x r o;
  unheld = λ r l none. holders_right r l ∙ holder_free t g r (unheld_empty t g.shape g.bare.queues_right.lengths r none);
}

-- so the arrays that go with it do
pub tracked_graphed : (t : Table) → Good t → {w h currents : List ℕ} → Tracks t w h currents → Graphed t w h
tracked_graphed t g k = named_graphed t g k.waits_right k.holders_right
