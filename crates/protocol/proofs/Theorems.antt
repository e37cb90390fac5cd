-- The paper's theorems, for every valid state. Assumes nothing.
use Prim.Native.Nat.{ℕ, ◌≤◌, ◌<◌}
use mathlib.Core.Path.{◌≡◌}
use mathlib.Core.Logic.{◌≢◌, ◌⊎◌, ◌↔◌}
use Rattle.protocol.specs.Sets.{◌∈◌, only, ◌∪◌, images, set, Distinct, Max, Highest}
use Rattle.protocol.specs.Events.{Thread, Resource, State, threads, Precedence, prec, ◌≼◌}
use Rattle.protocol.specs.Graph.{Node, T, C, ◌⁺, edge, then}
use Rattle.protocol.specs.Schedule.{wq, Holds, Waits, RAG, Cprec, ready, running}
use Rattle.protocol.specs.Notions.{dependants}
use Rattle.protocol.specs.Rules.{Valid}
use Rattle.protocol.specs.Ways.{Way}
use Rattle.protocol.specs.Children.{children, LocalLaw}
use Rattle.protocol.proofs.Order.{≼_total}
use Rattle.protocol.proofs.Highest.{max_unique}
use Rattle.protocol.proofs.Chains.{no_circle}
use Rattle.protocol.proofs.Graphs.{snoc, leads}
use Rattle.protocol.proofs.Ways.{one_holder, every_way, way_bounded}
use Rattle.protocol.proofs.Kept.{Kept, valid_kept, prec_differs}
use Rattle.protocol.proofs.Finite.{size, live_below, taken_below, valid_orderly}
use Rattle.protocol.proofs.Current.{Orderly, parents, cprec_some, local_cprec, law_cprec, law_walk}
use Rattle.protocol.proofs.Runner.{running_unique, running_some}
use Rattle.protocol.proofs.Waiters.{waiters_apart as apart, none_in_common as in_common, waiters_differ as cprecs_apart, topmost_waiter, topmost_waiter_one}

-- running s ⊆ ready s ⊆ threads s; the threads are finitely many, and so are the taken resources, so the graph is finite

pub running_is_ready : (s : State) (th : Thread) → th ∈ running s → th ∈ ready s
running_is_ready s th r = r.among

pub ready_is_live : (s : State) (th : Thread) → th ∈ ready s → th ∈ threads s
ready_is_live s th k = k.0

pub finite_threads : (s : State) → (n : ℕ) × ((th : Thread) → th ∈ threads s → th < n)
finite_threads s = (size s, live_below s)

pub finite_resources : (s : State) → (n : ℕ) × ((cs : Resource) (th : Thread) → th ∈ set (wq s cs) → cs < n)
finite_resources s = (size s, taken_below s)

-- a resource has at most one holder
pub holds_one : (s : State) (th₁ th₂ : Thread) (cs : Resource) → Holds s th₁ cs → Holds s th₂ cs → th₁ ≡ th₂
holds_one s th₁ th₂ cs = one_holder (wq s) cs th₁ th₂

module _ (s : State) (v : Valid s) where
  kept : Kept s
  kept = valid_kept s v

  order : Orderly (wq s) (threads s)
  order = valid_orderly s v

  -- a thread waits for at most one resource
  pub waits_one : (th : Thread) (cs₁ cs₂ : Resource) → Waits s th cs₁ → Waits s th cs₂ → cs₁ ≡ cs₂
  waits_one = kept.forest.one_wait

  -- no thread stands twice in a queue
  pub queue_distinct : (cs : Resource) → Distinct (wq s cs)
  queue_distinct = kept.forest.once

  -- every thread in the graph is live: where an edge begins at it, and where one ends at it
  pub waiter_live : (th : Thread) (a : Node) → RAG s (T th) a → th ∈ threads s
  waiter_live th (T u) k = absurd k
  waiter_live th (C cs) k = kept.entries cs th k.0

  pub holder_live : (a : Node) (th : Thread) → RAG s a (T th) → th ∈ threads s
  holder_live (T u) th k = absurd k
  holder_live (C cs) th k = kept.entries cs th k.0

  -- precedences of live threads differ
  pub precs_differ : (th₁ th₂ : Thread) → th₁ ∈ threads s → th₂ ∈ threads s → prec th₁ s ≡ prec th₂ s → th₁ ≡ th₂
  precs_differ = prec_differs kept

  -- no circle: no way along the graph comes back to where it began
  pub acyclic : (a : Node) → ¬ (RAG s ⁺) a a
  acyclic (T th) w = no_circle (children (wq s)) (parents order) (kept.forest.ends th).1 (leads (wq s) w)
  acyclic (C cs) (edge k) = k
  acyclic (C cs) (then {b = T th} k w) = no_circle (children (wq s)) (parents order) (kept.forest.ends th).1 (leads (wq s) (snoc w k))
  acyclic (C cs) (then {b = C cs'} k w) = k

  -- from every node the way along the graph ends
  pub way_ends : (a : Node) → (k : ℕ) × Way (wq s) a k
  way_ends = every_way (wq s) kept.forest.ends

  -- and over R resources it passes at most R holders: over resources 0 to 15, at most 16
  pub way_short : (R : ℕ) → ((th : Thread) (cs : Resource) → Holds s th cs → cs < R) → (a : Node) (k : ℕ) → Way (wq s) a k → k ≤ R
  way_short R low a k = way_bounded (wq s) kept.forest.one_wait R low

  -- at most one thread runs
  pub one_runs : (th₁ th₂ : Thread) → th₁ ∈ running s → th₂ ∈ running s → th₁ ≡ th₂
  one_runs = running_unique order (λ u. prec u s) precs_differ

  -- and one does whenever any is live
  pub some_runs : (th : Thread) → th ∈ threads s → (th' : Thread) × (th' ∈ running s)
  some_runs = running_some order (λ u. prec u s)

  -- two threads that wait for one resource have no dependant in common, and neither is the other's
  pub waiters_apart : (cs : Resource) (th₁ th₂ : Thread) → Waits s th₁ cs → Waits s th₂ cs → ¬ (th₁ ∈ dependants s th₂)
  waiters_apart cs th₁ th₂ w₁ w₂ d = apart order cs th₁ th₂ w₁ w₂ (leads (wq s) d)

  pub none_in_common : (cs : Resource) (th₁ th₂ th : Thread) → Waits s th₁ cs → Waits s th₂ cs → th ∈ dependants s th₁ → th ∈ dependants s th₂ → th₁ ≡ th₂
  none_in_common cs th₁ th₂ th w₁ w₂ d₁ d₂ = in_common order cs th₁ th₂ th w₁ w₂ (leads (wq s) d₁) (leads (wq s) d₂)

  -- so their current precedences differ
  pub waiters_differ : (cs : Resource) (th₁ th₂ : Thread) → Waits s th₁ cs → Waits s th₂ cs → (m : Precedence) → Cprec s th₁ m → Cprec s th₂ m → th₁ ≡ th₂
  waiters_differ cs = cprecs_apart order cs (λ u. prec u s) precs_differ

  -- at most one of those who wait for a resource has the highest current precedence of them all
  pub one_heir : (cs : Resource) (th₁ th₂ : Thread) → th₁ ∈ Highest ◌≼◌ (Cprec s) (λ th. Waits s th cs) → th₂ ∈ Highest ◌≼◌ (Cprec s) (λ th. Waits s th cs) → th₁ ≡ th₂
  one_heir cs = topmost_waiter_one order cs (λ u. prec u s) precs_differ

  -- and one does whenever any waits
  pub some_heir : (cs : Resource) (th : Thread) → Waits s th cs → (th' : Thread) × (th' ∈ Highest ◌≼◌ (Cprec s) (λ th. Waits s th cs))
  some_heir cs = topmost_waiter order cs (λ u. prec u s)

  -- every thread has a current precedence, and one only
  pub has_cprec : (th : Thread) → (m : Precedence) × Cprec s th m
  has_cprec = cprec_some order (λ u. prec u s)

  pub one_cprec : (th : Thread) (m₁ m₂ : Precedence) → Cprec s th m₁ → Cprec s th m₂ → m₁ ≡ m₂
  one_cprec th m₁ m₂ = max_unique ◌≼◌ ≼_total

  -- Lemma 4: cprec s th = Max ({prec th s} ∪ cprec s ' children s th)
  pub lemma_4 : (th : Thread) (m : Precedence) → Cprec s th m ↔ Max ◌≼◌ (only (prec th s) ∪ images (Cprec s) (children (wq s) th)) m
  lemma_4 = local_cprec order (λ u. prec u s)

  -- Lemma 4's converse: whatever satisfies the local law at every live thread is the current precedence
  pub lemma_4_converse : (c : Thread → Precedence) → ((th : Thread) → th ∈ threads s → LocalLaw (wq s) (λ u. prec u s) c th (c th)) →
      (th : Thread) → th ∈ threads s → Cprec s th (c th)
  lemma_4_converse = law_cprec order (λ u. prec u s)

  -- the values c satisfy the local law at th
  abbrev Law : (Thread → Precedence) → Thread → Type 0
  Law c th = LocalLaw (wq s) (λ u. prec u s) c th (c th)

  -- The law of the walk. Let the local law hold for the values c everywhere but at x, and let e be c with x worked out afresh,
  -- be it higher or lower. Then the law holds for e everywhere, or x waits for what some h holds and it holds everywhere but
  -- at h; and if the value of x stayed the same, everywhere.
  pub walk : (c e : Thread → Precedence) (x : Thread) → ((th : Thread) → th ∈ threads s → th ≢ x → Law c th) →
      LocalLaw (wq s) (λ u. prec u s) c x (e x) → ((th : Thread) → th ≢ x → e th ≡ c th) →
      (((th : Thread) → th ∈ threads s → Law e th) ⊎ ((h : Thread) × (x ∈ children (wq s) h) × ((th : Thread) → th ∈ threads s → th ≢ h → Law e th)))
      × (e x ≡ c x → (th : Thread) → th ∈ threads s → Law e th)
  walk = law_walk order (λ u. prec u s)
