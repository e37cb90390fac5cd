-- A chain leads from a resource to a thread exactly where that thread is on the way from the resource, as the walk of the chains marks
-- it. Assumes nothing.
use Prim.Native.Nat.{ℕ, ◌+◌, ◌-◌, ◌<◌}
use mathlib.Core.Path.{◌≡◌, refl, sym, ap, ◌∙◌}
use mathlib.Core.Bool.{true, false≢true}
use mathlib.Core.List.{List}
use mathlib.Core.Logic.{◌⊎◌, inl, inr, ⊎_elim}
use native.Mathlib.Decide.{dec_lt}
use native.Mathlib.Omega.{arith}
use Rattle.protocol.specs.Children.{children}
use Rattle.protocol.proofs.Chains.{Reach, Climb, stop, hop, hop_reach, free_independent, past}
use Rattle.protocol.proofs.Ways.{free_waits}
use Rattle.protocol.proofs.Current.{parents, parent_live}
use Rattle.table.specs.declared.Table.{Table}
use Rattle.table.specs.Table.{queues, Holds}
use Rattle.table.specs.Compute.{holder}
use Rattle.table.specs.Code.Tracks.{Tracks}
use Rattle.table.proofs.Tests.Reflect.{Tells, same_test}
use Rattle.table.proofs.Tests.Computed.{sixteen}
use Rattle.table.proofs.Sound.Read.{holder_holds}
use Rattle.table.proofs.Values.Values.{Good, thread_low, resource_low}
use Rattle.chains.specs.Marks.{marked, mark}
use Rattle.chains.specs.Ways.{thread_way, resource_way}
use Rattle.chains.proofs.marks.Bits.{nobody_marked, mark_tells}
use Rattle.chains.proofs.ways.Steps.{thread_past, thread_free, thread_on, resource_past, resource_on}
use Rattle.chains.proofs.ways.Climbs.{Graphed, tracked_graphed}
use Rattle.refusals.specs.Refusals.{leads}
use Rattle.refusals.proofs.Tests.Tells.{retell, tells_behind}

module _ (t : Table) (good : Good t) {waits holders currents : List ℕ} (tracks : Tracks t waits holders currents) where
  graph : Graphed t waits holders
  graph = tracked_graphed t good tracks

  -- the walk from u, where nobody is seen
  abbrev walk : ℕ → ℕ → ℕ → ℕ
  walk n way u = thread_way n waits holders 0 way u

  -- it marks u and whom u waits for, directly or through others
  climb_marks : {u k : ℕ} → Climb (children (queues t)) u k → u < 32 → (n way x : ℕ) → k + k < n → Tells (marked (walk n way u) x) ((marked way x ≡ true) ⊎ Reach (children (queues t)) u x)
  climb_marks (stop {t = u} f) h n way x l = rw e (retell (mark_tells way u x h) (⊎_elim inl (λ q. inr (inl q))) back)
    where
      e : walk n way u ≡ mark way u
      e = thread_free waits holders 0 way n (n - 1) (omega arith) u h (nobody_marked u) (omega (arith, graph.free u h (λ r. free_waits (queues t) u r f)))

      back : (marked way x ≡ true) ⊎ Reach (children (queues t)) u x → (marked way x ≡ true) ⊎ (u ≡ x)
      back (inl m) = inl m
      back (inr (inl q)) = inr q
      back (inr (inr d)) = absurd (free_independent (children (queues t)) f d)
  climb_marks (hop {t = u} {h = v} {n = k} (r, w, o) c) h n way x l =
      rw e (retell (climb_marks c (thread_low t good v (parent_live good.order u v (r, w, o))) (n - 2) (mark way u) x (omega arith)) there back)
    where
      e : walk n way u ≡ walk (n - 2) (mark way u) v
      e =
          thread_on waits holders 0 way n (n - 1) (omega arith) u h (nobody_marked u) (omega (arith, graph.waiting u r w, resource_low t good u r w.0))
          ∙ ap (resource_way (n - 1) waits holders 0 (mark way u)) (graph.waiting u r w)
          ∙ resource_on waits holders 0 (mark way u) (n - 1) (n - 2) (omega arith) r (resource_low t good u r w.0)
          ∙ ap (walk (n - 2) (mark way u)) (graph.held v r o)

      there : (marked (mark way u) x ≡ true) ⊎ Reach (children (queues t)) v x → (marked way x ≡ true) ⊎ Reach (children (queues t)) u x
      there (inl m) = ⊎_elim inl (λ q. inr (inl q)) ((mark_tells way u x h).0 m)
      there (inr d) = inr (inr (hop_reach (children (queues t)) (r, w, o) d))

      back : (marked way x ≡ true) ⊎ Reach (children (queues t)) u x → (marked (mark way u) x ≡ true) ⊎ Reach (children (queues t)) v x
      back (inl m) = inl ((mark_tells way u x h).1 (inl m))
      back (inr (inl q)) = inl ((mark_tells way u x h).1 (inr q))
      back (inr (inr d)) = inr (past (children (queues t)) (parents good.order) (r, w, o) d)

  -- from the holder of a resource, nobody being marked before
  holder_marks : (v r x : ℕ) → Holds t v r → Tells (marked (walk 63 0 v) x) ((marked 0 x ≡ true) ⊎ Reach (children (queues t)) v x)
  holder_marks v r x h = climb_marks (good.order.forest.ends v).1 (thread_low t good v (good.order.entries r v h.0)) 63 0 x
      (omega (arith, sixteen t good.order (resource_low t good) (thread_low t good) v))

  none : {A : Type 0} (x : ℕ) → marked 0 x ≡ true → A
  none x m = absurd (false≢true (sym (nobody_marked x) ∙ m))

  module _ (r x : ℕ) where
    at_holder : r < 16 → resource_way 64 waits holders 0 0 r ≡ walk 63 0 (holder t r)
    at_holder l = resource_on waits holders 0 0 64 63 refl r l ∙ ap (walk 63 0) (tracks.holders_right r l)

    marks_lead : marked (resource_way 64 waits holders 0 0 r) x ≡ true → (v : ℕ) × Holds t v r × Reach (children (queues t)) v x
    marks_lead m = go (dec_lt r 16) (dec_lt (holder t r) 32)
      where
        go : Dec (r < 16) → Dec (holder t r < 32) → (v : ℕ) × Holds t v r × Reach (children (queues t)) v x
        go (no n) d = none x (rw (resource_past waits holders 0 0 64 63 refl r (omega arith)) at m)
        go (yes l) (no n) = none x (rw (at_holder l, thread_past waits holders 0 0 63 62 refl (holder t r) (omega arith)) at m)
        go (yes l) (yes h) = let o = holder_holds t good (holder t r) r h refl in
            (holder t r, o, ⊎_elim (none x) (λ d. d) ((holder_marks (holder t r) r x o).0 (rw (at_holder l) at m)))

    lead_marks : (v : ℕ) × Holds t v r × Reach (children (queues t)) v x → marked (resource_way 64 waits holders 0 0 r) x ≡ true
    lead_marks (v, o, c) = rw (resource_on waits holders 0 0 64 63 refl r (resource_low t good v r o.0), graph.held v r o) ((holder_marks v r x o).1 (inr c))

    pub leads_is : x < 32 → marked (resource_way 64 waits holders 0 0 r) x ≡ leads t r x
    leads_is low = same_test (marks_lead, lead_marks) (tells_behind t good r x low)
