-- Those who wait for one resource: none depends on another, so that one of them has the highest current precedence, and one only. Assumes nothing.
use Prim.Native.Nat.{ℕ}
use mathlib.Core.Path.{◌≡◌}
use mathlib.Core.Logic.{inr}
use Rattle.protocol.specs.Sets.{SetOf, ◌∈◌, Highest}
use Rattle.protocol.specs.Events.{Precedence, ◌≼◌}
use Rattle.protocol.specs.Graph.{Queues, Waits, Cprec}
use Rattle.protocol.specs.Children.{children}
use Rattle.protocol.proofs.Chains.{Depends, reach_hop, past, one_reached, no_circle}
use Rattle.protocol.proofs.Lists.{dec_waits, in_held}
use Rattle.protocol.proofs.Current.{Orderly, parents}
use Rattle.protocol.proofs.Topmost.{cprecs_differ, topmost_some, topmost_one}

module _ {wq : Queues} {live : SetOf ℕ} (o : Orderly wq live) (r : ℕ) where
  -- if t depended on v, so would their holder, for whom v waits
  pub waiters_apart : (t v : ℕ) → Waits wq t r → Waits wq v r → ¬ Depends (children wq) t v
  waiters_apart t v w x d =
      let h = in_held (wq r) t w.0 in
      no_circle (children wq) (parents o) (o.forest.ends h.0).1 (reach_hop (children wq) (past (children wq) (parents o) (r, w, h.1) d) (r, x, h.1))

  -- nobody depends on both
  pub none_in_common : (t v u : ℕ) → Waits wq t r → Waits wq v r → Depends (children wq) u t → Depends (children wq) u v → t ≡ v
  none_in_common t v u w x a b = one_reached (children wq) (parents o) (waiters_apart t v w x) (waiters_apart v t x w) (inr a) (inr b)

  module _ (own : ℕ → Precedence) where
    pub topmost_waiter : (t : ℕ) → Waits wq t r → (v : ℕ) × (v ∈ Highest ◌≼◌ (Cprec wq own) (λ u. Waits wq u r))
    topmost_waiter = topmost_some o own (λ u. Waits wq u r) (λ u w. o.entries r u w.0) (λ u. dec_waits u (wq r))

    module _ (differ : (t u : ℕ) → t ∈ live → u ∈ live → own t ≡ own u → t ≡ u) where
      pub waiters_differ : (t v : ℕ) → Waits wq t r → Waits wq v r → (m : Precedence) → Cprec wq own t m → Cprec wq own v m → t ≡ v
      waiters_differ t v w x = cprecs_differ o own differ t v (o.entries r t w.0) (o.entries r v x.0) (waiters_apart t v w x) (waiters_apart v t x w)

      pub topmost_waiter_one : (t v : ℕ) → t ∈ Highest ◌≼◌ (Cprec wq own) (λ u. Waits wq u r) → v ∈ Highest ◌≼◌ (Cprec wq own) (λ u. Waits wq u r) → t ≡ v
      topmost_waiter_one = topmost_one o own (λ u. Waits wq u r) (λ u w. o.entries r u w.0) differ waiters_apart
