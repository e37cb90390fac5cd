-- The graph's closure and its hops from thread to thread say the same. Assumes nothing.
use Prim.Native.Nat.{ℕ}
use mathlib.Core.Path.{refl}
use mathlib.Core.Logic.{inl, inr}
use Rattle.protocol.specs.Sets.{◌∈◌}
use Rattle.protocol.specs.Graph.{Queues, Holds, Node, T, C, RAG, ◌⁺, edge, then, dependants}
use Rattle.protocol.specs.Children.{children}
use Rattle.protocol.proofs.Chains.{Depends, direct, through, Reach, hop_reach}

pub snoc : {R : Node → Node → Type 0} {a b c : Node} → (R ⁺) a b → R b c → (R ⁺) a c
snoc (edge k) j = then k (edge j)
snoc (then k w) j = then k (snoc w j)

module _ (wq : Queues) where
  -- where the way from a node leads to t: from a thread, by its hops; from a resource, by way of its holder
  abbrev pub Leads : Node → ℕ → Type 0
  Leads (T u) t = Depends (children wq) u t
  Leads (C r) t = (v : ℕ) × Holds wq v r × Reach (children wq) v t

  one_edge : (a : Node) (t : ℕ) → RAG wq a (T t) → Leads a t
  one_edge (T u) t k = absurd k
  one_edge (C r) t k = (t, k, inl refl)

  one_more : (a b : Node) (t : ℕ) → RAG wq a b → Leads b t → Leads a t
  one_more (T u) (T v) t k w = absurd k
  one_more (T u) (C r) t k w = hop_reach (children wq) (r, k, w.1) w.2
  one_more (C r) (T v) t k w = (v, k, inr w)
  one_more (C r) (C q) t k w = absurd k

  pub leads : {a : Node} {t : ℕ} → (RAG wq ⁺) a (T t) → Leads a t
  leads {a} {t} (edge k) = one_edge a t k
  leads {a} {t} (then {b = b} k w) = one_more a b t k (leads w)

  pub depends_way : {u t : ℕ} → Depends (children wq) u t → u ∈ dependants wq t
  depends_way (direct (r, w, h)) = then {b = C r} w (edge h)
  depends_way (through d (r, w, h)) = snoc {b = C r} (snoc (depends_way d) w) h

  pub leads_way : {r v t : ℕ} → Holds wq v r → Reach (children wq) v t → (RAG wq ⁺) (C r) (T t)
  leads_way {r} h (inl e) = edge (rw e at h)
  leads_way {v = v} h (inr d) = then {b = T v} h (depends_way d)
