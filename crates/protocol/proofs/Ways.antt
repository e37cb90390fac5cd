-- The way along the graph from a node: it is a climb, no two have different lengths, and over N resources it passes at most N
-- holders. Assumes nothing.
use Prim.Native.Nat.{ℕ, zero, suc, ◌≤◌, ◌<◌}
use mathlib.Core.Path.{◌≡◌, refl, sym, ap, subst}
use mathlib.Core.Logic.{inl}
use mathlib.Core.List.{List, [], ◌∷◌}
use native.Mathlib.Decide.{ℕ_discrete}
use native.Mathlib.Omega.{arith}
use Rattle.protocol.specs.Graph.{Queues, Holds, Waits, Node, T, C, RAG}
use Rattle.protocol.specs.Children.{children}
use Rattle.protocol.specs.Ways.{Way, ends, on_to_resource, on_to_holder}
use Rattle.protocol.proofs.Pigeons.{pigeons_by}
use Rattle.protocol.proofs.Chains.{Free, Climb, stop, hop, Ends, OneParent}
use Rattle.protocol.proofs.Lists.{hd_one, in_held}

-- nobody waits for two resources
abbrev pub OneWait : Queues → Type 0
OneWait wq = (t r q : ℕ) → Waits wq t r → Waits wq t q → r ≡ q

module _ (wq : Queues) where
  pub one_holder : (r t v : ℕ) → Holds wq t r → Holds wq v r → t ≡ v
  one_holder r t v h k = hd_one (wq r) t v h.1 k.1

  pub one_parent : OneWait wq → OneParent (children wq)
  one_parent one u t v (r, w, h) (q, x, k) = one_holder r t v h (subst (λ (y : ℕ). Holds wq v y) (one u q r x w) k)

  -- who waits for nobody waits for no resource
  pub free_waits : (t r : ℕ) → Free (children wq) t → ¬ Waits wq t r
  free_waits t r f w = let h = in_held (wq r) t w.0 in f h.0 (r, w, h.1)

  pub waits_free : (t : ℕ) → ((r : ℕ) → ¬ Waits wq t r) → Free (children wq) t
  waits_free t none h (r, w, k) = none r w

  -- a climb is a way from a thread
  pub climb_way : {t n : ℕ} → Climb (children wq) t n → Way wq (T t) n
  climb_way (stop {t = t} f) = ends nowhere
    where
      nowhere : (b : Node) → ¬ RAG wq (T t) b
      nowhere (T u) k = k
      nowhere (C r) k = free_waits t r f k
  climb_way (hop (r, w, h) c) = on_to_resource w (on_to_holder h (climb_way c))

  -- where every climb ends, so does the way from every node
  pub every_way : ((t : ℕ) → Ends (children wq) t) → (a : Node) → (k : ℕ) × Way wq a k
  every_way end (T t) = ((end t).0, climb_way (end t).1)
  every_way end (C r) = go (wq r) refl
    where
      go : (q : List ℕ) → wq r ≡ q → (k : ℕ) × Way wq (C r) k
      go [] e = (zero, ends nowhere)
        where
          nowhere : (b : Node) → ¬ RAG wq (C r) b
          nowhere (T u) k = rw e at k.0
          nowhere (C q) k = k
      go (x ∷ xs) e = (suc (end x).0, on_to_holder {cs = r} {th = x} (rw e (inl refl, refl)) (climb_way (end x).1))

  -- a way from a thread is a climb
  pub way_climb : {t k : ℕ} → Way wq (T t) k → Climb (children wq) t k
  way_climb (ends {a = T t} f) = stop (waits_free t (λ r. f (C r)))
  way_climb (on_to_resource {th = t} {cs = r} w (ends f)) = let h = in_held (wq r) t w.0 in absurd (f (T h.0) h.1)
  way_climb (on_to_resource {cs = r} w (on_to_holder h x)) = hop (r, w, h) (way_climb x)

  module _ (one : OneWait wq) where
    pub way_unique : {a : Node} {k l : ℕ} → Way wq a k → Way wq a l → k ≡ l
    way_unique (ends f) (ends g) = refl
    way_unique (ends f) (on_to_resource {cs = r} w x) = absurd (f (C r) w)
    way_unique (ends f) (on_to_holder {th = t} h x) = absurd (f (T t) h)
    way_unique (on_to_resource {cs = r} w x) (ends g) = absurd (g (C r) w)
    way_unique (on_to_holder {th = t} h x) (ends g) = absurd (g (T t) h)
    way_unique (on_to_resource {th = t} {cs = r} w x) (on_to_resource {cs = q} {k = l} v y) = way_unique x (subst (λ (z : ℕ). Way wq (C z) l) (one t q r v w) y)
    way_unique (on_to_holder {cs = r} {th = t} h x) (on_to_holder {th = u} {k = l} g y) = ap suc (way_unique x (subst (λ (z : ℕ). Way wq (T z) l) (one_holder r u t g h) y))

    -- a way that passes k holders passes, for each i up to k, a held resource from which it passes i
    pub way_below : {a : Node} {k : ℕ} → Way wq a k → (i : ℕ) → i < k → (r : ℕ) × Way wq (C r) (suc i) × ((t : ℕ) × Holds wq t r)
    way_below (ends f) i l = absurd (omega arith)
    way_below (on_to_resource w x) i l = way_below x i l
    way_below (on_to_holder {cs = r} {th = t} {k = k} h x) i l = go (λ g. way_below x i g) (ℕ_discrete i k)
      where
        go : (i < k → (r : ℕ) × Way wq (C r) (suc i) × ((t : ℕ) × Holds wq t r)) → Dec (i ≡ k) → (r : ℕ) × Way wq (C r) (suc i) × ((t : ℕ) × Holds wq t r)
        go below (yes e) = (r, subst (λ (j : ℕ). Way wq (C r) (suc j)) (sym e) (on_to_holder h x), (t, h))
        go below (no e) = below (omega arith)

    -- over N resources the way passes at most N holders
    pub way_bounded : (N : ℕ) → ((t r : ℕ) → Holds wq t r → r < N) → {a : Node} {k : ℕ} → Way wq a k → k ≤ N
    way_bounded N low {k = k} x = pigeons_by N k (λ i r. Way wq (C r) (suc i))
        (λ i l. let b = way_below x i l in (b.0, b.1, low b.2.0 b.0 b.2.1))
        (λ i j r p q. omega (arith, way_unique p q))
