-- Of some live threads, the one of highest current precedence: there is one, and where none of them depends on another, one only. Assumes nothing.
use Prim.Native.Nat.{ℕ, ◌<◌}
use mathlib.Core.Path.{◌≡◌, refl, sym, subst, ◌∙◌}
use mathlib.Core.Logic.{inl, inr, ⊎_elim}
use Rattle.protocol.specs.Sets.{SetOf, ◌∈◌, image, images, Max, Highest}
use Rattle.protocol.specs.Events.{Precedence, ◌≼◌}
use Rattle.protocol.specs.Graph.{Queues, Cprec}
use Rattle.protocol.specs.Children.{children}
use Rattle.protocol.proofs.Order.{≼_total}
use Rattle.protocol.proofs.Highest.{max_unique, max_map, max_below}
use Rattle.protocol.proofs.Chains.{Depends, Reach, one_reached}
use Rattle.protocol.proofs.Current.{Orderly, cprec_current, cprec_some, now, now_images, images_now, parents, dependant_live}

module _ {wq : Queues} {live : SetOf ℕ} (o : Orderly wq live) (own : ℕ → Precedence) where
  -- a current precedence is some live thread's own
  pub source : (t : ℕ) → t ∈ live → (m : Precedence) → Cprec wq own t m → (u : ℕ) × (u ∈ live) × Reach (children wq) u t × (m ≡ own u)
  source t l m k = ⊎_elim (λ e. (t, l, inl refl, e)) (λ w. (w.0, dependant_live o w.1, inr w.1, w.2)) (cprec_current wq own t m k).among

  -- Own precedences of live threads differ. So do the current ones of two of which neither depends on the other, since nobody is behind both.
  pub cprecs_differ : ((t u : ℕ) → t ∈ live → u ∈ live → own t ≡ own u → t ≡ u) → (t v : ℕ) → t ∈ live → v ∈ live →
      ¬ Depends (children wq) t v → ¬ Depends (children wq) v t → (m : Precedence) → Cprec wq own t m → Cprec wq own v m → t ≡ v
  cprecs_differ differ t v l k n n' m c d = one_reached (children wq) (parents o) n n' a.2 (subst (λ (x : ℕ). Reach (children wq) x v) (sym same) b.2)
    where
      a : (u : ℕ) × (u ∈ live) × Reach (children wq) u t × (m ≡ own u)
      a = source t l m c

      b : (u : ℕ) × (u ∈ live) × Reach (children wq) u v × (m ≡ own u)
      b = source v k m d

      same : a.0 ≡ b.0
      same = differ a.0 b.0 a.1 b.1 (sym a.3 ∙ b.3)

  module _ (M : SetOf ℕ) (alive : (t : ℕ) → t ∈ M → t ∈ live) where
    pub topmost_some : ((t : ℕ) → Dec (t ∈ M)) → (t : ℕ) → t ∈ M → (r : ℕ) × (r ∈ Highest ◌≼◌ (Cprec wq own) M)
    topmost_some decided t i = ⊎_elim (λ none. absurd (none t (o.thread_low t (alive t i)) i)) (λ w. top w.0 w.1) (max_below ◌≼◌ ≼_total M decided (now o own) o.limit)
      where
        top : (m : Precedence) → Max ◌≼◌ (image (now o own) (λ u. (u < o.limit) × (u ∈ M))) m → (r : ℕ) × (r ∈ Highest ◌≼◌ (Cprec wq own) M)
        top m k = (k.among.0, record { among = k.among.1.1; at = m; value = rw k.among.2 (cprec_some o own k.among.0).1; top = max_map ◌≼◌ ≼_total to from k })
          where
            to : (a : Precedence) → a ∈ image (now o own) (λ u. (u < o.limit) × (u ∈ M)) → a ∈ images (Cprec wq own) M
            to a (u, (l, j), e) = now_images o own M a (u, j, e)

            from : (a : Precedence) → a ∈ images (Cprec wq own) M → a ∈ image (now o own) (λ u. (u < o.limit) × (u ∈ M))
            from a w = let n = images_now o own M a w in (n.0, (o.thread_low n.0 (alive n.0 n.1), n.1), n.2)

    pub topmost_one : ((t u : ℕ) → t ∈ live → u ∈ live → own t ≡ own u → t ≡ u) → ((t v : ℕ) → t ∈ M → v ∈ M → ¬ Depends (children wq) t v) →
        (t v : ℕ) → t ∈ Highest ◌≼◌ (Cprec wq own) M → v ∈ Highest ◌≼◌ (Cprec wq own) M → t ≡ v
    topmost_one differ apart t v r q = cprecs_differ differ t v (alive t r.among) (alive v q.among) (apart t v r.among q.among) (apart v t q.among r.among)
        q.at (rw (max_unique ◌≼◌ ≼_total q.top r.top) r.value) q.value
