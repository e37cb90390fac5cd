-- Whoever follows at a V gets the other waiters as its children, so the local law gives it the highest value of those who waited. Assumes nothing.
use Prim.Native.Nat.{ℕ}
use mathlib.Core.Path.{◌≡◌}
use mathlib.Core.Option.{some}
use mathlib.Core.List.{List}
use mathlib.Core.Logic.{◌⊎◌, inl, inr, ⊎_elim}
use native.Mathlib.Decide.{ℕ_discrete}
use Rattle.protocol.specs.Sets.{◌∈◌, image, Max}
use Rattle.protocol.specs.Graph.{Queues, Waits}
use Rattle.protocol.specs.Schedule.{update, release}
use Rattle.protocol.specs.Children.{children}
use Rattle.protocol.proofs.Order.{Total}
use Rattle.protocol.proofs.Lists.{Holding, Waiting, in_cases, hd_one, heir_holds, update_there}
use Rattle.protocol.proofs.LocalLaw.{Local, local_heir}
use Rattle.protocol.proofs.Forest.{Passes, pass_queue, pass_waits, else_pass, children_pass}

module _ {wq : Queues} {r b : ℕ} (p : Passes wq r (some b)) where
  abbrev pub passed : Queues
  passed = update wq r (release (wq r) (some b))

  pub holds_next : Holding (release (wq r) (some b)) b
  holds_next = heir_holds (wq r) b p.follows

  at : (P : List ℕ → Type 0) → P (release (wq r) (some b)) → P (passed r)
  at P k = rw (update_there wq r (release (wq r) (some b))) k

  -- it keeps the children that it had,
  children_kept : (u : ℕ) → u ∈ children wq b → u ∈ children passed b
  children_kept u k = ⊎_elim (λ (i : u ∈ children passed b). i) (λ h. absurd (p.follows.1 h.0.1)) (children_pass p u b k)

  -- gets the other waiters,
  children_gained : (u : ℕ) → Waits wq u r → (u ≡ b) ⊎ (u ∈ children passed b)
  children_gained u w = ⊎_elim (λ h. inl (hd_one (release (wq r) (some b)) u b h.1 holds_next.1)) (λ h. inr (r, at (λ q. Waiting q u) h, at (λ q. Holding q b) holds_next))
      (in_cases (release (wq r) (some b)) u (((pass_queue p).waited u).1 w))

  -- and no more
  children_no_more : (u : ℕ) → u ∈ children passed b → (u ∈ children wq b) ⊎ Waits wq u r
  children_no_more u (x, w, h) = go (ℕ_discrete x r)
    where
      go : Dec (x ≡ r) → (u ∈ children wq b) ⊎ Waits wq u r
      go (yes e) = inr (rw e at (pass_waits p x u w))
      go (no n) = inl (x, pass_waits p x u w, else_pass p x n (λ q. Holding q b) h)

  pub heir_local : {A : Type 0} (at_most : A → A → Type 0) → Total at_most → (own c : ℕ → A) → Local at_most (children wq) own c b (c b) →
      (m : A) → Max at_most (image c (λ u. Waits wq u r)) m → Local at_most (children passed) own c b m
  heir_local at_most total own c = local_heir at_most total (children wq) own (children passed) c b (λ u. Waits wq u r) p.follows children_kept children_gained children_no_more
