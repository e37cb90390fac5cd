-- What computes of the totals' balance is what is defined of it. Assumes nothing.
use Prim.Native.Nat.{ℕ, zero, suc, ◌+◌, ◌<◌}
use mathlib.Core.Path.{◌≡◌, sym, ◌∙◌}
use mathlib.Core.List.{List, [], ◌∷◌}
use mathlib.Core.Logic.{inl, ⊎_elim}
use native.Mathlib.Omega.{arith}
use borrow.Author.Tests.{eq-eqb, ne_eqb}
use Rattle.protocol.specs.Sets.{◌∈◌, set, hd, Number}
use Rattle.protocol.specs.Totals.{Balanced, at_rest, waiting}
use Rattle.protocol.proofs.Counting.{number_none, number_same, number_with, number_without, number_unique}
use Rattle.protocol.proofs.Lists.{if-equal}
use Rattle.table.specs.declared.Table.{Table}
use Rattle.table.specs.Table.{queues, Holds}
use Rattle.table.specs.Compute.{first_or_32, holder, waits_for, held_below, unreleased}
use Rattle.table.proofs.Sound.Queues.{OneQueue}
use Rattle.table.proofs.Tests.Computed.{holds_holder, waits_for_is, waits_for_cases}

module _ (t : Table) (x : ℕ) (h : x < 32) where
  holder_holds : (r : ℕ) → holder t r ≡ x → Holds t x r
  unfolding holder first_or_32
  holder_holds r e = go (queues t r) e
    where
      go : (q : List ℕ) → first_or_32 q ≡ x → (x ∈ set q) × (x ∈ hd q)
      go [] e = absurd (omega arith)
      go (y ∷ ys) e = (inl (sym e), sym e)

  -- how many of the first n resources it holds
  held_number : (n : ℕ) → Number (λ cs. (cs < n) × Holds t x cs) (held_below t x n)
  unfolding held_below
  held_number zero = number_none (λ cs w. omega (arith, w.0))
  held_number (suc n) = if-equal (holder t n) x (λ k. Number (λ cs. (cs < suc n) × Holds t x cs) k) (suc (held_below t x n)) (held_below t x n)
      (λ e. number_with (held_number n) (holder_holds n e))
      (λ d. number_without (held_number n) (λ h. d (holds_holder t x n h)))

  module _ (one : OneQueue t) (low : (y r : ℕ) → y ∈ set (queues t r) → r < 16) where
    all_held : Number (λ cs. Holds t x cs) (held_below t x 16)
    all_held = number_same (λ cs. ((λ w. w.1), λ k. (low x cs k.0, k))) (held_number 16)

    pub balanced_is : (a b : ℕ) → a ≡ b + unreleased t x → Balanced (queues t) x a b
    unfolding unreleased
    balanced_is a b e = ⊎_elim
        (λ k. waiting (waits_for t x) all_held k.1 (rw (ne_eqb (waits_for t x) 16 (omega (arith, k.0))) at e ∙ omega arith))
        (λ k. at_rest all_held k.1 (rw (eq-eqb (waits_for t x) 16 k.0) at e ∙ omega arith))
        (waits_for_cases t one low x)

    pub is_balanced : (a b : ℕ) → Balanced (queues t) x a b → a ≡ b + unreleased t x
    unfolding unreleased
    is_balanced a b (at_rest held idle e) = rw (eq-eqb (waits_for t x) 16 (⊎_elim (λ k. absurd (idle (waits_for t x) k.1)) (λ k. k.0) (waits_for_cases t one low x))) (omega (arith, number_unique held all_held))
    is_balanced a b (waiting cs held w e) = rw (ne_eqb (waits_for t x) 16 (omega (arith, waits_for_is t one low x cs w, low x cs w.0))) (omega (arith, number_unique held all_held))
