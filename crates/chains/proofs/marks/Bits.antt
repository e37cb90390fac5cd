-- What marking does to each bit of a word. Assumes nothing.
use Prim.Native.Nat.{ℕ, suc, ◌+◌, ◌*◌, ◌-◌, ◌/◌, ◌%◌, ◌^◌, ◌<◌, max}
use mathlib.Core.Path.{◌≡◌, refl, sym, ap, subst, ◌∙◌}
use mathlib.Core.Bool.{Bool, true, false, cond, false≢true}
use mathlib.Core.Logic.{◌≢◌, ◌↔◌, ◌⊎◌, inl, inr, ⊎_elim}
use native.Mathlib.Nat.{one-mul, zero-div, div-eq_of_lt, max-zero}
use native.Mathlib.Decide.{ℕ_discrete}
use native.Mathlib.Omega.{arith, sub_cases}
use lib.Dec.{leb, lit<}
use lib.Pow.{pow-add, pow-lt, shl_exact, shl-shr}
use lib.Bits.{bit_or, or_shr, or_step, shifted_even}
use borrow.Author.Tests.{lt-leb, eq-eqb}
use Rattle.chains.specs.Marks.{marked, mark}

-- a bit of `|` is the higher of the two
or_bit : (a b u : ℕ) → bit_or a b / 2 ^ u % 2 ≡ max (a / 2 ^ u % 2) (b / 2 ^ u % 2)
or_bit a b u = rw or_shr (omega (arith, or_step (a / 2 ^ u) (b / 2 ^ u)))

-- in a word of 32 bits 1 is shifted to the power of two
pub one_shifted : (t : ℕ) → t < 32 → 1 * 2 ^ t % 2 ^ 32 ≡ 2 ^ t
one_shifted t h = shl_exact 1 t 32 (lit< tt) (omega arith) ∙ one-mul (2 ^ t)

-- in which that bit is set, and no other
one_there : (t : ℕ) → 2 ^ t / 2 ^ t % 2 ≡ 1
one_there t = rw (one-mul (2 ^ t)) at (ap (λ x. x % 2) (shl-shr 1 t))

one_above : (t d : ℕ) → 2 ^ t / 2 ^ (t + suc d) % 2 ≡ 0
one_above t d = let p : 2 ^ t < 2 ^ (t + suc d) = pow-lt (omega arith) in rw (div-eq_of_lt p)

one_below : (u d : ℕ) → 2 ^ (u + suc d) / 2 ^ u % 2 ≡ 0
one_below u d =
    let e : 2 ^ (u + suc d) ≡ 1 * 2 ^ suc d * 2 ^ u = simp (one-mul, pow-add) (omega arith) in
    rw (e, shl-shr (1 * 2 ^ suc d) u, shifted_even 1 d)

one_other : (t u : ℕ) → u ≢ t → 2 ^ t / 2 ^ u % 2 ≡ 0
one_other t u n =
    sub_cases u t (2 ^ t / 2 ^ u % 2 ≡ 0)
    (λ p _. let e : u ≡ t + suc (u - t - 1) = omega (arith, n) in rw e (one_above t (u - t - 1)))
    (λ p _. let e : t ≡ u + suc (t - u - 1) = omega (arith, n) in rw e (one_below u (t - u - 1)))

-- so whom one marks is marked
mark_marks : (word t : ℕ) → t < 32 → marked (mark word t) t ≡ true
unfolding marked mark
mark_marks word t h = rw (lt-leb 32 t h, or_bit word (2 ^ t) t, one_there t) (eq-eqb (max (word / 2 ^ t % 2) 1) 1 (omega arith))

-- and all others are as they were
mark_other : (word t u : ℕ) → t < 32 → u ≢ t → marked (mark word t) u ≡ marked word u
unfolding marked mark
mark_other word t u h n = rw (lt-leb 32 t h, or_bit word (2 ^ t) u, one_other t u n, max-zero)

-- the word 0 marks nobody
pub nobody_marked : (u : ℕ) → marked 0 u ≡ false
unfolding marked
nobody_marked u = rw (zero-div (2 ^ u)) (both (leb 32 u))
  where
    both : (b : Bool) → cond b false false ≡ false
    both true = refl
    both false = refl

-- and is no word that marks anybody
pub mark_some : (word t : ℕ) → t < 32 → mark word t ≢ 0
mark_some word t h e = false≢true (sym (nobody_marked t) ∙ ap (λ w. marked w t) (sym e) ∙ mark_marks word t h)

-- after t is marked too, all are marked that were, and t
pub mark_tells : (word t u : ℕ) → t < 32 → (marked (mark word t) u ≡ true) ↔ ((marked word u ≡ true) ⊎ (t ≡ u))
mark_tells word t u h = go (ℕ_discrete t u)
  where
    go : Dec (t ≡ u) → (marked (mark word t) u ≡ true) ↔ ((marked word u ≡ true) ⊎ (t ≡ u))
    go (yes e) = ((λ m. inr e), λ m. subst (λ x. marked (mark word t) x ≡ true) e (mark_marks word t h))
    go (no n) = let same = mark_other word t u h (λ e. n (sym e)) in ((λ m. inl (sym same ∙ m)), ⊎_elim (λ m. same ∙ m) (λ e. absurd (n e)))

-- so what holds of those and of t holds of all
pub all_marked : {Q : ℕ → Type 0} (word t : ℕ) → t < 32 → ((u : ℕ) → marked word u ≡ true → Q u) → Q t → (u : ℕ) → marked (mark word t) u ≡ true → Q u
all_marked word t h old new u m = ⊎_elim (old u) (λ e. rw e at new) ((mark_tells word t u h).0 m)
