-- The thread that the search of specs/code/Ready.antt finds waits for nothing, and no thread that waits for nothing has a higher number. Assumes nothing.
use Prim.Native.Nat.{ℕ, zero, suc, ◌≤◌, ◌<◌}
use mathlib.Core.Path.{◌≡◌, refl, sym, subst₂, ◌∙◌}
use mathlib.Core.Logic.{◌⊎◌, inl, inr, ⊎_elim}
use mathlib.Core.Bool.{Bool, true, false, ◌&&◌, false≢true}
use mathlib.Core.List.{List}
use native.Mathlib.Omega.{arith}
use lib.Dec.{ltb}
use borrow.Author.Count.{below_more}
use borrow.Author.Tests.{ltb-true, ltb-false}
use Rattle.table.specs.Table.{at}
use Rattle.table.specs.Code.Ready.{is_free, ready_number, highest_ready}
use Rattle.table.proofs.Values.Ready.{ready_takes, ready_keeps}

module _ (waits current : List ℕ) where
  -- of those of the first n threads that wait for nothing, none has a number above m
  abbrev pub AtMost : ℕ → ℕ → Type 0
  AtMost n m = (th : ℕ) → th < n → is_free waits th ≡ true → at current th ≤ m

  -- of the first n threads, b waits for nothing and has the highest number of those that do, which is above 0
  pub record Leads (n b : ℕ) : Type 0 where
    pub below : b < n
    pub free : is_free waits b ≡ true
    pub some : 1 ≤ at current b
    pub highest : AtMost n (at current b)

  -- none of them has a number above 0, or b leads them and has the number h
  Led : ℕ → ℕ → ℕ → Type 0
  Led n b h = ((b ≡ 32) × (h ≡ 0) × AtMost n 0) ⊎ (Leads n b × (h ≡ at current b))

  led : (n : ℕ) → Led n (highest_ready waits current n) (ready_number waits current n)
  unfolding Led highest_ready ready_number
  led zero = inl (refl, refl, λ th k. absurd (omega arith))
  led (suc n) = go (is_free waits n) refl (ltb h (at current n)) refl (led n)
    where
      b : ℕ
      b = highest_ready waits current n

      h : ℕ
      h = ready_number waits current n

      -- n as well as those before
      up : {m : ℕ} → AtMost n m → (is_free waits n ≡ true → at current n ≤ m) → AtMost (suc n) m
      up {m} before here th k = below_more (λ th. is_free waits th ≡ true → at current th ≤ m) n before here th (omega arith)

      Next : Type 0
      Next = Led (suc n) (highest_ready waits current (suc n)) (ready_number waits current (suc n))

      -- whoever led before leads on where h is at least the number of n
      keep : (is_free waits n && ltb h (at current n)) ≡ false → (is_free waits n ≡ true → at current n ≤ h) → Led n b h → Next
      keep t here w =
          let k = ready_keeps waits current n (suc n) h refl refl t in
          subst₂ (Led (suc n)) k.1 k.0
          (⊎_elim (λ v. inl (v.0, v.1, up v.2 (λ r. omega (arith, here r, v.1))))
          (λ v. inr (record { below = omega (arith, v.0.below); free = v.0.free; some = v.0.some; highest = up v.0.highest (λ r. omega (arith, here r, v.1)) }, v.1)) w)

      -- where h is less than the number of n, so are those before
      less : h < at current n → Led n b h → AtMost n (at current n)
      less q (inl w) th l r = omega (arith, w.2 th l r)
      less q (inr w) th l r = omega (arith, w.0.highest th l r, w.1)

      go : (x : Bool) → is_free waits n ≡ x → (y : Bool) → ltb h (at current n) ≡ y → Led n b h → Next
      go false p y q w = keep (rw p) (λ r. absurd (false≢true (sym p ∙ r))) w
      go true p false q w = keep (rw (p, q)) (λ r. ltb-false h (at current n) q) w
      go true p true q w =
          let k = ready_takes waits current n (suc n) h refl refl (rw (p, q)) in
          let l = ltb-true h (at current n) q in
          subst₂ (Led (suc n)) k.1 k.0
          (inr (record { below = omega arith; free = p; some = omega arith; highest = up (less l w) (λ r. omega arith) }, refl))

  -- none of the first n that wait for nothing has a number above 0, or the one that is found leads
  pub found_leads : (n : ℕ) → ((highest_ready waits current n ≡ 32) × AtMost n 0) ⊎ Leads n (highest_ready waits current n)
  unfolding Led
  found_leads n = ⊎_elim (λ w. inl (w.0, w.2)) (λ w. inr w.0) (led n)
