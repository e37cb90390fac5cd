-- A test that computes, and what it tells. Assumes nothing.
use Prim.Native.Nat.{ℕ, zero, suc, ◌≤◌, ◌<◌}
use mathlib.Core.Path.{◌≡◌, refl, sym, Σ_path, ap}
use mathlib.Core.Bool.{Bool, true, false, not, ◌&&◌, ◌||◌, false≢true}
use mathlib.Core.List.{List, [], ◌∷◌}
use mathlib.Core.Logic.{◌⊎◌, inl, inr, ⊎_elim, ◌↔◌}
use native.Mathlib.Omega.{arith}
use lib.Dec.{eqb, ltb, leb}
use borrow.Author.Tests.{eqb-true, eq-eqb, ltb-true, lt-ltb, leb-true, le-leb}
use Rattle.protocol.specs.Sets.{◌∈◌, set, Distinct}
use Rattle.protocol.specs.Events.{Precedence, Higher}
use Rattle.protocol.proofs.Decide.{below_suc}
use Rattle.table.specs.Compute.{all_below, each, member, differ, is_higher, same}

-- the test passes exactly when A holds
abbrev pub Tells : Bool → Type 0 → Type 0
Tells b A = (b ≡ true) ↔ A

-- two tests of the same are the same
pub same_test : {a b : Bool} {A : Type 0} → Tells a A → Tells b A → a ≡ b
same_test {a} {b} {A} p q = go a b p q
  where
    go : (a b : Bool) → Tells a A → Tells b A → a ≡ b
    go true true p q = refl
    go true false p q = sym (q.1 (p.0 refl))
    go false true p q = p.1 (q.0 refl)
    go false false p q = refl

-- a test tells at least that it passes
pub tells_itself : (b : Bool) → Tells b (b ≡ true)
tells_itself b = ((λ e. e), λ e. e)

pub tells_eq : (a b : ℕ) → Tells (eqb a b) (a ≡ b)
tells_eq a b = (eqb-true a b, eq-eqb a b)

pub tells_lt : (a b : ℕ) → Tells (ltb a b) (a < b)
tells_lt a b = (ltb-true a b, lt-ltb a b)

pub tells_le : (a b : ℕ) → Tells (leb a b) (a ≤ b)
tells_le a b = (leb-true a b, le-leb a b)

pub tells_both : {a b : Bool} {A B : Type 0} → Tells a A → Tells b B → Tells (a && b) (A × B)
tells_both {a} {b} {A} {B} p q = go a p
  where
    go : (a : Bool) → Tells a A → Tells (a && b) (A × B)
    go true p = ((λ e. (p.0 refl, q.0 e)), λ w. q.1 w.1)
    go false p = ((λ e. absurd (false≢true e)), λ w. p.1 w.0)

pub tells_either : {a b : Bool} {A B : Type 0} → Tells a A → Tells b B → Tells (a || b) (A ⊎ B)
tells_either {a} {b} {A} {B} p q = go a p
  where
    go : (a : Bool) → Tells a A → Tells (a || b) (A ⊎ B)
    go true p = ((λ e. inl (p.0 refl)), λ w. refl)
    go false p = ((λ e. inr (q.0 e)), ⊎_elim (λ x. absurd (false≢true (p.1 x))) q.1)

pub tells_not : {a : Bool} {A : Type 0} → Tells a A → Tells (not a) (¬ A)
tells_not {a} {A} p = go a p
  where
    go : (a : Bool) → Tells a A → Tells (not a) (¬ A)
    go true p = ((λ e. absurd (false≢true e)), λ n. absurd (n (p.0 refl)))
    go false p = ((λ e x. false≢true (p.1 x)), λ n. refl)

-- where A, also B
pub tells_where : {a b : Bool} {A B : Type 0} → Tells a A → Tells b B → Tells (not a || b) (A → B)
tells_where {a} {b} {A} {B} p q = go a p
  where
    go : (a : Bool) → Tells a A → Tells (not a || b) (A → B)
    go true p = ((λ e x. q.0 e), λ f. q.1 (f (p.0 refl)))
    go false p = ((λ e x. absurd (false≢true (p.1 x))), λ f. refl)

-- unless A, B
pub tells_unless : {a b : Bool} {A B : Type 0} → Tells a A → Tells b B → Tells (a || b) (¬ A → B)
tells_unless {a} {b} {A} {B} p q = go a p
  where
    go : (a : Bool) → Tells a A → Tells (a || b) (¬ A → B)
    go true p = ((λ e n. absurd (n (p.0 refl))), λ f. refl)
    go false p = ((λ e n. q.0 e), λ f. q.1 (f (λ x. false≢true (p.1 x))))

pub tells_below : (n : ℕ) (f : ℕ → Bool) (Q : ℕ → Type 0) → ((i : ℕ) → i < n → Tells (f i) (Q i)) → Tells (all_below n f) ((i : ℕ) → i < n → Q i)
unfolding all_below
tells_below zero f Q p = ((λ e i h. absurd (omega arith)), λ g. refl)
tells_below (suc n) f Q p =
    let k = tells_both (p n (omega arith)) (tells_below n f Q (λ i h. p i (omega arith))) in
    ((λ e. below_suc n Q (k.0 e).1 (k.0 e).0), λ g. k.1 (g n (omega arith), λ i h. g i (omega arith)))

pub tells_each : (f : ℕ → Bool) (Q : ℕ → Type 0) → ((x : ℕ) → Tells (f x) (Q x)) → (l : List ℕ) → Tells (each f l) ((x : ℕ) → x ∈ set l → Q x)
unfolding each
tells_each f Q p [] = ((λ e x i. absurd i), λ g. refl)
tells_each f Q p (y ∷ ys) =
    let k = tells_both (p y) (tells_each f Q p ys) in
    ((λ e x. ⊎_elim (λ q. rw q (k.0 e).0) ((k.0 e).1 x)), λ g. k.1 (g y (inl refl), λ x i. g x (inr i)))

pub tells_member : (x : ℕ) (l : List ℕ) → Tells (member x l) (x ∈ set l)
unfolding member
tells_member x [] = ((λ e. false≢true e), absurd)
tells_member x (y ∷ ys) = tells_either (tells_eq x y) (tells_member x ys)

pub tells_differ : (l : List ℕ) → Tells (differ l) (Distinct l)
unfolding differ
tells_differ [] = ((λ e. tt), λ d. refl)
tells_differ (x ∷ xs) = tells_both (tells_not (tells_member x xs)) (tells_differ xs)

pub tells_higher : (p q : Precedence) → Tells (is_higher p q) (Higher p q)
unfolding is_higher
tells_higher p q = tells_either (tells_lt q.0 p.0) (tells_both (tells_eq p.0 q.0) (tells_lt p.1 q.1))

pub tells_same : (p q : Precedence) → Tells (same p q) (p ≡ q)
unfolding same
tells_same p q = let k = tells_both (tells_eq p.0 q.0) (tells_eq p.1 q.1) in
    ((λ e. Σ_path (k.0 e).0 (k.0 e).1), λ e. k.1 (ap (λ (r : Precedence). r.0) e, ap (λ (r : Precedence). r.1) e))
