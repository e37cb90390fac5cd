-- Whoever follows the head of a queue is one of its waiters, and none of them has a higher current precedence. Assumes nothing.
use Prim.Native.Nat.{ℕ}
use mathlib.Core.Path.{◌≡◌, refl, sym, ap, ◌∙◌}
use mathlib.Core.Bool.{Bool, true, false, cond, false≢true}
use mathlib.Core.Option.{some}
use mathlib.Core.List.{List, [], ◌∷◌}
use mathlib.Core.Logic.{inl, inr, ⊎_elim}
use Rattle.protocol.specs.Sets.{◌∈◌, set, Distinct, Highest}
use Rattle.protocol.specs.Events.{Precedence, ◌≼◌}
use Rattle.protocol.proofs.Order.{≼_total, compare}
use Rattle.protocol.proofs.Lists.{Waiting, Follows, behind_waiting, waiting_behind}
use Rattle.table.specs.declared.Table.{Table}
use Rattle.table.specs.Table.{queues, Waits, Cprec}
use Rattle.table.specs.Compute.{is_higher, current}
use Rattle.table.proofs.Tests.Reflect.{tells_higher}
use Rattle.table.proofs.Values.Values.{Good, highest_defined}
use Rattle.events.specs.Events.{highest_current, heir}

-- the highest of them is one of them
pub highest_current_in : (t : Table) (x : ℕ) (xs : List ℕ) → highest_current t x xs ∈ set (x ∷ xs)
unfolding highest_current
highest_current_in t x [] = inl refl
highest_current_in t x (y ∷ ys) = go (is_higher (current t y) (current t x)) (highest_current_in t y ys) (highest_current_in t x ys)
  where
    go : (b : Bool) → highest_current t y ys ∈ set (y ∷ ys) → highest_current t x ys ∈ set (x ∷ ys) → highest_current t (cond b y x) ys ∈ set (x ∷ (y ∷ ys))
    go true i j = inr i
    go false i j = ⊎_elim inl (λ k. inr (inr k)) j

-- what is not higher is at most the other
not_higher : (p q : Precedence) → is_higher p q ≡ false → p ≼ q
not_higher p q e = ⊎_elim {C = p ≼ q} (λ h. absurd (false≢true (sym e ∙ (tells_higher p q).1 h))) (λ k. k) (compare p q)

-- nobody among them has a higher current precedence than the one that `highest_current` names
pub current_top : (t : Table) (th : ℕ) (xs : List ℕ) (x : ℕ) → x ∈ set (th ∷ xs) → current t x ≼ current t (highest_current t th xs)
unfolding highest_current
current_top t th [] x i = ⊎_elim {C = current t x ≼ current t th} (λ e. inl (ap (current t) e)) absurd i
current_top t th (y ∷ ys) x i = go (is_higher (current t y) (current t th)) refl (λ z. current_top t z ys) i
  where
    go : (b : Bool) → is_higher (current t y) (current t th) ≡ b → ((z u : ℕ) → u ∈ set (z ∷ ys) → current t u ≼ current t (highest_current t z ys)) → x ∈ set (th ∷ (y ∷ ys)) →
        current t x ≼ current t (highest_current t (cond b y th) ys)
    go true e rest (inl q) = rw q (≼_total.transitive (current t th) (current t y) (current t (highest_current t y ys)) (inr ((tells_higher (current t y) (current t th)).0 e)) (rest y y (inl refl)))
    go true e rest (inr j) = rest y x j
    go false e rest (inl q) = rest th x (inl q)
    go false e rest (inr (inl q)) = rw q (≼_total.transitive (current t y) (current t th) (current t (highest_current t th ys)) (not_higher (current t y) (current t th) e) (rest th th (inl refl)))
    go false e rest (inr (inr j)) = rest th x (inr j)

-- the heir may follow: it waits, and where there is none nobody waits
pub heir_follows : (t : Table) (q : List ℕ) → Distinct q → Follows q (heir t q)
unfolding heir
heir_follows t [] d = λ u w. w.0
heir_follows t (h ∷ []) d = waiting_behind h []
heir_follows t (h ∷ (x ∷ xs)) d = behind_waiting h (x ∷ xs) (highest_current t x xs) d (highest_current_in t x xs)

-- in a table in good order it has the highest current precedence of those who wait
pub heir_topmost : (t : Table) → Good t → (cs b : ℕ) → heir t (queues t cs) ≡ some b → b ∈ Highest ◌≼◌ (Cprec t) (λ u. Waits t u cs)
unfolding heir
heir_topmost t g cs b e = highest_defined t g (λ u. Waits t u cs) b (rw e at (heir_follows t (queues t cs) (g.bare.queues_right.differ cs))) (tops (queues t cs) e)
  where
    tops : (q : List ℕ) → heir t q ≡ some b → (u : ℕ) → Waiting q u → current t u ≼ current t b
    tops [] k u w = absurd w.0
    tops (h ∷ []) k u w = absurd (waiting_behind h [] u w)
    tops (h ∷ (x ∷ xs)) k u w = let z : highest_current t x xs ≡ b = cc in rw (← z) (current_top t x xs u (waiting_behind h (x ∷ xs) u w))
