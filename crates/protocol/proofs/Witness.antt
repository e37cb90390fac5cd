-- Two examples of demand 3, to be worked out on paper, and what its words take in and leave out. Assumes nothing.
use Prim.Native.Nat.{zero, suc, ◌+◌, ◌≤◌}
use mathlib.Core.Path.{◌≡◌, refl, sym, subst}
use mathlib.Core.Bool.{Bool, true, false, cond, not}
use mathlib.Core.Option.{Option, none, some}
use mathlib.Core.List.{List, [], ◌∷◌, ◌++◌}
use mathlib.Core.Logic.{◌≢◌, ◌⊎◌, inl, inr, ⊎_elim}
use native.Mathlib.Omega.{arith}
use lib.Dec.{eqb}
use borrow.Author.Tests.{ne_eqb}
use Rattle.protocol.specs.Sets.{SetOf, ◌∈◌, set, Number}
use Rattle.protocol.specs.Events.{Thread, Priority, Resource, Event, Create, Exit, Set, P, «V», State, threads, priority, prec, ◌≼◌}
use Rattle.protocol.specs.Schedule.{wq}
use Rattle.protocol.specs.Rules.{MayFollow}
use Rattle.protocol.specs.Demand3.{Moment, now, before, HoldsOrWaits, Spares, calls_by, calls, calls_of_others, others, Until, so_far, over}
use Rattle.protocol.proofs.Finite.{attached_in}
use Rattle.protocol.proofs.Demand3.{until_one}

infixr 5 ◌and◌
-- all of a list are in M, shown one after the other
data All {A : Type 0} (M : SetOf A) : List A → Type 0 where
  no_more : All M []
  ◌and◌ : {x : A} {xs : List A} → x ∈ M → All M xs → All M (x ∷ xs)

any : {A : Type 0} {M : SetOf A} {xs : List A} → All M xs → (x : A) → x ∈ set xs → x ∈ M
any no_more x i = absurd i
any {M = M} (a and more) x (inl e) = subst M (sym e) a
any (a and more) x (inr i) = any more x i

-- where resources 0 and 1 alone are taken, whoever holds or waits stands in the queue of one of them
queued : (m : State) → ((r : Resource) → eqb r 0 ≡ false → eqb r 1 ≡ false → wq m r ≡ []) → (u : Thread) → HoldsOrWaits m u → (u ∈ set (wq m 0)) ⊎ (u ∈ set (wq m 1))
queued m free u a = go (attached_in m u a).0 (attached_in m u a).1
  where
    go : (r : Resource) → u ∈ set (wq m r) → (u ∈ set (wq m 0)) ⊎ (u ∈ set (wq m 1))
    go zero i = inl i
    go (suc zero) i = inr i
    go (suc (suc r)) i = absurd (rw (free (suc (suc r)) (ne_eqb (suc (suc r)) 0 (λ e. omega arith)) (ne_eqb (suc (suc r)) 1 (λ e. omega arith))) at i)

-- The moment: thread 0 holds resource 0, thread 2 holds resource 1, and thread 1, the first thread, was just created.
abbrev pub s : State
s = Create 1 5 ∷ P 2 1 ∷ Create 2 2 ∷ P 0 0 ∷ Create 0 1 ∷ []

-- Then, read from the end: 1 waits for 2, and 2 for 0; 3 is created, 0 set anew; 0 frees 0, 2 and 1 free 1; 1 waits for 2 again.
abbrev pub s' : List Event
s' = P 1 0 ∷ «V» 1 1 none ∷ «V» 2 1 (some 1) ∷ «V» 0 0 (some 2) ∷ Set 0 5 ∷ Create 3 5 ∷ P 2 0 ∷ P 1 1 ∷ []

-- as much of it as happens until thread 0 lets go
abbrev pub t' : List Event
t' = «V» 0 0 (some 2) ∷ Set 0 5 ∷ Create 3 5 ∷ P 2 0 ∷ P 1 1 ∷ []

-- the first thread is live,
pub live : 1 ∈ threads s
live = inl refl

-- has priority 5 since time 4,
pub own : prec 1 s ≡ (5, 4)
own = refl

-- and stands highest
pub highest : (u : Thread) → u ∈ threads s → prec u s ≼ prec 1 s
highest = any {xs = 1 ∷ 2 ∷ 0 ∷ []} (inl refl and inr (inl (omega arith)) and inr (inl (omega arith)) and no_more)

-- every event spares it: a Create and a Set may go up to its own priority, and it may call P and V itself
pub spared : (e : Event) → e ∈ set s' → Spares 1 (priority 1 s) e
spared = any (tt and tt and tt and tt and ((λ q. omega arith), omega arith) and omega arith and tt and tt and no_more)

-- thread 2 holds or waits at each of the nine moments; from now back: it holds 0, it waits for 0, it holds 1
pub held : (m : State) → Moment s s' m → HoldsOrWaits m 2
held m now = inl (0, (inl refl, refl))
held m (before now) = inl (0, (inl refl, refl))
held m (before (before now)) = inl (0, (inl refl, refl))
held m (before (before (before now))) = inl (0, (inl refl, refl))
held m (before (before (before (before now)))) = inr (0, (inr (inl refl), λ q. omega arith))
held m (before (before (before (before (before now))))) = inr (0, (inr (inl refl), λ q. omega arith))
held m (before (before (before (before (before (before now)))))) = inr (0, (inr (inl refl), λ q. omega arith))
held m (before (before (before (before (before (before (before now))))))) = inl (1, (inl refl, refl))
held m (before (before (before (before (before (before (before (before now)))))))) = inl (1, (inl refl, refl))

-- to wait is enough: after its first call thread 1 holds nothing
pub waiting : HoldsOrWaits (P 1 1 ∷ s) 1
waiting = inr (1, (inr (inl refl), λ q. omega arith))

-- thread 0 lets go with its V: after it the queues of 0 and of 1 are 2 ∷ [] and 2 ∷ 1 ∷ []
pub let_go : ¬ HoldsOrWaits (t' ++ s) 0
let_go a = ⊎_elim (⊎_elim (λ e. omega arith) absurd) (⊎_elim (λ e. omega arith) (⊎_elim (λ e. omega arith) absurd)) (queued (t' ++ s) (λ r n k. simp (n, k)) 0 a)

-- so for thread 0 the events until its V count, the V included, and no later one
pub until_0 : Until 0 s s' t'
until_0 = over (before (before now)) let_go (over (before now) let_go (over now let_go (so_far had)))
  where
    had : (m : State) → Moment s (Set 0 5 ∷ Create 3 5 ∷ P 2 0 ∷ P 1 1 ∷ []) m → HoldsOrWaits m 0
    had m now = inl (0, (inl refl, refl))
    had m (before now) = inl (0, (inl refl, refl))
    had m (before (before now)) = inl (0, (inl refl, refl))
    had m (before (before (before now))) = inl (0, (inl refl, refl))
    had m (before (before (before (before now)))) = inl (0, (inl refl, refl))

-- and for thread 2 all of them
pub until_2 : Until 2 s s' s'
until_2 = so_far (λ m mo. held m (before mo))

-- the others that hold or wait at the moment are two, 0 and 2
pub number : Number (others s 1) 2
number = record {
  each = 0 ∷ 2 ∷ [];
  once = (⊎_elim (λ e. omega arith) absurd, (absurd, tt));
  exactly = λ u. (any {M = others s 1} (((λ e. omega arith), inl (0, (inl refl, refl))) and ((λ e. omega arith), inl (1, (inl refl, refl))) and no_more) u, λ o. ⊎_elim (⊎_elim inl absurd) inr (queued s (λ r n k. simp (n, k)) u o.1));
  size = refl;
}

-- thread 0 calls twice until it lets go, Set and V,
pub calls_of_0 : calls 0 t' ≡ 2
calls_of_0 = refl

-- thread 2 twice, P and V,
pub calls_of_2 : calls 2 s' ≡ 2
calls_of_2 = refl

-- and that is all that others call: no Create, and nothing of the first thread's
pub of_both : calls_of_others 1 s' ≡ 4
of_both = refl

-- so each of the two others calls at most twice until it first neither holds nor waits, and 4 is just 2 times 2
pub few : (u : Thread) → u ∈ others s 1 → (es : List Event) → Until u s s' es → calls u es ≤ 2
unfolding number
few u o = any {M = λ u. (es : List Event) → Until u s s' es → calls u es ≤ 2} ((λ es k. rw (until_one k until_0) (omega arith)) and (λ es k. rw (until_one k until_2) (omega arith)) and no_more) u ((number.exactly u).1 o)

one_of : (b : Bool) → cond (not b) 1 0 + cond b 1 0 ≡ 1
one_of true = refl
one_of false = refl

-- an Exit, a Set, a P and a V are calls of the thread they name; a Create is nobody's
pub each_kind_counts : calls 0 («V» 0 0 none ∷ P 0 0 ∷ Set 0 1 ∷ Exit 0 ∷ Create 0 1 ∷ []) ≡ 4
each_kind_counts = refl

-- and so they are calls of another than thread 1
pub each_kind_of_others : calls_of_others 1 («V» 0 0 none ∷ P 0 0 ∷ Set 0 1 ∷ Exit 0 ∷ Create 0 1 ∷ []) ≡ 4
each_kind_of_others = refl

-- a call is the thread's or another's
pub all_calls : (th : Thread) (es : List Event) → calls_of_others th es + calls th es ≡ calls_by (λ u. true) es
all_calls th [] = refl
all_calls th (Create x prio ∷ es) = all_calls th es
all_calls th (Exit x ∷ es) = omega (arith, one_of (eqb x th), all_calls th es)
all_calls th (Set x prio ∷ es) = omega (arith, one_of (eqb x th), all_calls th es)
all_calls th (P x cs ∷ es) = omega (arith, one_of (eqb x th), all_calls th es)
all_calls th («V» x cs next ∷ es) = omega (arith, one_of (eqb x th), all_calls th es)

-- kind by kind, of any numbers: what spares th, of priority prio
pub spares_these : (th th' : Thread) (prio prio' : Priority) (cs : Resource) (next : Option Thread) → prio' ≤ prio →
    Spares th prio (Create th' prio') × (th' ≢ th → Spares th prio (Exit th')) × (th' ≢ th → Spares th prio (Set th' prio')) × Spares th prio (P th' cs) × Spares th prio («V» th' cs next)
spares_these th th' prio prio' cs next low = (low, (λ n. n), (λ n. (n, low)), tt, tt)

-- and what does not: a priority above it, its end, and its being set anew
pub spares_not_these : (¬ Spares 1 5 (Create 2 6)) × (¬ Spares 1 5 (Exit 1)) × (¬ Spares 1 5 (Set 2 6)) × (¬ Spares 1 5 (Set 1 5))
spares_not_these = ((λ k. omega arith), (λ k. k refl), (λ k. omega arith), (λ k. k.0 refl))

-- The second example: thread 0 holds resource 0,
abbrev pub s₂ : State
s₂ = P 0 0 ∷ Create 0 1 ∷ []

-- lets go of it, is set anew, and holds resource 1.
abbrev pub s₂' : List Event
s₂' = P 0 1 ∷ Set 0 2 ∷ «V» 0 0 none ∷ []

-- What it calls after it let go does not count, though it holds again:
pub until_let_go : Until 0 s₂ s₂' («V» 0 0 none ∷ [])
until_let_go = over (before now) idle (over now idle (so_far had))
  where
    had : (m : State) → Moment s₂ [] m → HoldsOrWaits m 0
    had m now = inl (0, (inl refl, refl))

    idle : ¬ HoldsOrWaits («V» 0 0 none ∷ s₂) 0
    idle a = ⊎_elim absurd absurd (queued («V» 0 0 none ∷ s₂) (λ r n k. simp n) 0 a)

-- one call counts, of the three that it makes
pub one_of_three : (calls 0 («V» 0 0 none ∷ []) ≡ 1) × (calls 0 s₂' ≡ 3)
one_of_three = (refl, refl)

-- Any waiter may follow, as here the one of lowest precedence: document 01's choice is not the rules'.
pub lowest_may_follow : MayFollow (P 2 0 ∷ P 1 0 ∷ P 0 0 ∷ Create 2 1 ∷ Create 1 5 ∷ Create 0 9 ∷ []) 0 (some 2)
lowest_may_follow = (inr (inr (inl refl)), λ q. omega arith)
