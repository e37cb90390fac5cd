-- What computes over a table is what is defined on it, in a table that is in good order. Assumes nothing.
use Prim.Native.Nat.{ℕ, zero, suc, ◌≤◌, ◌<◌}
use mathlib.Core.Path.{◌≡◌, refl, sym, ap, subst, ◌∙◌}
use mathlib.Core.Bool.{Bool, true, false, cond, ◌&&◌, ◌||◌, false≢true}
use mathlib.Core.List.{List, [], ◌∷◌}
use mathlib.Core.Logic.{◌≢◌, ◌⊎◌, inl, inr, ⊎_elim}
use native.Mathlib.Omega.{arith}
use lib.Dec.{eqb, ltb}
use Rattle.protocol.specs.Sets.{SetOf, ◌∈◌, only, ◌∪◌, image, set, hd, Max, Highest, Names}
use Rattle.protocol.specs.Events.{Precedence, Higher, ◌≼◌}
use Rattle.protocol.specs.Children.{children}
use Rattle.protocol.proofs.Decide.{below_suc}
use Rattle.protocol.proofs.Order.{≼_total, compare}
use Rattle.protocol.proofs.Highest.{max_unique, max_map}
use Rattle.protocol.proofs.Chains.{Depends, Free, Climb, stop, hop, first_hop, hop_reach, Reach}
use Rattle.protocol.proofs.Ways.{waits_free, climb_way, way_bounded}
use Rattle.protocol.proofs.Lists.{in_held}
use Rattle.protocol.proofs.Current.{Orderly, parents, parent_live, dependant_live, current_cprec}
use Rattle.table.specs.declared.Table.{Table}
use Rattle.table.specs.Table.{at, live, own, queues, Holds, Waits, Cprec, ready, running}
use Rattle.table.specs.Compute.{find_below, first_or_32, is_live, holder, is_waiting, waits_for, blocker, depends, is_higher, highest_behind, current, is_ready, leader, runner}
use Rattle.table.proofs.Sound.Queues.{OneQueue}
use Rattle.table.proofs.Tests.Reflect.{Tells, tells_itself, tells_eq, tells_lt, tells_both, tells_either, tells_not, tells_member, tells_higher}

-- find-below finds one that passes, if any does
pub find_cases : (d : ℕ) (f : ℕ → Bool) (n : ℕ) → ((find_below d n f < n) × (f (find_below d n f) ≡ true)) ⊎ ((find_below d n f ≡ d) × ((i : ℕ) → i < n → ¬ (f i ≡ true)))
unfolding find_below
find_cases d f zero = inr (refl, λ i h. absurd (omega arith))
find_cases d f (suc n) = go (f n) refl (find_cases d f n)
  where
    F : Bool → ℕ
    F b = cond b n (find_below d n f)

    go : (b : Bool) → f n ≡ b → ((find_below d n f < n) × (f (find_below d n f) ≡ true)) ⊎ ((find_below d n f ≡ d) × ((i : ℕ) → i < n → ¬ (f i ≡ true))) → ((F b < suc n) × (f (F b) ≡ true)) ⊎ ((F b ≡ d) × ((i : ℕ) → i < suc n → ¬ (f i ≡ true)))
    go true e k = inl (omega arith, e)
    go false e (inl w) = inl (omega (arith, w.0), w.1)
    go false e (inr w) = inr (w.0, below_suc n (λ i. ¬ (f i ≡ true)) w.1 (λ z. false≢true (sym e ∙ z)))

module _ (t : Table) where
  pub tells_live : (th : ℕ) → Tells (is_live t th) (th ∈ live t)
  unfolding is_live
  tells_live th = tells_eq (at t.live th) 1

  pub tells_waiting : (th cs : ℕ) → Tells (is_waiting t th cs) (Waits t th cs)
  unfolding is_waiting holder first_or_32
  tells_waiting th cs = go (queues t cs) (tells_both (tells_member th (queues t cs)) (tells_not (tells_eq th (first_or_32 (queues t cs)))))
    where
      go : (q : List ℕ) {b : Bool} → Tells b ((th ∈ set q) × ¬ (th ≡ first_or_32 q)) → Tells b ((th ∈ set q) × ¬ (th ∈ hd q))
      go [] k = ((λ e. absurd (k.0 e).0), λ w. absurd w.0)
      go (x ∷ xs) k = k

  pub holds_holder : (x r : ℕ) → Holds t x r → holder t r ≡ x
  unfolding holder first_or_32
  holds_holder x r h = go (queues t r) h.1
    where
      go : (q : List ℕ) → x ∈ hd q → first_or_32 q ≡ x
      go [] i = absurd i
      go (y ∷ ys) i = sym i

-- where nobody waits in two queues, and only sixteen resources have one
module _ (t : Table) (one : OneQueue t) (low : (x r : ℕ) → x ∈ set (queues t r) → r < 16) where
  pub waits_for_is : (x r : ℕ) → Waits t x r → waits_for t x ≡ r
  unfolding waits_for
  waits_for_is x r w = ⊎_elim
      (λ k. one x (waits_for t x) r ((tells_waiting t x (waits_for t x)).0 k.1) w)
      (λ k. absurd (k.1 r (low x r w.0) ((tells_waiting t x r).1 w)))
      (find_cases 16 (is_waiting t x) 16)

  pub waits_for_cases : (x : ℕ) → ((waits_for t x < 16) × Waits t x (waits_for t x)) ⊎ ((waits_for t x ≡ 16) × ((r : ℕ) → ¬ Waits t x r))
  unfolding waits_for
  waits_for_cases x = ⊎_elim
      (λ k. inl (k.0, (tells_waiting t x (waits_for t x)).0 k.1))
      (λ k. inr (k.0, λ r w. k.1 r (low x r w.0) ((tells_waiting t x r).1 w)))
      (find_cases 16 (is_waiting t x) 16)

  -- whom u waits for
  pub child_blocker : (u x : ℕ) → u ∈ children (queues t) x → blocker t u ≡ x
  unfolding blocker
  child_blocker u x (r, w, h) = ap (holder t) (waits_for_is u r w) ∙ holds_holder t x r h

  pub blocker_child : (u : ℕ) → waits_for t u < 16 → Waits t u (waits_for t u) → u ∈ children (queues t) (blocker t u)
  unfolding blocker
  blocker_child u l w = let h = in_held (queues t (waits_for t u)) u w.0 in
      (waits_for t u, w, subst (λ (x : ℕ). Holds t x (waits_for t u)) (sym (holds_holder t h.0 (waits_for t u) h.1)) h.1)

  pub blocker_cases : (u : ℕ) → ((waits_for t u ≢ 16) × (u ∈ children (queues t) (blocker t u))) ⊎ ((waits_for t u ≡ 16) × (32 ≤ blocker t u) × Free (children (queues t)) u)
  unfolding blocker holder first_or_32
  blocker_cases u = ⊎_elim
      (λ k. inl (omega (arith, k.0), blocker_child u k.0 k.1))
      (λ k. inr (k.0, nobody k.0, waits_free (queues t) u k.1))
      (waits_for_cases u)
    where
      empty : (q : List ℕ) → ((x : ℕ) → ¬ (x ∈ set q)) → first_or_32 q ≡ 32
      empty [] n = refl
      empty (y ∷ ys) n = absurd (n y (inl refl))

      nobody : waits_for t u ≡ 16 → 32 ≤ first_or_32 (queues t (waits_for t u))
      nobody e = omega (arith, empty (queues t (waits_for t u)) (λ x i. absurd (omega (arith, low x (waits_for t u) i))))

-- where the queues are in good order besides
module _ (t : Table) (o : Orderly (queues t) (live t)) (low : (x r : ℕ) → x ∈ set (queues t r) → r < 16) (live_low : (x : ℕ) → x ∈ live t → x < 32) where
  -- dependants

  depends_true : (n u x : ℕ) → depends n t u x ≡ true → Depends (children (queues t)) u x
  unfolding depends
  depends_true zero u x e = absurd (false≢true e)
  depends_true (suc n) u x e = go ((tells_both (tells_lt (blocker t u) 32) (tells_either (tells_eq (blocker t u) x) (tells_itself (depends n t (blocker t u) x)))).0 e) (depends_true n (blocker t u) x) (blocker_cases t o.forest.one_wait low u)
    where
      go : (blocker t u < 32) × ((blocker t u ≡ x) ⊎ (depends n t (blocker t u) x ≡ true)) → (depends n t (blocker t u) x ≡ true → Depends (children (queues t)) (blocker t u) x) →
          ((waits_for t u ≢ 16) × (u ∈ children (queues t) (blocker t u))) ⊎ ((waits_for t u ≡ 16) × (32 ≤ blocker t u) × Free (children (queues t)) u) → Depends (children (queues t)) u x
      go (h, c) ih (inl k) = hop_reach (children (queues t)) k.1 (⊎_elim inl (λ d. inr (ih d)) c)
      go (h, c) ih (inr k) = absurd (omega (arith, k.1))

  true_depends : {u k : ℕ} → Climb (children (queues t)) u k → (n x : ℕ) → k ≤ n → Depends (children (queues t)) u x → depends n t u x ≡ true
  unfolding depends
  true_depends (stop f) n x h d = let w = first_hop (children (queues t)) d in absurd (f w.0 w.1)
  true_depends (hop {n = k} j c) zero x h d = absurd (omega arith)
  true_depends (hop {t = u} {h = v} {n = k} j c) (suc n) x h d = go (first_hop (children (queues t)) d) (λ y e. true_depends c n y (omega arith) e)
    where
      b : blocker t u ≡ v
      b = child_blocker t o.forest.one_wait low u v j

      go : (p : ℕ) × (u ∈ children (queues t) p) × Reach (children (queues t)) p x → ((y : ℕ) → Depends (children (queues t)) v y → depends n t v y ≡ true) → (ltb (blocker t u) 32 && (eqb (blocker t u) x || depends n t (blocker t u) x)) ≡ true
      go (p, i, r) ih = rw b ((tells_both (tells_lt v 32) (tells_either (tells_eq v x) (tells_itself (depends n t v x)))).1
          (live_low v (parent_live o u v j), ⊎_elim (λ e. inl (same_parent e)) (λ e. inr (ih x (subst (λ (y : ℕ). Depends (children (queues t)) y x) (parents o u p v i j) e))) r))
        where
          same_parent : p ≡ x → v ≡ x
          same_parent e = parents o u v p j i ∙ e

  -- a chain passes at most sixteen holders
  pub sixteen : (u : ℕ) → (o.forest.ends u).0 ≤ 16
  sixteen u = way_bounded (queues t) o.forest.one_wait 16 (λ x r h. low x r h.0) (climb_way (queues t) (o.forest.ends u).1)

  pub tells_depends : (u x : ℕ) → Tells (depends 32 t u x) (Depends (children (queues t)) u x)
  tells_depends u x = (depends_true 32 u x, true_depends (o.forest.ends u).1 32 x (omega (arith, sixteen u)))

  -- current precedence

  behind_max : (x : ℕ) (p : Precedence) (n : ℕ) → Max ◌≼◌ (only p ∪ image (own t) (λ u. (u < n) × Depends (children (queues t)) u x)) (highest_behind t x p n)
  unfolding highest_behind
  behind_max x p zero = record { among = inl refl; bound = λ a. ⊎_elim inl (λ w. absurd (omega (arith, w.1.0))) }
  behind_max x p (suc n) = go (depends 32 t n x && is_higher (own t n) (highest_behind t x p n)) refl (behind_max x p n)
    where
      R : Precedence
      R = highest_behind t x p n

      Among : ℕ → SetOf Precedence
      Among k = only p ∪ image (own t) (λ u. (u < k) × Depends (children (queues t)) u x)

      test : Tells (depends 32 t n x && is_higher (own t n) R) (Depends (children (queues t)) n x × Higher (own t n) R)
      test = tells_both (tells_depends n x) (tells_higher (own t n) R)

      widen : (a : Precedence) → a ∈ Among n → a ∈ Among (suc n)
      widen a (inl e) = inl e
      widen a (inr (u, (h, d), e)) = inr (u, (omega arith, d), e)

      over : (m : Precedence) → Max ◌≼◌ (Among n) R → R ≼ m → (Depends (children (queues t)) n x → own t n ≼ m) → (a : Precedence) → a ∈ Among (suc n) → a ≼ m
      over m k r top a (inl e) = ≼_total.transitive a R m (k.bound a (inl e)) r
      over m k r top a (inr (u, (h, d), e)) = rw e (below_suc n (λ u. Depends (children (queues t)) u x → own t u ≼ m) (λ u l d. ≼_total.transitive (own t u) R m (k.bound (own t u) (inr (u, (l, d), refl))) r) top u h d)

      go : (b : Bool) → (depends 32 t n x && is_higher (own t n) R) ≡ b → Max ◌≼◌ (Among n) R → Max ◌≼◌ (Among (suc n)) (cond b (own t n) R)
      go true e k = let w = test.0 e in record { among = inr (n, (omega arith, w.0), refl); bound = over (own t n) k (inr w.1) (λ d. inl refl) }
      go false e k = record { among = widen R k.among; bound = over R k (inl refl) (λ d. ⊎_elim (λ h. absurd (false≢true (sym e ∙ test.1 (d, h)))) (λ c. c) (compare (own t n) R)) }

  -- the value that is computed is the current precedence
  pub current_is : (x : ℕ) → Cprec t x (current t x)
  unfolding current
  current_is x = current_cprec (queues t) (own t) x (current t x) (max_map ◌≼◌ ≼_total
      (λ a. ⊎_elim inl (λ w. inr (w.0, w.1.1, w.2)))
      (λ a. ⊎_elim inl (λ w. inr (w.0, (live_low w.0 (dependant_live o w.1), w.1), w.2)))
      (behind_max x (own t x) 32))

  -- whoever of some threads has the highest value has the highest current precedence of them
  pub highest_is : (M : SetOf ℕ) (b : ℕ) → b ∈ M → ((u : ℕ) → u ∈ M → current t u ≼ current t b) → b ∈ Highest ◌≼◌ (Cprec t) M
  highest_is M b i over = record {
    among = i;
    at = current t b;
    value = current_is b;
    top = record { among = (b, i, current_is b); bound = λ a w. subst (λ (p : Precedence). p ≼ current t b) (max_unique ◌≼◌ ≼_total (current_is w.0) w.2) (over w.0 w.1) };
  }

  -- the running thread

  tells_ready : (x : ℕ) → Tells (is_ready t x) (x ∈ ready t)
  unfolding is_ready
  tells_ready x = let k = tells_both (tells_live t x) (tells_eq (waits_for t x) 16) in (
    (λ e. ((k.0 e).0, ⊎_elim (λ w. absurd (omega (arith, w.0, (k.0 e).1))) (λ w. w.1) (waits_for_cases t o.forest.one_wait low x))),
    λ i. k.1 (i.0, ⊎_elim {C = waits_for t x ≡ 16} (λ w. absurd (i.1 (waits_for t x) w.1)) (λ w. w.0) (waits_for_cases t o.forest.one_wait low x)),
  )

  Led : ℕ → ℕ → Type 0
  Led n b = ((b ≡ 32) × ((u : ℕ) → u < n → ¬ (u ∈ ready t))) ⊎ ((b < n) × (b ∈ ready t) × ((u : ℕ) → u < n → u ∈ ready t → current t u ≼ current t b))

  led : (n : ℕ) → n ≤ 32 → Led n (leader t n)
  unfolding leader Led
  led zero h = inl (refl, λ u l. absurd (omega arith))
  led (suc n) h = go (is_ready t n && (eqb b 32 || is_higher (current t n) (current t b))) refl (led n (omega arith))
    where
      b : ℕ
      b = leader t n

      test : Tells (is_ready t n && (eqb b 32 || is_higher (current t n) (current t b))) ((n ∈ ready t) × ((b ≡ 32) ⊎ Higher (current t n) (current t b)))
      test = tells_both (tells_ready n) (tells_either (tells_eq b 32) (tells_higher (current t n) (current t b)))

      go : (c : Bool) → (is_ready t n && (eqb b 32 || is_higher (current t n) (current t b))) ≡ c → Led n b → Led (suc n) (cond c n b)
      go true e (inl k) = inr (omega arith, (test.0 e).0, below_suc n (λ u. u ∈ ready t → current t u ≼ current t n) (λ u l i. absurd (k.1 u l i)) (λ i. inl refl))
      go true e (inr k) = inr (
        omega arith,
        (test.0 e).0,
        below_suc n (λ u. u ∈ ready t → current t u ≼ current t n)
            (λ u l i. ≼_total.transitive (current t u) (current t b) (current t n) (k.2 u l i) (⊎_elim (λ z. absurd (omega (arith, k.0))) inr (test.0 e).1)) (λ i. inl refl),
      )
      go false e (inl k) = inl (k.0, below_suc n (λ u. ¬ (u ∈ ready t)) k.1 (λ i. false≢true (sym e ∙ test.1 (i, inl k.0))))
      go false e (inr k) = inr (
        omega (arith, k.0),
        k.1,
        below_suc n (λ u. u ∈ ready t → current t u ≼ current t b) k.2
            (λ i. ⊎_elim (λ g. absurd (false≢true (sym e ∙ test.1 (i, inr g)))) (λ c. c) (compare (current t n) (current t b))),
      )

  -- the thread that is named runs
  pub runner_is : Names 32 (running t) (runner t)
  unfolding runner Led
  runner_is = ⊎_elim
      (λ k. inr (k.0, λ th r. k.1 th (live_low th r.among.0) r.among))
      (λ k. inl (k.0, highest_is (ready t) (runner t) k.1 (λ u i. k.2 u (live_low u i.0) i)))
      (led 32 (omega arith))
