-- Queues without circles stay so through a request and a release, whoever follows. Assumes nothing.
use Prim.Native.Nat.{ℕ, zero}
use mathlib.Core.Path.{◌≡◌, refl, sym, ◌∙◌}
use mathlib.Core.Option.{Option}
use mathlib.Core.List.{List, [], ◌∷◌, ◌++◌}
use mathlib.Core.Logic.{◌≢◌, ◌⊎◌, inl, inr, ⊎_elim}
use native.Mathlib.Decide.{ℕ_discrete}
use Rattle.protocol.specs.Sets.{◌∈◌, set, Distinct}
use Rattle.protocol.specs.Graph.{Queues, Holds, Waits, all_unlocked, T, C, RAG, ◌⁺}
use Rattle.protocol.specs.Schedule.{update, release}
use Rattle.protocol.specs.Children.{children}
use Rattle.protocol.proofs.Chains.{Free, Climb, stop, Ends}
use Rattle.protocol.proofs.Graphs.{leads_way}
use Rattle.protocol.proofs.Hops.{climb_map, climb_added, climb_moved}
use Rattle.protocol.proofs.Lists.{Holding, Waiting, in_cases, in_join, distinct_join, holding_stays, waiting_stays, holding_join, waiting_join, joined_waits, Follows, Released, released, update_cases, update_there, update_else}
use Rattle.protocol.proofs.Ways.{OneWait, one_holder, free_waits}

-- no thread stands twice in a queue, nobody waits for two resources, and every climb ends
pub record Forest (wq : Queues) : Type 0 where
  pub once : (r : ℕ) → Distinct (wq r)
  pub one_wait : OneWait wq
  pub ends : (t : ℕ) → Ends (children wq) t

pub bare_forest : Forest all_unlocked
bare_forest = record { once = λ r. tt; one_wait = λ t r q w v. absurd w.0; ends = λ t. (zero, stop (λ h k. k.1.0)) }

-- P: t, which waits for nothing, joins the queue of r, from which no way leads to t
pub record Joins (wq : Queues) (t r : ℕ) : Type 0 where
  pub forest : Forest wq
  pub idle : (x : ℕ) → ¬ Waits wq t x
  pub chainless : ¬ (RAG wq ⁺) (C r) (T t)

module _ {wq : Queues} {t r : ℕ} (j : Joins wq t r) where
  open j use {forest, idle, chainless}

  abbrev joined : Queues
  joined = update wq r (wq r ++ (t ∷ []))

  pub outside : ¬ (t ∈ set (wq r))
  outside i = ⊎_elim {C = ⊥} (λ h. chainless (leads_way wq h (inl refl))) (idle r) (in_cases (wq r) t i)

  pub join_in : (x u : ℕ) → u ∈ set (joined x) → (u ∈ set (wq x)) ⊎ (u ≡ t)
  join_in x u = update_cases wq r (wq r ++ (t ∷ [])) (λ x q. u ∈ set q → (u ∈ set (wq x)) ⊎ (u ≡ t)) (in_join (wq r) t u).0 (λ x n. inl) x

  pub join_waits : (x u : ℕ) → Waits joined u x → Waits wq u x ⊎ ((u ≡ t) × (x ≡ r) × ((v : ℕ) × Holds wq v r))
  join_waits x u = update_cases wq r (wq r ++ (t ∷ [])) (λ x q. Waiting q u → Waits wq u x ⊎ ((u ≡ t) × (x ≡ r) × ((v : ℕ) × Holds wq v r)))
      (λ w. ⊎_elim inl (λ y. inr (y.1, refl, y.0)) (waiting_join (wq r) t u w)) (λ x n. inl) x

  pub join_holds : (x u : ℕ) → Holds joined u x → Holds wq u x ⊎ ((u ≡ t) × (x ≡ r) × (wq r ≡ []))
  join_holds x u = update_cases wq r (wq r ++ (t ∷ [])) (λ x q. Holding q u → Holds wq u x ⊎ ((u ≡ t) × (x ≡ r) × (wq r ≡ [])))
      (λ w. ⊎_elim inl (λ y. inr (y.1, refl, y.0)) (holding_join (wq r) t u w)) (λ x n. inl) x

  pub waits_join : (x u : ℕ) → Waits wq u x → Waits joined u x
  waits_join x u = update_cases wq r (wq r ++ (t ∷ [])) (λ x q. Waits wq u x → Waiting q u) (waiting_stays (wq r) t u) (λ x n w. w) x

  pub holds_join : (x u : ℕ) → Holds wq u x → Holds joined u x
  holds_join x u = update_cases wq r (wq r ++ (t ∷ [])) (λ x q. Holds wq u x → Holding q u) (holding_stays (wq r) t u) (λ x n w. w) x

  pub children_join : (u v : ℕ) → u ∈ children wq v → u ∈ children joined v
  children_join u v (x, w, h) = (x, waits_join x u w, holds_join x v h)

  -- one hop is new: from t to the holder of r
  pub join_children : (u v : ℕ) → u ∈ children joined v → (u ∈ children wq v) ⊎ ((u ≡ t) × Holds wq v r)
  join_children u v (x, w, h) = go (join_waits x u w) (join_holds x v h)
    where
      go : Waits wq u x ⊎ ((u ≡ t) × (x ≡ r) × ((v : ℕ) × Holds wq v r)) → Holds wq v x ⊎ ((v ≡ t) × (x ≡ r) × (wq r ≡ [])) → (u ∈ children wq v) ⊎ ((u ≡ t) × Holds wq v r)
      go (inl a) (inl b) = inl (x, a, b)
      go (inl a) (inr b) = absurd (rw (b.1, b.2) at a.0)
      go (inr a) (inl b) = inr (a.0, (rw a.1 at b))
      go (inr a) (inr b) = absurd (rw b.2 at a.2.1.0)

  pub newly_waits : (v : ℕ) → Holds wq v r → Waits joined t r
  newly_waits v h = rw (update_there wq r (wq r ++ (t ∷ []))) (joined_waits (wq r) t v h outside)

  pub join_new : (v : ℕ) → Holds wq v r → t ∈ children joined v
  join_new v h = (r, newly_waits v h, holds_join r v h)

  join_ends : (x : ℕ) {n : ℕ} → Climb (children wq) x n → (q : List ℕ) → wq r ≡ q → Ends (children joined) x
  join_ends x {n} c [] e = (n, climb_map (children wq) (children joined) children_join (λ u v k. ⊎_elim (λ (j : u ∈ children wq v). j) (λ b. absurd (rw e at b.1.0)) (join_children u v k)) c)
  join_ends x c (a ∷ rest) e = climb_added (children wq) (children joined) t a children_join
      (λ u v k. ⊎_elim inl (λ b. inr (b.0, one_holder wq r v a b.1 a_holds)) (join_children u v k))
      (join_new a a_holds) (λ w. chainless (leads_way wq a_holds w)) c (forest.ends a).1
    where
      a_holds : Holds wq a r
      a_holds = rw e (inl refl, refl)

  pub join_forest : Forest joined
  join_forest = record {
    once = update_cases wq r (wq r ++ (t ∷ [])) (λ x q. Distinct q) (distinct_join (wq r) t (forest.once r) outside) (λ x n. forest.once x);
    one_wait = λ u x y w v. go u x y (join_waits x u w) (join_waits y u v);
    ends = λ x. join_ends x (forest.ends x).1 (wq r) refl;
  }
    where
      go : (u x y : ℕ) → Waits wq u x ⊎ ((u ≡ t) × (x ≡ r) × ((v : ℕ) × Holds wq v r)) → Waits wq u y ⊎ ((u ≡ t) × (y ≡ r) × ((v : ℕ) × Holds wq v r)) → x ≡ y
      go u x y (inl a) (inl b) = forest.one_wait u x y a b
      go u x y (inl a) (inr b) = absurd (idle x (rw b.0 at a))
      go u x y (inr a) (inl b) = absurd (idle y (rw a.0 at b))
      go u x y (inr a) (inr b) = a.1 ∙ sym b.1

-- V: the head of r goes, and one of the waiters follows, or nobody where nobody waits
pub record Passes (wq : Queues) (r : ℕ) (next : Option ℕ) : Type 0 where
  pub forest : Forest wq
  pub follows : Follows (wq r) next

module _ {wq : Queues} {r : ℕ} {next : Option ℕ} (p : Passes wq r next) where
  open p use {forest, follows}

  abbrev passed : Queues
  passed = update wq r (release (wq r) next)

  pub pass_queue : Released (wq r) (release (wq r) next)
  pass_queue = released (wq r) next (forest.once r) follows

  -- whoever stands in a queue afterwards stood there before
  pub pass_in : (x u : ℕ) → u ∈ set (passed x) → u ∈ set (wq x)
  pass_in x u = update_cases wq r (release (wq r) next) (λ x q. u ∈ set q → u ∈ set (wq x)) (λ i. ((pass_queue.waited u).0 i).0) (λ x n i. i) x

  pub pass_waits : (x u : ℕ) → Waits passed u x → Waits wq u x
  pass_waits x u = update_cases wq r (release (wq r) next) (λ x q. Waiting q u → Waits wq u x) (λ w. (pass_queue.waited u).0 w.0) (λ x n w. w) x

  pub pass_free : (u : ℕ) → Free (children wq) u → Free (children passed) u
  pass_free u f v (x, w, h) = free_waits wq u x f (pass_waits x u w)

  -- the other queues are what they were
  pub pass_else : (x : ℕ) → x ≢ r → (P : List ℕ → Type 0) → P (wq x) → P (passed x)
  pass_else x n P p = rw (update_else wq r (release (wq r) next) x n) p

  pub else_pass : (x : ℕ) → x ≢ r → (P : List ℕ → Type 0) → P (passed x) → P (wq x)
  else_pass x n P p = rw (update_else wq r (release (wq r) next) x n) at p

  -- a hop afterwards that does not end at the new holder was a hop before
  pub pass_children : (u v : ℕ) → u ∈ children passed v → (u ∈ children wq v) ⊎ Holding (release (wq r) next) v
  pass_children u v (x, w, h) = go (ℕ_discrete x r)
    where
      go : Dec (x ≡ r) → (u ∈ children wq v) ⊎ Holding (release (wq r) next) v
      go (yes e) = inr (rw (e, update_there wq r (release (wq r) next)) at h)
      go (no n) = inl (x, pass_waits x u w, else_pass x n (λ q. Holding q v) h)

  -- a hop that does not end at the holder stays a hop
  pub children_pass : (u v : ℕ) → u ∈ children wq v → (u ∈ children passed v) ⊎ (Holding (wq r) v × Waiting (wq r) u)
  children_pass u v (x, w, h) = go (ℕ_discrete x r)
    where
      go : Dec (x ≡ r) → (u ∈ children passed v) ⊎ (Holding (wq r) v × Waiting (wq r) u)
      go (yes e) = inr ((rw e at h), (rw e at w))
      go (no n) = inl (x, pass_else x n (λ q. Waiting q u) w, pass_else x n (λ q. Holding q v) h)

  -- the new holder waits for nobody
  pub heir_free : (b : ℕ) → Holding (release (wq r) next) b → Free (children passed) b
  heir_free b h v (x, w, k) = go (ℕ_discrete x r)
    where
      go : Dec (x ≡ r) → ⊥
      go (yes e) = (rw (e, update_there wq r (release (wq r) next)) at w).1 h.1
      go (no n) = n (forest.one_wait b x r (pass_waits x b w) ((pass_queue.waited b).0 h.0))

  pub pass_ends : (x : ℕ) {n : ℕ} → Climb (children wq) x n → (q : List ℕ) → release (wq r) next ≡ q → Ends (children passed) x
  pass_ends x {n} c [] e = (
    n,
    climb_map (children wq) (children passed)
        (λ u v k. ⊎_elim (λ (j : u ∈ children passed v). j) (λ w. absurd (rw e at ((pass_queue.waited u).1 w.1))) (children_pass u v k))
        (λ u v k. ⊎_elim (λ (j : u ∈ children wq v). j) (λ h. absurd (rw e at h.0)) (pass_children u v k)) c,
  )
  pass_ends x c (b ∷ bs) e = climb_moved (children wq) (children passed) b (heir_free b b_holds) pass_free moves c
    where
      b_holds : Holding (release (wq r) next) b
      b_holds = rw e (inl refl, refl)

      moves : (u v : ℕ) → u ∈ children wq v → (u ≡ b) ⊎ ((u ∈ children passed v) ⊎ (u ∈ children passed b))
      moves u v k = ⊎_elim (λ j. inr (inl j)) (λ w. ⊎_elim (λ h. inl (hd_same h)) (λ h. inr (inr (r, at (λ q. Waiting q u) h, at (λ q. Holding q b) b_holds))) (in_cases (release (wq r) next) u ((pass_queue.waited u).1 w.1))) (children_pass u v k)
        where
          at : (P : List ℕ → Type 0) → P (release (wq r) next) → P (passed r)
          at P p = rw (update_there wq r (release (wq r) next)) p

          hd_same : Holding (release (wq r) next) u → u ≡ b
          hd_same h = rw e at h.1

  pub pass_forest : Forest passed
  pass_forest = record {
    once = update_cases wq r (release (wq r) next) (λ x q. Distinct q) pass_queue.once (λ x n. forest.once x);
    one_wait = λ u x y w v. forest.one_wait u x y (pass_waits x u w) (pass_waits y u v);
    ends = λ x. pass_ends x (forest.ends x).1 (release (wq r) next) refl;
  }
