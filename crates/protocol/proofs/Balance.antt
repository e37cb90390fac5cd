-- What a thread holds, and what it waits for, are the queues in which it stands: so its totals balance. Assumes nothing.
use Prim.Native.Nat.{ℕ, suc, ◌+◌}
use mathlib.Core.Path.{◌≡◌, refl, sym, subst}
use mathlib.Core.Option.{Option}
use mathlib.Core.List.{[], ◌∷◌, ◌++◌}
use mathlib.Core.Logic.Dec
use mathlib.Core.Logic.Iff
use mathlib.Core.Logic.{◌≢◌, ◌⊎◌, inl, inr, ⊎_elim, ◌↔◌}
use native.Mathlib.Nat.{zero-add, add_comm}
use native.Mathlib.Decide.{ℕ_discrete}
use native.Mathlib.Omega.{arith}
use borrow.Author.Tests.{eq-eqb, ne_eqb}
use Rattle.protocol.specs.Sets.{◌∈◌, set, Number}
use Rattle.protocol.specs.Events.{Thread, Create, Exit, Set, P, «V», State}
use Rattle.protocol.specs.Graph.{Queues, Holds, Waits}
use Rattle.protocol.specs.Schedule.{wq, update, release}
use Rattle.protocol.specs.Rules.{create, Valid, after}
use Rattle.protocol.specs.Totals.{requests, releases, Balanced, at_rest, waiting}
use Rattle.protocol.proofs.Lists.{if-equal, dec_in, dec_hd, dec_among, hd_one, in_cases, in_join, update_cases}
use Rattle.protocol.proofs.Ways.{OneWait}
use Rattle.protocol.proofs.Forest.{Joins, outside, join_forest, Passes, pass_queue, pass_forest}
use Rattle.protocol.proofs.Kept.{valid_kept, joins, passes, releaser_holds, valid_before}
use Rattle.protocol.proofs.Counting.{number_same, number_none, number_more, number_less}

-- who waits for nothing holds whatever it stands in the queue of
idle_holds : (wq : Queues) (th : ℕ) → ((x : ℕ) → ¬ Waits wq th x) → (x : ℕ) → (th ∈ set (wq x)) ↔ Holds wq th x
idle_holds wq th idle x = ((λ i. ⊎_elim (λ h. h) (λ w. absurd (idle x w)) (in_cases (wq x) th i)), λ h. h.0)

module _ {wq : Queues} (one : OneWait wq) {th a b : ℕ} where
  pub standing_balanced : {n : ℕ} → Number (λ cs. th ∈ set (wq cs)) n → a ≡ b + n → Balanced wq th a b
  standing_balanced c e = go (dec_among (Waits wq th) (λ r. Dec.and (dec_in th (wq r)) (Dec.not (dec_hd th (wq r)))) c.each)
    where
      go : Dec ((r : ℕ) × (r ∈ set c.each) × Waits wq th r) → Balanced wq th a b
      go (yes (r, i, w)) = let d = number_less r w.0 others c in waiting r d.2 w (omega (arith, d.1))
        where
          others : (x : ℕ) → Holds wq th x ↔ ((th ∈ set (wq x)) × (x ≢ r))
          others x = ((λ h. (h.0, λ q. w.1 (rw q at h.1))), λ p. ⊎_elim (λ h. h) (λ v. absurd (p.1 (one th x r v w))) (in_cases (wq x) th p.0))
      go (no none) = at_rest (number_same (idle_holds wq th idle) c) idle e
        where
          idle : (x : ℕ) → ¬ Waits wq th x
          idle x w = none (x, (c.exactly x).1 w.0, w)

  pub balanced_standing : Balanced wq th a b → (n : ℕ) × Number (λ cs. th ∈ set (wq cs)) n × (a ≡ b + n)
  balanced_standing (at_rest {held = n} c idle e) = (n, number_same (λ x. Iff.symm (idle_holds wq th idle x)) c, e)
  balanced_standing (waiting {held = n} r c w e) = (suc n, number_more r (λ h. w.1 h.1) (λ x. ((λ i. ⊎_elim inl (λ v. inr (one th x r v w)) (in_cases (wq x) th i)), ⊎_elim (λ h. h.0) (λ q. rw q w.0))) c, omega arith)

-- who stands in the same queues as before is balanced as before
still_balanced : {wq wq' : Queues} {th a b : ℕ} → OneWait wq → OneWait wq' → ((x : ℕ) → (th ∈ set (wq x)) ↔ (th ∈ set (wq' x))) → Balanced wq th a b → Balanced wq' th a b
still_balanced one one' same k = let s = balanced_standing one k in standing_balanced one' (number_same same s.1) s.2

pub balanced_same : {wq wq' : Queues} {th a b : ℕ} → ((cs : ℕ) → wq cs ≡ wq' cs) → Balanced wq th a b → Balanced wq' th a b
balanced_same {th = th} {a = a} {b = b} same k = subst (λ (q : Queues). Balanced q th a b) (λ i cs. same cs i) k

-- P: th stands in one queue more, the others where they stood
module _ {wq : Queues} {th r : ℕ} (j : Joins wq th r) where
  abbrev joined : Queues
  joined = update wq r (wq r ++ (th ∷ []))

  pub joined_balanced : {a b : ℕ} → Balanced wq th a b → Balanced joined th (a + 1) b
  joined_balanced k = let s = balanced_standing j.forest.one_wait k in standing_balanced (join_forest j).one_wait (number_more r (outside j) more s.1) (omega (arith, s.2))
    where
      more : (x : ℕ) → (th ∈ set (joined x)) ↔ ((th ∈ set (wq x)) ⊎ (x ≡ r))
      more = update_cases wq r (wq r ++ (th ∷ [])) (λ x q. (th ∈ set q) ↔ ((th ∈ set (wq x)) ⊎ (x ≡ r))) ((λ i. inr refl), λ i. (in_join (wq r) th th).1 (inr refl)) (λ x n. (inl, ⊎_elim (λ i. i) (λ e. absurd (n e))))

  pub joined_others : {u a b : ℕ} → u ≢ th → Balanced wq u a b → Balanced joined u a b
  joined_others {u} n = still_balanced j.forest.one_wait (join_forest j).one_wait same
    where
      same : (x : ℕ) → (u ∈ set (wq x)) ↔ (u ∈ set (joined x))
      same = update_cases wq r (wq r ++ (th ∷ [])) (λ x q. (u ∈ set (wq x)) ↔ (u ∈ set q)) ((λ i. (in_join (wq r) th u).1 (inl i)), λ i. ⊎_elim (λ k. k) (λ e. absurd (n e)) ((in_join (wq r) th u).0 i)) (λ x m. Iff.rfl)

-- V: the holder stands in one queue less, the others where they stood
module _ {wq : Queues} {r : ℕ} {next : Option ℕ} (p : Passes wq r next) where
  abbrev passed : Queues
  passed = update wq r (release (wq r) next)

  pub passed_balanced : {th a b : ℕ} → Holds wq th r → Balanced wq th a b → Balanced passed th a (b + 1)
  passed_balanced {th} h k = let s = balanced_standing p.forest.one_wait k in let d = number_less r h.0 less s.1 in standing_balanced (pass_forest p).one_wait d.2 (omega (arith, s.2, d.1))
    where
      less : (x : ℕ) → (th ∈ set (passed x)) ↔ ((th ∈ set (wq x)) × (x ≢ r))
      less = update_cases wq r (release (wq r) next) (λ x q. (th ∈ set q) ↔ ((th ∈ set (wq x)) × (x ≢ r))) ((λ i. absurd ((((pass_queue p).waited th).0 i).1 h.1)), λ w. absurd (w.1 refl)) (λ x n. ((λ i. (i, n)), λ w. w.0))

  pub passed_others : {th u a b : ℕ} → Holds wq th r → u ≢ th → Balanced wq u a b → Balanced passed u a b
  passed_others {th} {u} h n = still_balanced p.forest.one_wait (pass_forest p).one_wait same
    where
      same : (x : ℕ) → (u ∈ set (wq x)) ↔ (u ∈ set (passed x))
      same = update_cases wq r (release (wq r) next) (λ x q. (u ∈ set (wq x)) ↔ (u ∈ set q)) ((λ i. ⊎_elim (λ k. absurd (n (hd_one (wq r) u th k.1 h.1))) ((pass_queue p).waited u).1 (in_cases (wq r) u i)), λ i. (((pass_queue p).waited u).0 i).0) (λ x m. Iff.rfl)

-- who stands in no queue is balanced with no requests and no releases
pub nowhere_balanced : {wq : Queues} {th : ℕ} → ((x : ℕ) → ¬ (th ∈ set (wq x))) → Balanced wq th 0 0
nowhere_balanced none = at_rest (number_none (λ x h. none x h.0)) (λ x w. none x w.0) refl

-- In every valid state, whoever the releases let follow, the totals of every thread balance.
pub balance : {s : State} → Valid s → (th : Thread) → Balanced (wq s) th (requests th s) (releases th s)
balance {s = []} v th = nowhere_balanced (λ x i. i)
balance {s = Create u prio ∷ s} (after v (create dead)) th = go (ℕ_discrete u th) (balance {s = s} v th)
  where
    go : Dec (u ≡ th) → Balanced (wq s) th (requests th s) (releases th s) → Balanced (wq s) th (requests th (Create u prio ∷ s)) (releases th (Create u prio ∷ s))
    go (yes e) b = rw (eq-eqb u th e) (nowhere_balanced (λ x i. dead (rw e ((valid_kept s v).entries x th i))))
    go (no n) b = rw (ne_eqb u th n) b
balance {s = Exit u ∷ s} v th = balance {s = s} (valid_before v) th
balance {s = Set u prio ∷ s} v th = balance {s = s} (valid_before v) th
balance {s = P u cs ∷ s} v th = if-equal u th (λ a. Balanced (wq (P u cs ∷ s)) th (a + requests th s) (releases th s)) 1 0
    (λ e. rw (e, add_comm 1 (requests th s)) (joined_balanced (joins s th cs (rw e at v)) (balance {s = s} (valid_before v) th)))
    (λ n. rw zero-add (joined_others (joins s u cs v) (λ e. n (sym e)) (balance {s = s} (valid_before v) th)))
balance {s = «V» u cs next ∷ s} v th = if-equal u th (λ a. Balanced (wq («V» u cs next ∷ s)) th (requests th s) (a + releases th s)) 1 0
    (λ e. rw (add_comm 1 (releases th s)) (passed_balanced (passes s u cs next v) (rw e at (releaser_holds s u cs next v)) (balance {s = s} (valid_before v) th)))
    (λ n. rw zero-add (passed_others (passes s u cs next v) (releaser_holds s u cs next v) (λ e. n (sym e)) (balance {s = s} (valid_before v) th)))
