-- Document 000, section 4: how each event changes the graph. Assumes nothing.
use Prim.Native.Nat.{ℕ}
use mathlib.Core.Path.{◌≡◌, refl, sym, ap}
use mathlib.Core.Option.{none, some}
use mathlib.Core.List.{List, [], ◌∷◌, ◌++◌}
use mathlib.Core.Logic.{◌⊎◌, inl, inr, ⊎_elim, ◌↔◌}
use native.Mathlib.Decide.{ℕ_discrete}
use native.Mathlib.Omega.{arith}
use Rattle.protocol.specs.Sets.{◌∈◌, set, hd}
use Rattle.protocol.specs.Events.{Thread, Priority, Resource, Create, Exit, Set, P, «V», State}
use Rattle.protocol.specs.Graph.{Node, T, C}
use Rattle.protocol.specs.Schedule.{wq, Holds, Waits, RAG, release}
use Rattle.protocol.specs.Rules.{Valid}
use Rattle.protocol.specs.Changes.{Edge, SameEdges}
use Rattle.protocol.proofs.Lists.{Holding, Waiting, hd_one, heir_holds, update_there}
use Rattle.protocol.proofs.Ways.{one_holder}
use Rattle.protocol.proofs.Kept.{joins, passes, releaser_holds}
use Rattle.protocol.proofs.Forest.{Joins, Passes, join_waits, join_holds, waits_join, holds_join, newly_waits, pass_queue, pass_waits, pass_else, else_pass}

apart : {A : Type 0} (t r : ℕ) → T t ≡ C r → A
apart t r e = let z : ◌≡◌ {A = ℕ} 0 1 = cc in absurd (omega arith)

T_inj : (t u : ℕ) → T t ≡ T u → t ≡ u
T_inj t u e = cc

C_inj : (r q : ℕ) → C r ≡ C q → r ≡ q
C_inj r q e = cc

-- Create, Exit and Set leave the graph as it is.

pub create_edges : (s : State) (th : Thread) (prio : Priority) → SameEdges (RAG (Create th prio ∷ s)) (RAG s)
create_edges s th prio x y = ((λ k. k), (λ k. k))

pub exit_edges : (s : State) (th : Thread) → SameEdges (RAG (Exit th ∷ s)) (RAG s)
exit_edges s th x y = ((λ k. k), (λ k. k))

pub set_edges : (s : State) (th : Thread) (prio : Priority) → SameEdges (RAG (Set th prio ∷ s)) (RAG s)
set_edges s th prio x y = ((λ k. k), (λ k. k))

-- P of a free resource adds a holding edge.
pub free_edges : (s : State) (th : Thread) (cs : Resource) → Valid (P th cs ∷ s) → wq s cs ≡ [] →
    SameEdges (RAG (P th cs ∷ s)) (λ x y. RAG s x y ⊎ Edge (C cs) (T th) x y)
free_edges s th cs v free = go
  where
    j : Joins (wq s) th cs
    j = joins s th cs v

    go : SameEdges (RAG (P th cs ∷ s)) (λ x y. RAG s x y ⊎ Edge (C cs) (T th) x y)
    go (T u) (T t) = (absurd, ⊎_elim (λ b. b) (λ e. apart u cs e.0))
    go (T u) (C r) = (λ w. ⊎_elim inl (λ n. absurd (rw free at n.2.1.0)) (join_waits j r u w), ⊎_elim (waits_join j r u) (λ e. apart u cs e.0))
    go (C r) (T t) = (λ h. ⊎_elim inl (λ n. inr (ap C n.1, ap T n.0)) (join_holds j r t h), ⊎_elim (holds_join j r t) (λ e. new (C_inj r cs e.0) (T_inj t th e.1)))
      where
        new : r ≡ cs → t ≡ th → Holds (P th cs ∷ s) t r
        new p q = rw (p, q, update_there (wq s) cs (wq s cs ++ (th ∷ [])), free) (inl refl, refl)
    go (C r) (C q) = (absurd, ⊎_elim (λ b. b) (λ e. apart th q (sym e.1)))

-- P of a taken resource adds a waiting edge.
pub taken_edges : (s : State) (th : Thread) (cs : Resource) → Valid (P th cs ∷ s) → (h : Thread) → Holds s h cs →
    SameEdges (RAG (P th cs ∷ s)) (λ x y. RAG s x y ⊎ Edge (T th) (C cs) x y)
taken_edges s th cs v h held = go
  where
    j : Joins (wq s) th cs
    j = joins s th cs v

    go : SameEdges (RAG (P th cs ∷ s)) (λ x y. RAG s x y ⊎ Edge (T th) (C cs) x y)
    go (T u) (T t) = (absurd, ⊎_elim (λ b. b) (λ e. apart t cs e.1))
    go (T u) (C r) = (λ w. ⊎_elim inl (λ n. inr (ap T n.0, ap C n.1)) (join_waits j r u w), ⊎_elim (waits_join j r u) (λ e. new (T_inj u th e.0) (C_inj r cs e.1)))
      where
        new : u ≡ th → r ≡ cs → Waits (P th cs ∷ s) u r
        new p q = rw (p, q) (newly_waits j h held)
    go (C r) (T t) = (λ k. ⊎_elim inl (λ n. absurd (rw n.2 at held.0)) (join_holds j r t k), ⊎_elim (holds_join j r t) (λ e. apart th r (sym e.0)))
    go (C r) (C q) = (absurd, ⊎_elim (λ b. b) (λ e. apart th r (sym e.0)))

-- V with a successor takes its waiting edge and th's holding edge away, and adds the successor's holding edge.
pub pass_edges : (s : State) (th : Thread) (cs : Resource) (th' : Thread) → Valid («V» th cs (some th') ∷ s) →
    SameEdges (RAG («V» th cs (some th') ∷ s)) (λ x y. (RAG s x y × (¬ Edge (C cs) (T th) x y) × (¬ Edge (T th') (C cs) x y)) ⊎ Edge (C cs) (T th') x y)
pass_edges s th cs th' v = go
  where
    p : Passes (wq s) cs (some th')
    p = passes s th cs (some th') v

    waited : Waits s th' cs
    waited = p.follows

    q' : List ℕ
    q' = release (wq s cs) (some th')

    there : (A : List ℕ → Type 0) → A q' → A (wq («V» th cs (some th') ∷ s) cs)
    there A a = rw (update_there (wq s) cs q') a

    here : (A : List ℕ → Type 0) → A (wq («V» th cs (some th') ∷ s) cs) → A q'
    here A a = rw (update_there (wq s) cs q') at a

    heir : (u : ℕ) → u ∈ hd q' → u ≡ th'
    heir u h = hd_one q' u th' h (heir_holds (wq s cs) th' waited).1

    Left : Node → Node → Type 0
    Left x y = (RAG s x y × (¬ Edge (C cs) (T th) x y) × (¬ Edge (T th') (C cs) x y)) ⊎ Edge (C cs) (T th') x y

    waiting : (u r : ℕ) → Dec (r ≡ cs) → Waits («V» th cs (some th') ∷ s) u r ↔ Left (T u) (C r)
    waiting u r (yes e) = (
      λ w. inl (pass_waits p r u w, (λ k. apart u cs k.0), λ k. (here (λ q. Waiting q u) (rw e at w)).1 (rw (T_inj u th' k.0) (heir_holds (wq s cs) th' waited).1)),
      ⊎_elim (λ k. rw e (there (λ q. Waiting q u) (((pass_queue p).waited u).1 (rw e at k.0), λ h. k.2 (ap T (heir u h), ap C e)))) (λ k. apart u cs k.0),
    )
    waiting u r (no n) = (
      λ w. inl (pass_waits p r u w, (λ k. apart u cs k.0), λ k. n (C_inj r cs k.1)),
      ⊎_elim (λ k. pass_else p r n (λ q. Waiting q u) k.0) (λ k. apart u cs k.0),
    )

    holding : (r t : ℕ) → Dec (r ≡ cs) → Holds («V» th cs (some th') ∷ s) t r ↔ Left (C r) (T t)
    holding r t (yes e) = (
      λ h. inr (ap C e, ap T (heir t (here (λ q. Holding q t) (rw e at h)).1)),
      ⊎_elim (λ k. absurd (k.1 (ap C e, ap T (one_holder (wq s) cs t th (rw e at k.0) (releaser_holds s th cs (some th') v))))) (λ k. rw (e, T_inj t th' k.1) (there (λ q. Holding q th') (heir_holds (wq s cs) th' waited))),
    )
    holding r t (no n) = (
      λ h. inl (else_pass p r n (λ q. Holding q t) h, (λ k. n (C_inj r cs k.0)), λ k. apart th' r (sym k.0)),
      ⊎_elim (λ k. pass_else p r n (λ q. Holding q t) k.0) (λ k. absurd (n (C_inj r cs k.0))),
    )

    go : SameEdges (RAG («V» th cs (some th') ∷ s)) Left
    go (T u) (T t) = (absurd, ⊎_elim (λ k. k.0) (λ k. apart u cs k.0))
    go (T u) (C r) = waiting u r (ℕ_discrete r cs)
    go (C r) (T t) = holding r t (ℕ_discrete r cs)
    go (C r) (C q) = (absurd, ⊎_elim (λ k. k.0) (λ k. apart th' q (sym k.1)))

-- V with no successor takes th's holding edge away.
pub drop_edges : (s : State) (th : Thread) (cs : Resource) → Valid («V» th cs none ∷ s) →
    SameEdges (RAG («V» th cs none ∷ s)) (λ x y. RAG s x y × (¬ Edge (C cs) (T th) x y))
drop_edges s th cs v = go
  where
    p : Passes (wq s) cs none
    p = passes s th cs none v

    nobody : (u : ℕ) → ¬ Waits s u cs
    nobody = p.follows

    q' : List ℕ
    q' = release (wq s cs) none

    empty : (u : ℕ) → ¬ (u ∈ set (wq («V» th cs none ∷ s) cs))
    empty u i = nobody u (((pass_queue p).waited u).0 (rw (update_there (wq s) cs q') at i))

    waiting : (u r : ℕ) → Dec (r ≡ cs) → Waits («V» th cs none ∷ s) u r ↔ (Waits s u r × (¬ Edge (C cs) (T th) (T u) (C r)))
    waiting u r (yes e) = (λ w. absurd (empty u (rw e at w.0)), λ k. absurd (nobody u (rw e at k.0)))
    waiting u r (no n) = (λ w. (pass_waits p r u w, λ k. apart u cs k.0), λ k. pass_else p r n (λ q. Waiting q u) k.0)

    holding : (r t : ℕ) → Dec (r ≡ cs) → Holds («V» th cs none ∷ s) t r ↔ (Holds s t r × (¬ Edge (C cs) (T th) (C r) (T t)))
    holding r t (yes e) = (λ h. absurd (empty t (rw e at h.0)), λ k. absurd (k.1 (ap C e, ap T (one_holder (wq s) cs t th (rw e at k.0) (releaser_holds s th cs none v)))))
    holding r t (no n) = (λ h. (else_pass p r n (λ q. Holding q t) h, λ k. n (C_inj r cs k.0)), λ k. pass_else p r n (λ q. Holding q t) k.0)

    go : SameEdges (RAG («V» th cs none ∷ s)) (λ x y. RAG s x y × (¬ Edge (C cs) (T th) x y))
    go (T u) (T t) = (absurd, λ k. k.0)
    go (T u) (C r) = waiting u r (ℕ_discrete r cs)
    go (C r) (T t) = holding r t (ℕ_discrete r cs)
    go (C r) (C q) = (absurd, λ k. k.0)
