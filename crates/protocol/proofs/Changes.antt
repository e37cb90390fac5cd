-- Document 000, section 4: which current precedences each event changes. Assumes nothing.
use Prim.Native.Nat.{ℕ}
use mathlib.Core.Path.{◌≡◌, refl, sym, subst, ◌∙◌}
use mathlib.Core.Option.{none, some}
use mathlib.Core.List.{[], ◌∷◌}
use mathlib.Core.Logic.{◌≢◌, ◌⊎◌, inl, inr, ⊎_elim}
use lib.ListN.{length}
use borrow.Author.Tests.{eq-eqb, ne_eqb}
use Rattle.protocol.specs.Sets.{SetOf, ◌∈◌, only, ◌∪◌, image, images, Max, Highest}
use Rattle.protocol.specs.Events.{Thread, Priority, Resource, Create, Exit, Set, P, «V», State, threads, Precedence, prec, ◌≼◌}
use Rattle.protocol.specs.Schedule.{wq, Holds, Waits, Cprec, release, running}
use Rattle.protocol.specs.Notions.{dependants}
use Rattle.protocol.specs.Rules.{create, set as set_step, Valid, after}
use Rattle.protocol.specs.Children.{children}
use Rattle.protocol.specs.Changes.{SameCprec}
use Rattle.protocol.proofs.Order.{≼_total}
use Rattle.protocol.proofs.Highest.{max_unique, max_map}
use Rattle.protocol.proofs.Chains.{Depends, Reach, Free, hop_reach, depends_reach, reach_depends, free_independent, no_circle}
use Rattle.protocol.proofs.Graphs.{leads, depends_way}
use Rattle.protocol.proofs.Hops.{depends_map, depends_but, depends_added}
use Rattle.protocol.proofs.Lists.{Holding, hd_one}
use Rattle.protocol.proofs.Ways.{one_holder, waits_free}
use Rattle.protocol.proofs.Kept.{joins, passes, releaser_holds, caller_runs, last_step, valid_before}
use Rattle.protocol.proofs.Forest.{Joins, children_join, join_children, join_new, Passes, pass_queue, pass_waits, pass_children, children_pass, heir_free}
use Rattle.protocol.proofs.Heir.{holds_next, heir_local}
use Rattle.protocol.proofs.Current.{Orderly, current_cprec, cprec_current, cprec_some, now, now_images, images_now, now_law, local_cprec, parents, dependant_live, dependee_live}
use Rattle.protocol.proofs.Waiters.{topmost_waiter}
use Rattle.protocol.proofs.Finite.{valid_orderly}

abbrev own : State → ℕ → Precedence
own s = λ u. prec u s

abbrev Below : State → ℕ → ℕ → Type 0
Below s u t = Depends (children (wq s)) u t

-- the same dependants with the same own precedences make the same current precedence
same_behind : (s s' : State) (t : ℕ) → ((u : ℕ) → Below s u t → Below s' u t) → ((u : ℕ) → Below s' u t → Below s u t) →
    prec t s ≡ prec t s' → ((u : ℕ) → Below s u t → prec u s ≡ prec u s') → SameCprec s s' t
same_behind s s' t to from e agree m = (
  λ k. current_cprec (wq s') (own s') t m (max_map ◌≼◌ ≼_total forth back (cprec_current (wq s) (own s) t m k)),
  λ k. current_cprec (wq s) (own s) t m (max_map ◌≼◌ ≼_total back forth (cprec_current (wq s') (own s') t m k)),
)
  where
    forth : (a : Precedence) → a ∈ (only (prec t s) ∪ image (λ u. prec u s) (λ u. Below s u t)) → a ∈ (only (prec t s') ∪ image (λ u. prec u s') (λ u. Below s' u t))
    forth a (inl q) = inl (q ∙ e)
    forth a (inr (u, d, q)) = inr (u, to u d, q ∙ agree u d)

    back : (a : Precedence) → a ∈ (only (prec t s') ∪ image (λ u. prec u s') (λ u. Below s' u t)) → a ∈ (only (prec t s) ∪ image (λ u. prec u s) (λ u. Below s u t))
    back a (inl q) = inl (q ∙ sym e)
    back a (inr (u, d, q)) = inr (u, from u d, q ∙ sym (agree u (from u d)))

-- a thread on which nobody depends has its own precedence
alone : (s : State) (t : ℕ) → ((u : ℕ) → ¬ Below s u t) → Cprec s t (prec t s)
alone s t nobody = current_cprec (wq s) (own s) t (prec t s) (record { among = inl refl; bound = λ a. ⊎_elim inl (λ w. absurd (nobody w.0 w.1)) })

-- who runs waits for nobody, so it depends on nobody
runner_free : (s : State) (t : ℕ) → t ∈ running s → Free (children (wq s)) t
runner_free s t r = waits_free (wq s) t r.among.1

-- A Set gives its thread the priority and the time now, and changes no other's own precedence; a Create computes to the same

pub stamped_prec : (s : State) (th : ℕ) (prio : Priority) → prec th (Set th prio ∷ s) ≡ (prio, length s)
stamped_prec s th prio = rw (eq-eqb th th refl)

pub else_prec : (s : State) (th u : ℕ) (prio : Priority) → u ≢ th → prec u (Set th prio ∷ s) ≡ prec u s
else_prec s th u prio n = rw (ne_eqb th u (λ e. n (sym e)))

-- Create: the new thread's current precedence is its own, and all others keep theirs.

pub created_cprec : (s : State) (th : Thread) (prio : Priority) → Valid (Create th prio ∷ s) → Cprec (Create th prio ∷ s) th (prio, length s)
created_cprec s th prio (after v (create dead)) = subst (λ (p : Precedence). Cprec (Create th prio ∷ s) th p) (stamped_prec s th prio) (alone (Create th prio ∷ s) th (λ u d. dead (dependee_live (valid_orderly s v) d)))

pub create_cprec : (s : State) (th : Thread) (prio : Priority) → Valid (Create th prio ∷ s) → (th' : Thread) → th' ≢ th → SameCprec (Create th prio ∷ s) s th'
create_cprec s th prio (after v (create dead)) th' n = same_behind (Create th prio ∷ s) s th' (λ u d. d) (λ u d. d) (else_prec s th th' prio n)
    (λ u d. else_prec s th u prio (λ e. dead (rw e at (dependant_live (valid_orderly s v) d))))

-- Exit: all keep theirs.
pub exit_cprec : (s : State) (th : Thread) → Valid (Exit th ∷ s) → (th' : Thread) → SameCprec (Exit th ∷ s) s th'
exit_cprec s th v th' = same_behind (Exit th ∷ s) s th' (λ u d. d) (λ u d. d) refl (λ u d. refl)

-- Set: all others keep theirs, since th runs and so is nobody's dependant.
pub set_cprec : (s : State) (th : Thread) (prio : Priority) → Valid (Set th prio ∷ s) → (th' : Thread) → th' ≢ th → SameCprec (Set th prio ∷ s) s th'
set_cprec s th prio (after v (set_step run)) th' n = same_behind (Set th prio ∷ s) s th' (λ u d. d) (λ u d. d) (else_prec s th th' prio n)
    (λ u d. else_prec s th u prio (λ e. free_independent (children (wq s)) (runner_free s th run) (rw e at d)))

-- V with no successor: all keep theirs.
pub drop_cprec : (s : State) (th : Thread) (cs : Resource) → Valid («V» th cs none ∷ s) → (th' : Thread) → SameCprec («V» th cs none ∷ s) s th'
drop_cprec s th cs v th' = same_behind («V» th cs none ∷ s) s th'
    (λ u. depends_map (children (wq («V» th cs none ∷ s))) (children (wq s)) (λ x y k. ⊎_elim (λ (i : x ∈ children (wq s) y). i) (λ h. absurd (p.follows y (((pass_queue p).waited y).0 h.0))) (pass_children p x y k)))
    (λ u. depends_map (children (wq s)) (children (wq («V» th cs none ∷ s))) (λ x y k. ⊎_elim (λ (i : x ∈ children (wq («V» th cs none ∷ s)) y). i) (λ h. absurd (p.follows x h.1)) (children_pass p x y k)))
    refl (λ u d. refl)
  where
    p : Passes (wq s) cs none
    p = passes s th cs none v

-- V with a successor: all but th and the successor keep theirs.
pub pass_cprec : (s : State) (th : Thread) (cs : Resource) (th' : Thread) → Valid («V» th cs (some th') ∷ s) →
    (th'' : Thread) → th'' ≢ th → th'' ≢ th' → SameCprec («V» th cs (some th') ∷ s) s th''
pass_cprec s th cs th' v th'' n n' = same_behind s' s th''
    (λ u. depends_but (children (wq s')) (children (wq s)) th' (heir_free p th' heir)
    (λ x y ne k. ⊎_elim (λ (i : x ∈ children (wq s) y). i) (λ h. absurd (ne (hd_one (release (wq s cs) (some th')) y th' h.1 heir.1))) (pass_children p x y k)) n')
    (λ u. depends_but (children (wq s)) (children (wq s')) th (runner_free s th (caller_runs s («V» th cs (some th')) th refl (last_step v)))
    (λ x y ne k. ⊎_elim (λ (i : x ∈ children (wq s') y). i) (λ h. absurd (ne (one_holder (wq s) cs y th h.0 (releaser_holds s th cs (some th') v)))) (children_pass p x y k)) n)
    refl (λ u d. refl)
  where
    s' : State
    s' = «V» th cs (some th') ∷ s

    p : Passes (wq s) cs (some th')
    p = passes s th cs (some th') v

    heir : Holding (release (wq s cs) (some th')) th'
    heir = holds_next p

-- V with a successor: whoever follows.
module _ (s : State) (th : Thread) (cs : Resource) (th' : Thread) (v : Valid («V» th cs (some th') ∷ s)) where
  abbrev s' : State
  s' = «V» th cs (some th') ∷ s

  p : Passes (wq s) cs (some th')
  p = passes s th cs (some th') v

  -- those who wait for what it holds then keep theirs
  child_cprec : (u : Thread) → u ∈ children (wq s') th' → SameCprec s' s u
  child_cprec u (r, w, h) = pass_cprec s th cs th' v u (λ e. idle r (pass_waits p r th (rw e at w))) (λ e. heir_free p th' (holds_next p) th' (r, (rw e at w), h))
    where
      idle : (r : Resource) → ¬ Waits s th r
      idle = (caller_runs s («V» th cs (some th')) th refl (last_step v)).among.1

  order : Orderly (wq s) (threads s)
  order = valid_orderly s (valid_before v)

  -- it has the highest current precedence of those who waited,
  pub heir_cprec : (m : Precedence) → Max ◌≼◌ (images (Cprec s) (λ u. Waits s u cs)) m → Cprec s' th' m
  heir_cprec m k = (local_cprec (valid_orderly s' v) (own s') th' m).1
      (max_map ◌≼◌ ≼_total to from (heir_local p ◌≼◌ ≼_total (own s) (now order (own s)) (now_law order (own s) th') m (max_map ◌≼◌ ≼_total (images_now order (own s) waiters) (now_images order (own s) waiters) k)))
    where
      waiters : SetOf Thread
      waiters u = Waits s u cs

      to : (a : Precedence) → a ∈ (only (prec th' s) ∪ image (now order (own s)) (children (wq s') th')) → a ∈ (only (prec th' s') ∪ images (Cprec s') (children (wq s') th'))
      to a (inl e) = inl e
      to a (inr w) = let n = now_images order (own s) (children (wq s') th') a w in inr (n.0, n.1, (child_cprec n.0 n.1 a).1 n.2)

      from : (a : Precedence) → a ∈ (only (prec th' s') ∪ images (Cprec s') (children (wq s') th')) → a ∈ (only (prec th' s) ∪ image (now order (own s)) (children (wq s') th'))
      from a (inl e) = inl e
      from a (inr (u, i, c)) = inr (images_now order (own s) (children (wq s') th') a (u, i, (child_cprec u i a).0 c))

  -- so it keeps its own or rises,
  pub heir_rises : (m m' : Precedence) → Cprec s th' m → Cprec s' th' m' → m ≼ m'
  heir_rises m m' c d = let w = topmost_waiter order cs (own s) th' p.follows in
      rw (max_unique ◌≼◌ ≼_total d (heir_cprec w.1.at w.1.top)) (w.1.top.bound m (th', p.follows, c))

  -- and keeps it if none of those who waited had a higher one.
  pub heir_keeps : th' ∈ Highest ◌≼◌ (Cprec s) (λ u. Waits s u cs) → SameCprec s' s th'
  heir_keeps h m = (λ c. rw (max_unique ◌≼◌ ≼_total c (heir_cprec h.at h.top)) h.value, λ c. rw (max_unique ◌≼◌ ≼_total c h.value) (heir_cprec h.at h.top))

-- P of a free resource: all keep theirs.
pub free_cprec : (s : State) (th : Thread) (cs : Resource) → Valid (P th cs ∷ s) → wq s cs ≡ [] → (th' : Thread) → SameCprec (P th cs ∷ s) s th'
free_cprec s th cs v free th' = same_behind (P th cs ∷ s) s th'
    (λ u. depends_map (children (wq (P th cs ∷ s))) (children (wq s)) (λ x y k. ⊎_elim (λ (i : x ∈ children (wq s) y). i) (λ h. absurd (rw free at h.1.0)) (join_children j x y k)))
    (λ u. depends_map (children (wq s)) (children (wq (P th cs ∷ s))) (children_join j))
    refl (λ u d. refl)
  where
    j : Joins (wq s) th cs
    j = joins s th cs v

-- P of a resource that h holds
module _ (s : State) (th : Thread) (cs : Resource) (v : Valid (P th cs ∷ s)) (h : Thread) (held : Holds s h cs) where
  j : Joins (wq s) th cs
  j = joins s th cs v

  -- a dependence afterwards was one before, or comes by th and goes on from h
  by_th : {u t : ℕ} → Below (P th cs ∷ s) u t → Below s u t ⊎ (Reach (children (wq s)) u th × Reach (children (wq s)) h t)
  by_th = depends_added (children (wq s)) (children (wq (P th cs ∷ s))) th h (children_join j)
      (λ x y k. ⊎_elim inl (λ w. inr (w.0, one_holder (wq s) cs y h w.1 held)) (join_children j x y k))

  was_below : {u t : ℕ} → Below s u t → Below (P th cs ∷ s) u t
  was_below = depends_map (children (wq s)) (children (wq (P th cs ∷ s))) (children_join j)

  was_reached : {u t : ℕ} → Reach (children (wq s)) u t → Reach (children (wq (P th cs ∷ s))) u t
  was_reached (inl e) = inl e
  was_reached (inr d) = inr (was_below d)

  -- All keep theirs of whom th is no dependant now.
  pub taken_cprec : (th' : Thread) → ¬ (th ∈ dependants (P th cs ∷ s) th') → SameCprec (P th cs ∷ s) s th'
  taken_cprec th' apart = same_behind (P th cs ∷ s) s th'
      (λ u d. ⊎_elim (λ (i : Below s u th'). i) (λ w. absurd (apart (depends_way (wq (P th cs ∷ s)) (hop_reach (children (wq (P th cs ∷ s))) (join_new j h held) (was_reached w.1))))) (by_th d))
      (λ u. was_below) refl (λ u d. refl)

  -- The early stop: if th is a dependant of th' and th' one of th'', and th' keeps its current precedence, then so does th''.
  pub early_stop : (th' th'' : Thread) → th ∈ dependants (P th cs ∷ s) th' → th' ∈ dependants (P th cs ∷ s) th'' → SameCprec (P th cs ∷ s) s th' → SameCprec (P th cs ∷ s) s th''
  early_stop th' th'' i i' same m = (back, keep m)
    where
      order' : Orderly (wq (P th cs ∷ s)) (threads (P th cs ∷ s))
      order' = valid_orderly (P th cs ∷ s) v

      to_th' : Below (P th cs ∷ s) th th'
      to_th' = leads (wq (P th cs ∷ s)) i

      -- th' was a dependant of th'' before: else the way from it came by th, and there were a circle
      on_th'' : Below s th' th''
      on_th'' = ⊎_elim (λ (d : Below s th' th''). d)
          (λ w. absurd (no_circle (children (wq (P th cs ∷ s))) (parents order') (order'.forest.ends th).1 (depends_reach (children (wq (P th cs ∷ s))) to_th' (was_reached w.0))))
          (by_th (leads (wq (P th cs ∷ s)) i'))

      -- who comes by th is at most what th' has, and th' had it before
      below_th' : (n : Precedence) → Cprec s th'' n → (u : ℕ) → Below (P th cs ∷ s) u th' → prec u s ≼ n
      below_th' n k u d = ≼_total.transitive (prec u s) now'.0 n ((cprec_current (wq (P th cs ∷ s)) (own (P th cs ∷ s)) th' now'.0 now'.1).bound (prec u s) (inr (u, d, refl))) (⊎_elim
          (λ (e : now'.0 ≡ prec th' s). rw e ((cprec_current (wq s) (own s) th'' n k).bound (prec th' s) (inr (th', on_th'', refl))))
          (λ w. rw w.2 ((cprec_current (wq s) (own s) th'' n k).bound (prec w.0 s) (inr (w.0, depends_reach (children (wq s)) w.1 (inr on_th''), refl))))
          (cprec_current (wq s) (own s) th' now'.0 ((same now'.0).0 now'.1)).among)
        where
          now' : (x : Precedence) × Cprec (P th cs ∷ s) th' x
          now' = cprec_some order' (own (P th cs ∷ s)) th'

      keep : (n : Precedence) → Cprec s th'' n → Cprec (P th cs ∷ s) th'' n
      keep n k = current_cprec (wq (P th cs ∷ s)) (own (P th cs ∷ s)) th'' n (record { among = ⊎_elim inl (λ w. inr (w.0, was_below w.1, w.2)) (cprec_current (wq s) (own s) th'' n k).among; bound = over })
        where
          over : (a : Precedence) → a ∈ (only (prec th'' s) ∪ image (λ u. prec u s) (λ u. Below (P th cs ∷ s) u th'')) → a ≼ n
          over a (inl e) = (cprec_current (wq s) (own s) th'' n k).bound a (inl e)
          over a (inr (u, d, e)) = ⊎_elim
              (λ (b : Below s u th''). (cprec_current (wq s) (own s) th'' n k).bound a (inr (u, b, e)))
              (λ w. rw e (below_th' n k u (reach_depends (children (wq (P th cs ∷ s))) (was_reached w.0) to_th')))
              (by_th d)

      back : Cprec (P th cs ∷ s) th'' m → Cprec s th'' m
      back k = let w = cprec_some (valid_orderly s (valid_before v)) (own s) th'' in rw (max_unique ◌≼◌ ≼_total k (keep w.0 w.1)) w.1
