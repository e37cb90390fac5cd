-- Every event that the table permits carries the agreement of table and state on. Assumes nothing.
use Prim.Native.Nat.{ℕ, ◌+◌, ◌<◌}
use mathlib.Core.Path.{◌≡◌, refl, sym, ap, subst, ◌∙◌}
use mathlib.Core.Bool.{cond}
use mathlib.Core.List.{List, [], ◌∷◌, ◌++◌}
use mathlib.Core.Logic.{◌≢◌, inl, inr, ⊎_elim, ◌↔◌, by_cases}
use native.Mathlib.Decide.{ℕ_discrete}
use native.Mathlib.Omega.{arith}
use borrow.Author.Tests.{eq-eqb, ne_eqb}
use lib.Dec.{eqb}
use lib.ListN.{length, set as put}
use Rattle.protocol.specs.Sets.{◌∈◌}
use Rattle.protocol.specs.Graph.{Queues}
use Rattle.protocol.specs.Events.{Thread, Priority, Resource, Event, Create, Exit, Set, P, «V», State, threads, prec}
use Rattle.protocol.specs.Schedule.{wq, update, release as leave}
use Rattle.protocol.specs.Totals.{requests, releases}
use Rattle.table.specs.declared.Table.{Table}
use Rattle.table.specs.declared.Slot.{Slot}
use Rattle.table.specs.Table.{at, queues, slot, dead_slot}
use Rattle.table.specs.Slots.{fresh_slot, set_slot}
use Rattle.table.proofs.Values.Values.{Good, thread_low}
use Rattle.events.specs.Events.{settled, later, with_slot, with_totals, with_queue, changed}
use Rattle.events.specs.Code.Permits.{Permits, create, exit, set, request, release}
use Rattle.events.proofs.Queues.Queued.{queues_queued}
use Rattle.events.proofs.Kept.Shapes.{totals_shape}
use Rattle.events.proofs.Kept.Slots.{slot_there, slot_else}
use Rattle.events.proofs.Kept.Totals.{one_more}
use Rattle.events.proofs.Kept.Queues.{QueueFits, queue_short, request_fits, release_fits, release_low}
use Rattle.demands.proofs.Agrees.{Agrees}

-- the slot says of th what the state says: whether it is live, and its own precedence and its totals if it is
abbrev Says : Slot → Thread → State → Type 0
Says n th s = ((n.live ≡ 1) ↔ (th ∈ threads s)) × (th ∈ threads s → (n.priority, n.time) ≡ prec th s) × (th ∈ threads s → (n.requests ≡ requests th s) × (n.releases ≡ releases th s))

-- one more at th is what an event of th counts
counted : (xs : List ℕ) (th x n : ℕ) → th < length xs → at xs x ≡ n → at (put xs th (at xs th + 1)) x ≡ cond {A = ℕ} (eqb th x) 1 0 + n
counted xs th x n low e = ⊎_elim {C = at (put xs th (at xs th + 1)) x ≡ cond {A = ℕ} (eqb th x) 1 0 + n}
    (λ w. rw (eq-eqb th x (sym w.0)) (omega (arith, w.1, e)))
    (λ w. rw (ne_eqb th x (λ z. w.0 (sym z))) (omega (arith, w.1, e)))
    (one_more xs th x low)

module _ {t : Table} {s : State} (a : Agrees t s) (g : Good t) where
  -- with the slot n for th the table agrees with a state that says the same of th, and of the others what s says; working out the
  -- current precedences touches nothing that has to agree
  slot_agrees : (th : Thread) (n : Slot) (ev : Event) → th < 32 → Says n th (ev ∷ s) → ((x : Thread) (m : Slot) → x ≢ th → Says m x s → Says m x (ev ∷ s)) → wq s ≡ wq (ev ∷ s) →
      Agrees (settled (later (with_slot t th n))) (ev ∷ s)
  unfolding settled with_slot
  slot_agrees th n ev low here others same = record { clock = omega (arith, a.clock); live = λ x. (says x).0; own = λ x. (says x).1; queues = a.queues ∙ same; totals = λ x. (says x).2 }
    where
      says : (x : Thread) → Says (slot (with_slot t th n) x) x (ev ∷ s)
      says x = by_cases (ℕ_discrete x th)
          (λ e. subst (λ (y : Thread). Says (slot (with_slot t th n) y) y (ev ∷ s)) (sym e) (subst (λ (m : Slot). Says m th (ev ∷ s)) (sym (slot_there t th n g.shape low)) here))
          (λ d. subst (λ (m : Slot). Says m x (ev ∷ s)) (sym (slot_else t th n x d)) (others x (slot t x) d (a.live x, a.own x, a.totals x)))

  -- with what f makes of the queue of cs, and these totals, it agrees with a state that has such a queue, and says this of the threads
  queue_agrees : (cs : Resource) (f : List Thread → List Thread) (ev : Event) {rq rl : List ℕ} → cs < 16 → QueueFits t cs (f (queues t cs)) rq rl → ((x : Thread) → Says (slot (with_totals t rq rl) x) x (ev ∷ s)) → update (wq s) cs (f (wq s cs)) ≡ wq (ev ∷ s) →
      Agrees (settled (later (with_queue (with_totals t rq rl) cs (f (queues t cs))))) (ev ∷ s)
  unfolding settled with_queue
  queue_agrees cs f ev {rq} {rl} low fits says same = record {
    clock = omega (arith, a.clock);
    live = λ x. (says x).0;
    own = λ x. (says x).1;
    queues = queues_queued (with_totals t rq rl) cs (f (queues t cs)) (totals_shape g.shape fits.totals.requests_size fits.totals.releases_size) low (queue_short t cs (f (queues t cs)) g.shape fits) g.bare.queues_right.lengths ∙ ap (λ (q : Queues). update q cs (f (q cs))) a.queues ∙ same;
    totals = λ x. (says x).2;
  }

  -- who is created or set has its precedence from now on, the others keep theirs
  own_now : (th : Thread) (prio : Priority) → (prio, t.clock) ≡ prec th (Set th prio ∷ s)
  own_now th prio = rw (eq-eqb th th refl) (ap (λ (n : ℕ). (prio, n)) a.clock)

  own_before : (th : Thread) (prio : Priority) (x : Thread) → x ≢ th → prec x s ≡ prec x (Set th prio ∷ s)
  own_before th prio x d = rw (ne_eqb th x (λ e. d (sym e)))

  -- all five
  pub carried : {ev : Event} → Permits t ev → Agrees (settled (changed t ev)) (ev ∷ s)
  unfolding changed
  carried (create {th} {prio} low small new) = slot_agrees th (fresh_slot prio t.clock) (Create th prio) low
      (((λ _. inl refl), λ _. refl), (λ _. own_now th prio), λ _. rw (eq-eqb th th refl) (refl, refl))
      (λ x m d w. let old = ⊎_elim (λ e. absurd (d e)) (λ i. i) in (((λ i. inr (w.0.0 i)), λ j. w.0.1 (old j)), (λ j. w.1 (old j) ∙ own_before th prio x d), λ j. rw (ne_eqb th x (λ e. d (sym e))) (w.2 (old j))))
      refl
  carried (exit {th} runs empty_handed) = slot_agrees th dead_slot (Exit th) (thread_low t g th runs.among.0)
      (((λ e. absurd (omega arith)), λ j. absurd (j.1 refl)), (λ j. absurd (j.1 refl)), λ j. absurd (j.1 refl))
      (λ x m d w. (((λ i. (w.0.0 i, d)), λ j. w.0.1 j.0), (λ j. w.1 j.0), λ j. w.2 j.0))
      refl
  carried (set {th} {prio} runs small) = slot_agrees th (set_slot (slot t th) prio t.clock) (Set th prio) (thread_low t g th runs.among.0)
      (a.live th, (λ _. own_now th prio), a.totals th)
      (λ x m d w. (w.0, (λ j. w.1 j ∙ own_before th prio x d), w.2))
      refl
  carried (request {th} {cs} runs low chainless) = queue_agrees cs (λ q. q ++ (th ∷ [])) (P th cs) low (request_fits t g (request runs low chainless))
      (λ x. (a.live x, a.own x, λ l. (counted t.requests th x (requests x s) (omega (arith, thread_low t g th runs.among.0, g.shape.requests_size)) (a.totals x l).0, (a.totals x l).1))) refl
  carried (release {th} {cs} {next} runs head follows) =
      let p = release runs head follows in queue_agrees cs (λ q. leave q next) («V» th cs next) (release_low t g {next = next} p) (release_fits t g p)
      (λ x. (a.live x, a.own x, λ l. ((a.totals x l).0, counted t.releases th x (releases x s) (omega (arith, thread_low t g th runs.among.0, g.shape.releases_size)) (a.totals x l).1))) refl
