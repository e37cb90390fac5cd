-- An accepted event keeps the totals in balance, and none above the clock. Assumes nothing.
use Prim.Native.Nat.{ℕ, ◌+◌, ◌≤◌, ◌<◌}
use mathlib.Core.Path.{◌≡◌, sym, ap, subst, ◌∙◌}
use mathlib.Core.List.{List, [], ◌∷◌, ◌++◌}
use mathlib.Core.Logic.{◌≢◌, ◌⊎◌, inl, inr, ⊎_elim}
use native.Mathlib.Decide.{ℕ_discrete}
use native.Mathlib.Omega.{arith}
use lib.ListN.{length, set as put}
use lib.Seq.{get_or-set_same, get_or-set_other}
use Rattle.protocol.specs.Events.{Event, P, «V»}
use Rattle.protocol.specs.Sets.{◌∈◌}
use Rattle.protocol.specs.Graph.{Queues}
use Rattle.protocol.specs.Schedule.{update, release as leave}
use Rattle.protocol.specs.Totals.{Balanced}
use Rattle.protocol.proofs.Forest.{Joins, Passes}
use Rattle.protocol.proofs.Balance.{joined_balanced, joined_others, passed_balanced, passed_others, nowhere_balanced}
use Rattle.table.specs.declared.Table.{Table}
use Rattle.table.specs.declared.Slot.{Slot}
use Rattle.table.specs.Table.{at, slot, dead_slot, live, queues}
use Rattle.table.specs.Slots.{fresh_slot, set_slot}
use Rattle.table.specs.Sound.{TotalsRight}
use Rattle.table.proofs.Values.Values.{Good, thread_low}
use Rattle.events.specs.Events.{later, with_slot, with_totals, with_queue, changed}
use Rattle.events.specs.Code.Permits.{Permits, create, exit, set as set_anew, request, release}
use Rattle.events.proofs.Queues.Queued.{queues_queued}
use Rattle.events.proofs.Kept.Shapes.{totals_shape}
use Rattle.events.proofs.Kept.Slots.{slot_is}
use Rattle.events.proofs.Kept.Queues.{QueueFits, queue_short, request_fits, request_joins, release_fits, release_passes, release_low}

-- one more at th, and what there was at the others
pub one_more : (xs : List ℕ) (th x : ℕ) → th < length xs → ((x ≡ th) × (at (put xs th (at xs th + 1)) x ≡ at xs x + 1)) ⊎ ((x ≢ th) × (at (put xs th (at xs th + 1)) x ≡ at xs x))
one_more xs th x low = go (ℕ_discrete x th)
  where
    go : Dec (x ≡ th) → ((x ≡ th) × (at (put xs th (at xs th + 1)) x ≡ at xs x + 1)) ⊎ ((x ≢ th) × (at (put xs th (at xs th + 1)) x ≡ at xs x))
    go (yes e) = inl (e, rw e (get_or-set_same xs th (at xs th + 1) 0 low))
    go (no n) = inr (n, get_or-set_other xs th x (at xs th + 1) 0 n)

-- so a total is at most one higher than it was
not_above : (xs : List ℕ) (th x c : ℕ) → th < length xs → at xs x ≤ c → at (put xs th (at xs th + 1)) x ≤ c + 1
not_above xs th x c low h = ⊎_elim {C = at (put xs th (at xs th + 1)) x ≤ c + 1} (λ w. omega (arith, w.1)) (λ w. omega (arith, w.1)) (one_more xs th x low)

module _ (t : Table) (g : Good t) (right : TotalsRight t) where
  -- a slot is written
  slot_totals : (th : ℕ) (n : Slot) → th < 32 → (n.live ≡ 1 → Balanced (queues t) th n.requests n.releases) → (n.requests ≤ t.clock) × (n.releases ≤ t.clock) → TotalsRight (later (with_slot t th n))
  unfolding with_slot
  slot_totals th n low balanced lows = record {
    balance = λ x l. ⊎_elim
        (λ w. subst (λ (m : Slot). Balanced (queues t) x m.requests m.releases) (sym w.1) (rw w.0 (balanced (sym (ap (λ (m : Slot). m.live) w.1) ∙ l))))
        (λ e. subst (λ (m : Slot). Balanced (queues t) x m.requests m.releases) (sym e) (right.balance x (sym (ap (λ (m : Slot). m.live) e) ∙ l)))
        (slot_is t th n g.shape low x);
    low = λ x. ⊎_elim
        (λ w. subst (λ (m : Slot). (m.requests ≤ t.clock + 1) × (m.releases ≤ t.clock + 1)) (sym w.1) (omega (arith, lows.0), omega (arith, lows.1)))
        (λ e. subst (λ (m : Slot). (m.requests ≤ t.clock + 1) × (m.releases ≤ t.clock + 1)) (sym e) (omega (arith, (right.low x).0), omega (arith, (right.low x).1)))
        (slot_is t th n g.shape low x);
  }

  -- a queue is written, with these totals
  queue_totals : (cs : ℕ) (q : List ℕ) {requests releases : List ℕ} → cs < 16 → QueueFits t cs q requests releases →
      ((x : ℕ) → x ∈ live t → Balanced (update (queues t) cs q) x (at requests x) (at releases x)) → ((x : ℕ) → (at requests x ≤ t.clock + 1) × (at releases x ≤ t.clock + 1)) → TotalsRight (later (with_queue (with_totals t requests releases) cs q))
  unfolding with_queue
  queue_totals cs q {requests} {releases} low fits balanced lows = record { balance = λ x l. subst (λ (wq : Queues). Balanced wq x (at requests x) (at releases x)) (sym is) (balanced x l); low = lows }
    where
      is : queues (with_queue (with_totals t requests releases) cs q) ≡ update (queues t) cs q
      is = queues_queued (with_totals t requests releases) cs q (totals_shape g.shape fits.totals.requests_size fits.totals.releases_size) low (queue_short t cs q g.shape fits) g.bare.queues_right.lengths

  -- a permitted event keeps both rules
  pub changed_totals : {ev : Event} → Permits t ev → TotalsRight (changed t ev)
  unfolding changed
  changed_totals (create {th} {prio} low small new) = slot_totals th (fresh_slot prio t.clock) low (λ l. nowhere_balanced (λ cs i. new (g.bare.queues_right.live_entries cs th i))) (omega arith, omega arith)
  changed_totals (exit {th} runs empty_handed) = slot_totals th dead_slot (thread_low t g th runs.among.0) (λ l. absurd (omega arith)) (omega arith, omega arith)
  changed_totals (set_anew {th} {prio} runs small) = slot_totals th (set_slot (slot t th) prio t.clock) (thread_low t g th runs.among.0) (λ l. right.balance th runs.among.0) (right.low th)
  changed_totals (request {th} {cs} runs low chainless) = queue_totals cs (queues t cs ++ (th ∷ [])) low (request_fits t g p)
      (λ x l. ⊎_elim (λ w. rw (w.1, w.0) (joined_balanced joins (right.balance th runs.among.0))) (λ w. rw w.1 (joined_others joins w.0 (right.balance x l))) (one_more t.requests th x within))
      (λ x. (not_above t.requests th x t.clock within (right.low x).0, omega (arith, (right.low x).1)))
    where
      p : Permits t (P th cs)
      p = request runs low chainless

      joins : Joins (queues t) th cs
      joins = request_joins t g p

      within : th < length t.requests
      within = omega (arith, thread_low t g th runs.among.0, g.shape.requests_size)
  changed_totals (release {th} {cs} {next} runs head follows) = queue_totals cs (leave (queues t cs) next) (release_low t g p) (release_fits t g p)
      (λ x l. ⊎_elim (λ w. rw (w.1, w.0) (passed_balanced passes head (right.balance th runs.among.0))) (λ w. rw w.1 (passed_others passes head w.0 (right.balance x l))) (one_more t.releases th x within))
      (λ x. (omega (arith, (right.low x).0), not_above t.releases th x t.clock within (right.low x).1))
    where
      p : Permits t («V» th cs next)
      p = release runs head follows

      passes : Passes (queues t) cs next
      passes = release_passes t g p

      within : th < length t.releases
      within = omega (arith, thread_low t g th runs.among.0, g.shape.releases_size)
