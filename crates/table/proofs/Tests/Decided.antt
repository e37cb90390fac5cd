-- The test of specs/Compute.antt tells whether a table is sound, rule by rule. Assumes nothing.
use Prim.Native.Nat.{ℕ, zero, suc, ◌+◌, ◌*◌, ◌≤◌, ◌<◌}
use mathlib.Core.Path.{◌≡◌, sym, ap, ◌∙◌, Σ_path}
use mathlib.Core.Bool.{true, false≢true}
use mathlib.Core.Logic.{◌≢◌, ◌⊎◌, inl, inr, ⊎_elim}
use native.Mathlib.Decide.{dec_lt}
use native.Mathlib.Omega.{arith}
use lib.Dec.{leb}
use Rattle.protocol.specs.Sets.{◌∈◌, set, Distinct}
use Rattle.protocol.specs.Events.{Precedence, ◌≼◌}
use Rattle.protocol.specs.Children.{children}
use Rattle.protocol.proofs.Order.{≼_total}
use Rattle.protocol.proofs.Highest.{max_unique}
use Rattle.protocol.proofs.Chains.{Free, Climb, stop, hop, Ends}
use Rattle.protocol.proofs.Ways.{every_way}
use Rattle.protocol.proofs.Current.{Orderly}
use Rattle.table.specs.declared.Table.{Table}
use Rattle.table.specs.declared.Slot.{Slot}
use Rattle.table.specs.Table.{at, live, own, stored, queues, Waits}
use Rattle.table.specs.Sound.{Sound, QueuesRight}
use Rattle.table.specs.Code.Shape.{Shape, ZeroSlot}
use Rattle.table.specs.Compute.{is_live, waits_for, blocker, current, ends, dead_zero, spare_zero, time_right, queue_right, waits_once, unreleased, balance_right, totals_low, current_right, is_sound}
use Rattle.table.proofs.Arrays.Bounds.{beyond}
use Rattle.table.proofs.Sound.Queues.{live_low, taken_low, in_queue, OneQueue}
use Rattle.table.proofs.Sound.Order.{zero_beyond, rows_orderly, sound_orderly}
use Rattle.table.proofs.Tests.Reflect.{Tells, tells_itself, tells_eq, tells_lt, tells_le, tells_both, tells_either, tells_where, tells_unless, tells_below, tells_each, tells_differ, tells_same}
use Rattle.table.proofs.Tests.Totals.{balanced_is, is_balanced}
use Rattle.table.proofs.Tests.Computed.{tells_live, tells_waiting, waits_for_is, child_blocker, blocker_cases, sixteen, current_is}

-- what the rules say below 32 and 16, where the arrays end
pub record Rules (t : Table) : Type 0 where
  pub clock : t.clock ≤ 65535
  pub priorities : (th : ℕ) → th < 32 → at t.priority th ≤ 255
  pub dead : (th : ℕ) → th < 32 → ¬ (th ∈ live t) → (at t.live th ≡ 0) × ((own t th ≡ (0, 0)) × ((at t.requests th ≡ 0) × ((at t.releases th ≡ 0) × (stored t th ≡ (0, 0)))))
  pub spare : (cs : ℕ) → cs < 16 → (i : ℕ) → i < 32 → ¬ (i < at t.rows.length cs) → at t.rows.queue (cs * 32 + i) ≡ 0
  pub times : (th : ℕ) → th < 32 → th ∈ live t → (at t.time th < t.clock) × ((u : ℕ) → u < 32 → (u ∈ live t) × (at t.time th ≡ at t.time u) → th ≡ u)
  pub right : (cs : ℕ) → cs < 16 → (at t.rows.length cs ≤ 32) × (((th : ℕ) → th ∈ set (queues t cs) → th ∈ live t) × Distinct (queues t cs))
  pub once : (cs : ℕ) → cs < 16 → (th : ℕ) → th ∈ set (queues t cs) → Waits t th cs → waits_for t th ≡ cs
  pub ways : (th : ℕ) → th < 32 → ends 33 t th ≡ true
  pub balances : (th : ℕ) → th < 32 → th ∈ live t → at t.requests th ≡ at t.releases th + unreleased t th
  pub lows : (th : ℕ) → th < 32 → (at t.requests th ≤ t.clock) × (at t.releases th ≤ t.clock)
  pub currents : (th : ℕ) → th < 32 → th ∈ live t → stored t th ≡ current t th

module _ (t : Table) where
  tells_dead : (th : ℕ) → Tells (dead_zero t th) (¬ (th ∈ live t) → (at t.live th ≡ 0) × ((own t th ≡ (0, 0)) × ((at t.requests th ≡ 0) × ((at t.releases th ≡ 0) × (stored t th ≡ (0, 0))))))
  unfolding dead_zero
  tells_dead th = tells_unless (tells_live t th) (tells_both (tells_eq (at t.live th) 0) (tells_both (tells_same (own t th) (0, 0)) (tells_both (tells_eq (at t.requests th) 0) (tells_both (tells_eq (at t.releases th) 0) (tells_same (stored t th) (0, 0))))))

  tells_spare : (cs : ℕ) → Tells (spare_zero t cs) ((i : ℕ) → i < 32 → ¬ (i < at t.rows.length cs) → at t.rows.queue (cs * 32 + i) ≡ 0)
  unfolding spare_zero
  tells_spare cs = tells_below 32 _ _ (λ i h. tells_unless (tells_lt i (at t.rows.length cs)) (tells_eq (at t.rows.queue (cs * 32 + i)) 0))

  tells_times : (th : ℕ) → Tells (time_right t th) (th ∈ live t → (at t.time th < t.clock) × ((u : ℕ) → u < 32 → (u ∈ live t) × (at t.time th ≡ at t.time u) → th ≡ u))
  unfolding time_right
  tells_times th = tells_where (tells_live t th) (tells_both (tells_lt (at t.time th) t.clock) (tells_below 32 _ _ (λ u h. tells_where (tells_both (tells_live t u) (tells_eq (at t.time th) (at t.time u))) (tells_eq th u))))

  tells_queue : (cs : ℕ) → Tells (queue_right t cs) ((at t.rows.length cs ≤ 32) × (((th : ℕ) → th ∈ set (queues t cs) → th ∈ live t) × Distinct (queues t cs)))
  unfolding queue_right
  tells_queue cs = tells_both (tells_le (at t.rows.length cs) 32) (tells_both (tells_each (is_live t) _ (tells_live t) (queues t cs)) (tells_differ (queues t cs)))

  tells_once : (cs : ℕ) → Tells (waits_once t cs) ((th : ℕ) → th ∈ set (queues t cs) → Waits t th cs → waits_for t th ≡ cs)
  unfolding waits_once
  tells_once cs = tells_each _ _ (λ th. tells_where (tells_waiting t th cs) (tells_eq (waits_for t th) cs)) (queues t cs)

  tells_balance : (th : ℕ) → Tells (balance_right t th) (th ∈ live t → at t.requests th ≡ at t.releases th + unreleased t th)
  unfolding balance_right
  tells_balance th = tells_where (tells_live t th) (tells_eq (at t.requests th) (at t.releases th + unreleased t th))

  tells_low : (th : ℕ) → Tells (totals_low t th) ((at t.requests th ≤ t.clock) × (at t.releases th ≤ t.clock))
  unfolding totals_low
  tells_low th = tells_both (tells_le (at t.requests th) t.clock) (tells_le (at t.releases th) t.clock)

  tells_current : (th : ℕ) → Tells (current_right t th) (th ∈ live t → stored t th ≡ current t th)
  unfolding current_right
  tells_current th = tells_where (tells_live t th) (tells_same (stored t th) (current t th))

  pub tells_rules : Tells (is_sound t) (Rules t)
  unfolding is_sound
  tells_rules =
      let all = tells_both (tells_le t.clock 65535)
      (tells_both (tells_below 32 (λ th. leb (at t.priority th) 255) (λ th. at t.priority th ≤ 255) (λ th h. tells_le (at t.priority th) 255))
      (tells_both (tells_below 32 (dead_zero t) (λ th. ¬ (th ∈ live t) → (at t.live th ≡ 0) × ((own t th ≡ (0, 0)) × ((at t.requests th ≡ 0) × ((at t.releases th ≡ 0) × (stored t th ≡ (0, 0)))))) (λ th h. tells_dead th))
      (tells_both (tells_below 16 (spare_zero t) (λ cs. (i : ℕ) → i < 32 → ¬ (i < at t.rows.length cs) → at t.rows.queue (cs * 32 + i) ≡ 0) (λ cs h. tells_spare cs))
      (tells_both (tells_below 32 (time_right t) (λ th. th ∈ live t → (at t.time th < t.clock) × ((u : ℕ) → u < 32 → (u ∈ live t) × (at t.time th ≡ at t.time u) → th ≡ u)) (λ th h. tells_times th))
      (tells_both (tells_below 16 (queue_right t) (λ cs. (at t.rows.length cs ≤ 32) × (((th : ℕ) → th ∈ set (queues t cs) → th ∈ live t) × Distinct (queues t cs))) (λ cs h. tells_queue cs))
      (tells_both (tells_below 16 (waits_once t) (λ cs. (th : ℕ) → th ∈ set (queues t cs) → Waits t th cs → waits_for t th ≡ cs) (λ cs h. tells_once cs))
      (tells_both (tells_below 32 (ends 33 t) (λ th. ends 33 t th ≡ true) (λ th h. tells_itself (ends 33 t th)))
      (tells_both (tells_below 32 (balance_right t) (λ th. th ∈ live t → at t.requests th ≡ at t.releases th + unreleased t th) (λ th h. tells_balance th))
      (tells_both (tells_below 32 (totals_low t) (λ th. (at t.requests th ≤ t.clock) × (at t.releases th ≤ t.clock)) (λ th h. tells_low th))
      (tells_below 32 (current_right t) (λ th. th ∈ live t → stored t th ≡ current t th) (λ th h. tells_current th))))))))))) in (
        (λ e. let k = all.0 e in record {
          clock = k.0;
          priorities = k.1.0;
          dead = k.1.1.0;
          spare = k.1.1.1.0;
          times = k.1.1.1.1.0;
          right = k.1.1.1.1.1.0;
          once = k.1.1.1.1.1.1.0;
          ways = k.1.1.1.1.1.1.1.0;
          balances = k.1.1.1.1.1.1.1.1.0;
          lows = k.1.1.1.1.1.1.1.1.1.0;
          currents = k.1.1.1.1.1.1.1.1.1.1;
        }),
        λ r. all.1 (r.clock, (r.priorities, (r.dead, (r.spare, (r.times, (r.right, (r.once, (r.ways, (r.balances, (r.lows, r.currents)))))))))),
      )

-- the way that is computed ends exactly when the graph's does
module _ (t : Table) (one : OneQueue t) (low : (x r : ℕ) → x ∈ set (queues t r) → r < 16) where
  ends_climb : (n th : ℕ) → ends n t th ≡ true → Ends (children (queues t)) th
  unfolding ends
  ends_climb zero th e = absurd (false≢true e)
  ends_climb (suc n) th e = go ((tells_either (tells_eq (waits_for t th) 16) (tells_itself (ends n t (blocker t th)))).0 e) (ends_climb n (blocker t th)) (blocker_cases t one low th)
    where
      go : (waits_for t th ≡ 16) ⊎ (ends n t (blocker t th) ≡ true) → (ends n t (blocker t th) ≡ true → Ends (children (queues t)) (blocker t th)) →
          ((waits_for t th ≢ 16) × (th ∈ children (queues t) (blocker t th))) ⊎ ((waits_for t th ≡ 16) × (32 ≤ blocker t th) × Free (children (queues t)) th) → Ends (children (queues t)) th
      go c ih (inr k) = (zero, stop k.2)
      go (inl e) ih (inl k) = absurd (k.0 e)
      go (inr e) ih (inl k) = let w = ih e in (suc w.0, hop k.1 w.1)

  climb_ends : {th k : ℕ} → Climb (children (queues t)) th k → (n : ℕ) → k < n → ends n t th ≡ true
  unfolding ends
  climb_ends c zero h = absurd (omega arith)
  climb_ends (stop {t = th} f) (suc n) h = (tells_either (tells_eq (waits_for t th) 16) (tells_itself (ends n t (blocker t th)))).1
      (inl (⊎_elim {C = waits_for t th ≡ 16} (λ k. absurd (f (blocker t th) k.1)) (λ k. k.0) (blocker_cases t one low th)))
  climb_ends (hop {t = th} {h = v} j c) (suc n) h = (tells_either (tells_eq (waits_for t th) 16) (tells_itself (ends n t (blocker t th)))).1
      (inr (rw (child_blocker t one low th v j) (climb_ends c n (omega arith))))

module _ (t : Table) (shape : Shape t) where
  -- beyond the arrays the rules hold of themselves
  rules_sound : Rules t → Sound t
  rules_sound r = record {
    bare = record {
      clock = r.clock;
      priorities = λ th. within_32 th (λ h. r.priorities th h) (λ h. omega (arith, beyond t.priority th (omega arith)));
      dead_slots = λ th n. (dead th n (dec_lt th 32)).0;
      spare_places = λ cs i h k l. r.spare cs h i l (omega arith);
      times = record { below_clock = λ th l. (r.times th (live_low t shape th l) l).0; different = λ x y l m e. (r.times x (live_low t shape x l) l).1 y (live_low t shape y m) (m, e) };
      queues_right = right;
      one_wait = one;
      ways_end = every_way (queues t) order.forest.ends;
    };
    dead_stored = λ th n. (dead th n (dec_lt th 32)).1;
    current = λ th l. rw (r.currents th (live_low t shape th l) l) (current_is t order low (live_low t shape) th);
    totals = record {
      balance = λ th l. balanced_is t th (live_low t shape th l) one low (at t.requests th) (at t.releases th) (r.balances th (live_low t shape th l) l);
      low = λ th. within_32 th (λ h. r.lows th h) (λ h. (omega (arith, beyond t.requests th (omega arith)), omega (arith, beyond t.releases th (omega arith))));
    };
  }
    where
      within_32 : {A : Type 0} (th : ℕ) → (th < 32 → A) → (32 ≤ th → A) → A
      within_32 {A} th f g = go (dec_lt th 32)
        where
          go : Dec (th < 32) → A
          go (yes h) = f h
          go (no n) = g (omega arith)

      dead : (th : ℕ) → ¬ (th ∈ live t) → Dec (th < 32) → ZeroSlot t th
      dead th n (yes h) = let k = r.dead th h n in (rw (k.0, ap (λ (p : Precedence). p.0) k.1.0, ap (λ (p : Precedence). p.1) k.1.0, k.1.1.0, k.1.1.1.0), k.1.1.1.1)
      dead th n (no h) = zero_beyond t shape th (omega arith)

      lengths : (cs : ℕ) → at t.rows.length cs ≤ 32
      lengths cs = go (dec_lt cs 16)
        where
          go : Dec (cs < 16) → at t.rows.length cs ≤ 32
          go (yes h) = (r.right cs h).0
          go (no n) = omega (arith, beyond t.rows.length cs (omega arith))

      low : (x cs : ℕ) → x ∈ set (queues t cs) → cs < 16
      low x cs i = let w = (in_queue t shape lengths cs x).0 i in taken_low t shape cs w.0 w.1

      right : QueuesRight t
      right = record { lengths = lengths; live_entries = λ cs th i. (r.right cs (low th cs i)).1.0 th i; differ = λ cs. differs cs (dec_lt cs 16) }
        where
          differs : (cs : ℕ) → Dec (cs < 16) → Distinct (queues t cs)
          differs cs (yes h) = (r.right cs h).1.1
          differs cs (no n) = rw (beyond t.rows.length cs (omega arith)) tt

      one : OneQueue t
      one x p q v w = sym (r.once p (low x p v.0) x v.0 v) ∙ r.once q (low x q w.0) x w.0 w

      order : Orderly (queues t) (live t)
      order = rows_orderly t shape right one (λ th h. ends_climb t one low 33 th (r.ways th h))

  sound_rules : Sound t → Rules t
  sound_rules s = record {
    clock = s.bare.clock;
    priorities = λ th h. s.bare.priorities th;
    dead = λ th h n. let z = s.bare.dead_slots th n in (ap (λ (e : Slot). e.live) z, (Σ_path (ap (λ (e : Slot). e.priority) z) (ap (λ (e : Slot). e.time) z), (ap (λ (e : Slot). e.requests) z, (ap (λ (e : Slot). e.releases) z, s.dead_stored th n))));
    spare = λ cs h i l n. s.bare.spare_places cs i h (omega arith) l;
    times = λ th h l. (s.bare.times.below_clock th l, λ u k w. s.bare.times.different th u l w.0 w.1);
    right = λ cs h. (s.bare.queues_right.lengths cs, (s.bare.queues_right.live_entries cs, s.bare.queues_right.differ cs));
    once = λ cs h th i w. waits_for_is t s.bare.one_wait low th cs w;
    ways = λ th h. climb_ends t s.bare.one_wait low ((sound_orderly t shape s).forest.ends th).1 33 (omega (arith, sixteen t (sound_orderly t shape s) low (live_low t shape) th));
    balances = λ th h l. is_balanced t th h s.bare.one_wait low (at t.requests th) (at t.releases th) (s.totals.balance th l);
    lows = λ th h. s.totals.low th;
    currents = λ th h l. max_unique ◌≼◌ ≼_total (s.current th l) (current_is t (sound_orderly t shape s) low (live_low t shape) th);
  }
    where
      low : (x cs : ℕ) → x ∈ set (queues t cs) → cs < 16
      low x cs i = let w = (in_queue t shape s.bare.queues_right.lengths cs x).0 i in taken_low t shape cs w.0 w.1

  -- the test tells whether the table is sound
  pub tells_sound : Tells (is_sound t) (Sound t)
  tells_sound = ((λ e. rules_sound ((tells_rules t).0 e)), λ s. (tells_rules t).1 (sound_rules s))
