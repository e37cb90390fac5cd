-- A slot is written, before the current precedences are worked out: the table keeps the other rules of a sound table. Assumes nothing.
use Prim.Native.Nat.{ℕ, ◌+◌, ◌≤◌, ◌<◌}
use mathlib.Core.Path.{◌≡◌, refl, sym, ap, ◌∙◌}
use mathlib.Core.Logic.{◌≢◌, ◌⊎◌, inl, inr, ⊎_elim}
use native.Mathlib.Decide.{ℕ_discrete}
use native.Mathlib.Omega.{arith}
use lib.Seq.{get_or-set_same, get_or-set_other}
use Rattle.protocol.specs.Sets.{◌∈◌, set}
use Rattle.table.specs.declared.Table.{Table}
use Rattle.table.specs.declared.Slot.{Slot}
use Rattle.table.specs.Table.{at, slot, dead_slot, live, queues}
use Rattle.table.specs.Slots.{fresh_slot, set_slot}
use Rattle.table.specs.Sound.{Bare}
use Rattle.table.specs.Code.Shape.{Shape}
use Rattle.events.specs.Events.{later, with_slot}

-- the slot that th may be given: that of a live thread set now, or the dead one of a thread that stands in no queue
pub record SlotFits (t : Table) (th : ℕ) (n : Slot) : Type 0 where
  pub small : n.priority ≤ 255
  pub fresh : n.live ≡ 1 → n.time ≡ t.clock
  pub dead : n.live ≢ 1 → n ≡ dead_slot
  pub entries : (cs : ℕ) → th ∈ set (queues t cs) → n.live ≡ 1

module _ (t : Table) (th : ℕ) (n : Slot) where
  -- the slot of th is the new one, the others are what they were
  pub slot_there : Shape t → th < 32 → slot (with_slot t th n) th ≡ n
  unfolding with_slot
  slot_there s low = rw (get_or-set_same t.live th n.live 0 (omega (arith, s.live_size)), get_or-set_same t.priority th n.priority 0 (omega (arith, s.priority_size)), get_or-set_same t.time th n.time 0 (omega (arith, s.time_size)), get_or-set_same t.requests th n.requests 0 (omega (arith, s.requests_size)), get_or-set_same t.releases th n.releases 0 (omega (arith, s.releases_size)))

  pub slot_else : (x : ℕ) → x ≢ th → slot (with_slot t th n) x ≡ slot t x
  unfolding with_slot
  slot_else x d = rw (get_or-set_other t.live th x n.live 0 d, get_or-set_other t.priority th x n.priority 0 d, get_or-set_other t.time th x n.time 0 d, get_or-set_other t.requests th x n.requests 0 d, get_or-set_other t.releases th x n.releases 0 d)

  module _ (s : Shape t) (low : th < 32) where
    -- which of the two it is
    pub slot_is : (x : ℕ) → ((x ≡ th) × (slot (with_slot t th n) x ≡ n)) ⊎ (slot (with_slot t th n) x ≡ slot t x)
    slot_is x = go (ℕ_discrete x th)
      where
        go : Dec (x ≡ th) → ((x ≡ th) × (slot (with_slot t th n) x ≡ n)) ⊎ (slot (with_slot t th n) x ≡ slot t x)
        go (yes e) = inl (e, rw e (slot_there s low))
        go (no d) = inr (slot_else x d)

    module _ (b : Bare t) (f : SlotFits t th n) where
      abbrev after : Table
      after = with_slot t th n

      -- a live thread is th, set now, or was live before and keeps its time
      lives : (x : ℕ) → x ∈ live after → ((x ≡ th) × (at after.time x ≡ t.clock)) ⊎ ((x ∈ live t) × (at after.time x ≡ at t.time x))
      lives x l = ⊎_elim
          (λ w. inl (w.0, ap (λ (m : Slot). m.time) w.1 ∙ f.fresh (sym (ap (λ (m : Slot). m.live) w.1) ∙ l)))
          (λ e. inr (sym (ap (λ (m : Slot). m.live) e) ∙ l, ap (λ (m : Slot). m.time) e))
          (slot_is x)

      -- no two live threads have the same time
      differ : (x y : ℕ) → x ∈ live after → y ∈ live after → at after.time x ≡ at after.time y → x ≡ y
      differ x y l m e = go (lives x l) (lives y m)
        where
          go : ((x ≡ th) × (at after.time x ≡ t.clock)) ⊎ ((x ∈ live t) × (at after.time x ≡ at t.time x)) →
              ((y ≡ th) × (at after.time y ≡ t.clock)) ⊎ ((y ∈ live t) × (at after.time y ≡ at t.time y)) → x ≡ y
          go (inl p) (inl q) = p.0 ∙ sym q.0
          go (inl p) (inr q) = absurd (omega (arith, e, p.1, q.1, b.times.below_clock y q.0))
          go (inr p) (inl q) = absurd (omega (arith, e, p.1, q.1, b.times.below_clock x p.0))
          go (inr p) (inr q) = b.times.different x y p.0 q.0 (sym p.1 ∙ e ∙ q.1)

      -- with such a slot, one event later, the rules hold still
      pub slot_bare : t.clock < 65535 → Bare (later (with_slot t th n))
      unfolding with_slot
      slot_bare early = record {
        clock = omega arith;
        priorities = λ x. ⊎_elim {C = at after.priority x ≤ 255} (λ w. omega (arith, ap (λ (m : Slot). m.priority) w.1, f.small)) (λ e. omega (arith, ap (λ (m : Slot). m.priority) e, b.priorities x)) (slot_is x);
        dead_slots = λ x d. ⊎_elim {C = slot after x ≡ dead_slot} (λ w. w.1 ∙ f.dead (λ l. d (ap (λ (m : Slot). m.live) w.1 ∙ l))) (λ e. e ∙ b.dead_slots x (λ l. d (ap (λ (m : Slot). m.live) e ∙ l))) (slot_is x);
        spare_places = b.spare_places;
        times = record {
          below_clock = λ x l. ⊎_elim {C = at after.time x < t.clock + 1} (λ w. omega (arith, w.1)) (λ w. omega (arith, w.1, b.times.below_clock x w.0)) (lives x l);
          different = differ;
        };
        queues_right = record {
          lengths = b.queues_right.lengths;
          live_entries = λ cs x i. ⊎_elim {C = at after.live x ≡ 1} (λ w. ap (λ (m : Slot). m.live) w.1 ∙ f.entries cs (rw w.0 at i)) (λ e. ap (λ (m : Slot). m.live) e ∙ b.queues_right.live_entries cs x i) (slot_is x);
          differ = b.queues_right.differ;
        };
        one_wait = b.one_wait;
        ways_end = b.ways_end;
      }

-- Create: th is live, with this priority, set now
pub create_fits : (t : Table) (th prio : ℕ) → prio ≤ 255 → SlotFits t th (fresh_slot prio t.clock)
create_fits t th prio small = record { small = small; fresh = λ e. refl; dead = λ n. absurd (n refl); entries = λ cs i. refl }

-- Set: th, which is live, has this priority, set now
pub set_fits : (t : Table) (th prio : ℕ) → prio ≤ 255 → th ∈ live t → SlotFits t th (set_slot (slot t th) prio t.clock)
set_fits t th prio small l = record { small = small; fresh = λ e. refl; dead = λ n. absurd (n l); entries = λ cs i. l }

-- Exit: th, which stands in no queue, is gone
pub exit_fits : (t : Table) (th : ℕ) → ((cs : ℕ) → ¬ (th ∈ set (queues t cs))) → SlotFits t th dead_slot
exit_fits t th out = record { small = omega arith; fresh = λ e. absurd (omega arith); dead = λ n. refl; entries = λ cs i. absurd (out cs i) }
