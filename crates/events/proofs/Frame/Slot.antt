-- One slot was written: the others keep their numbers, and each thread waits for what it did. Assumes nothing.
use Prim.Native.Nat.{ℕ, ◌≤◌, ◌<◌}
use mathlib.Core.Path.{◌≡◌, refl, sym, ap, subst, ◌∙◌}
use mathlib.Core.List.{List}
use mathlib.Core.Logic.{◌≢◌, inr, by_cases}
use native.Mathlib.Decide.{ℕ_discrete}
use native.Mathlib.Omega.{arith}
use lib.ListN.{length, set}
use lib.Seq.{get_or-set_same, get_or-set_other}
use Rattle.protocol.specs.Sets.{◌∈◌, only, ◌∪◌, image, set as members, Max}
use Rattle.protocol.specs.Rank.{rank}
use Rattle.protocol.proofs.Walk.{local_cong}
use Rattle.protocol.proofs.Ways.{waits_free}
use Rattle.table.specs.declared.Table.{Table}
use Rattle.table.specs.declared.Slot.{Slot}
use Rattle.table.specs.Table.{at, slot, live, queues, Waits}
use Rattle.table.specs.Compute.{holder, is_waiting, waits_for}
use Rattle.table.specs.Code.Tracks.{Tracks, Known}
use Rattle.table.proofs.Values.Values.{Good, hops, own_rank, Lawful, worth, all_worth, walk_ends}
use Rattle.table.proofs.Values.Known.{known_good, known_lawful, known_dead, worths_tracked}
use Rattle.chains.specs.Law.{Compared}
use Rattle.chains.proofs.law.Children.{set_afresh}
use Rattle.events.specs.Events.{later, with_slot}
use Rattle.events.proofs.Kept.Slots.{SlotFits, slot_there, slot_else}
use Rattle.events.proofs.Kept.Stays.{slot_good}

-- Before: t, which was found sound. After, one event later: th has the slot n.
module _ (t : Table) {waiting holders owns currents : List ℕ} (k : Known t waiting holders owns currents) (early : t.clock < 65535) (th : ℕ) (low : th < 32) (n : Slot) (fits : SlotFits t th n) where
  abbrev pub after : Table
  after = later (with_slot t th n)

  pub after_good : Good after
  after_good = slot_good t (known_good t k) early th n low fits

  -- th's slot is n, another one is as it was
  pub there : slot after th ≡ n
  there = slot_there t th n k.shape low

  else : (y : ℕ) → y ≢ th → slot after y ≡ slot t y
  else = slot_else t th n

  -- and its number satisfies the law still
  pub others_lawful : (y : ℕ) → y ∈ live after → y ≢ th → Lawful after after_good (at currents) y
  unfolding with_slot
  others_lawful y i d = subst (λ (o : ℕ). Max ◌≤◌ (only o ∪ image (at currents) (hops t (known_good t k) y)) (at currents y)) (ap (λ (m : Slot). rank 65535 (m.priority, m.time)) (sym (else y d)))
      (known_lawful t k y (sym (ap (λ (m : Slot). m.live) (else y d)) ∙ i))

  -- nobody joins or leaves a queue
  waits_same : (x : ℕ) → x < 32 → at waiting x ≡ waits_for after x
  unfolding with_slot waits_for is_waiting holder
  waits_same x h = k.tracks.waits_right x h

  pub holders_same : (r : ℕ) → r < 16 → at holders r ≡ holder after r
  unfolding with_slot holder
  holders_same r h = k.tracks.holders_right r h

  -- the slots that aren't live have zero, th included if it isn't
  dead_same : (v : ℕ) → length currents ≡ 32 → (n.live ≢ 1 → v ≡ 0) → (x : ℕ) → x < 32 → ¬ (x ∈ live after) → at (set currents th v) x ≡ 0
  dead_same v s z x h d = by_cases (ℕ_discrete x th)
      (λ e. rw e (get_or-set_same currents th v 0 (omega arith) ∙ z (λ l. d (rw e (ap (λ (m : Slot). m.live) there ∙ l)))))
      (λ e. get_or-set_other currents th x v 0 e ∙ known_dead t k x h (λ i. d (ap (λ (m : Slot). m.live) (else x e) ∙ i)))

  tracked : (v : ℕ) → length currents ≡ 32 → (n.live ≢ 1 → v ≡ 0) → ((y : ℕ) → y ∈ live after → at (set currents th v) y ≡ worth after after_good y) → Tracks after waiting holders (set currents th v)
  tracked v s z alive = record {
    waits_right = waits_same;
    holders_right = holders_same;
    currents_right = worths_tracked after after_good (set currents th v) alive (dead_same v s z);
  }

  -- th is live and waits for nothing: it is worked out alone
  pub set_tracked : (v : ℕ) → length currents ≡ 32 → n.live ≡ 1 → ((r : ℕ) → ¬ Waits t th r) → Max ◌≤◌ (Compared t.rows.queue t.rows.length holders currents 16 (rank 65535 (n.priority, n.time)) th) v →
      Tracks after waiting holders (set currents th v)
  unfolding with_slot
  set_tracked v s l idle max = tracked v s (λ d. absurd (d l)) (walk_ends after after_good (at currents) (at currents) (at (set currents th v)) th
      (record { here = alive; others = others_lawful; above = λ y r. refl })
      (set_afresh after after_good holders holders_same currents (rank 65535 (n.priority, n.time)) th low v (ap (λ (m : Slot). rank 65535 (m.priority, m.time)) (sym there)) s max)
      (inr (waits_free (queues t) th idle)))
    where
      alive : th ∈ live after
      alive = ap (λ (m : Slot). m.live) there ∙ l

  -- th is dead and stands in no queue: nobody's number depends on it
  pub dead_tracked : length currents ≡ 32 → n.live ≢ 1 → ((r : ℕ) → ¬ (th ∈ members (queues t r))) → Tracks after waiting holders (set currents th 0)
  unfolding with_slot
  dead_tracked s d out = tracked 0 s (λ _. refl) (all_worth after after_good (at (set currents th 0)) (λ y i. lawful y i (λ e. d (sym (ap (λ (m : Slot). m.live) there) ∙ rw e at i))))
    where
      lawful : (y : ℕ) → y ∈ live after → y ≢ th → Lawful after after_good (at (set currents th 0)) y
      lawful y i m = rw (get_or-set_other currents th y 0 0 m) (local_cong ◌≤◌ (hops after after_good) (own_rank after after_good) (at currents) (at (set currents th 0)) y (at currents y)
          (λ u c. get_or-set_other currents th u 0 0 (λ e. out c.0 (rw e at c.1.0))) (others_lawful y i m))
