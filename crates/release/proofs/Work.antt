-- V: the arrays that it leaves are those of the table after the event. Assumes nothing.
use Prim.Native.Nat.{ℕ, ◌*◌, ◌-◌, ◌≤◌, ◌<◌}
use mathlib.Core.Path.{◌≡◌, refl, sym, ap, ◌∙◌}
use mathlib.Core.Option.{Option, none, some}
use mathlib.Core.List.{List, [], ◌∷◌}
use mathlib.Core.Logic.{inl}
use native.Mathlib.Omega.{arith}
use lib.ListN.{length, set}
use Rattle.protocol.specs.Sets.{Distinct, Max}
use Rattle.protocol.specs.Events.{«V»}
use Rattle.protocol.specs.Schedule.{release as leave}
use Rattle.protocol.proofs.Lists.{Holding, Waiting, behind_waiting}
use Rattle.table.specs.declared.Table.{Table}
use Rattle.table.specs.Table.{at, queues}
use Rattle.table.specs.Compute.{first_or_32}
use Rattle.table.specs.Code.Places.{entry}
use Rattle.table.specs.Code.Tracks.{Tracks, Sized, Known}
use Rattle.table.proofs.Sound.Queues.{holds_first}
use Rattle.table.proofs.Sound.Read.{queue_length}
use Rattle.table.proofs.Values.Known.{known_good}
use Rattle.chains.specs.Law.{WaitersNumbers, Compared}
use Rattle.events.specs.Events.{with_queue, changed}
use Rattle.events.specs.Count.{count, release_count}
use Rattle.events.specs.Code.Permits.{Permits}
use Rattle.events.specs.Code.Rows.{Row, rewritten}
use Rattle.events.specs.Code.Work.{DoneWith}
use Rattle.events.proofs.Queues.Written.{row_is, emptied}
use Rattle.events.proofs.Kept.Queues.{release_passes, release_low}
use Rattle.release.proofs.Shift.{handed_length}
use Rattle.release.proofs.Passed.{release_head, left, passed_on, waits_passed, dead_passed, law_passed, holders_passed, numbers_passed}
use Rattle.release.proofs.Successor.{waiters_numbers, followed}

-- a queue that th holds and in which nobody waits is th alone
alone : (q : List ℕ) (th : ℕ) → Distinct q → Holding q th → ((x : ℕ) → ¬ Waiting q x) → q ≡ th ∷ []
alone [] th d h idle = absurd h.0
alone (x ∷ []) th d h idle = rw h.1
alone (x ∷ (y ∷ ys)) th d h idle = absurd (idle y (behind_waiting x (y ∷ ys) y d (inl refl)))

-- the row of a queue of one entry, once that is gone
emptied_row : (xs : List ℕ) (r : ℕ) → Row xs r 1 → set xs (r * 32) 0 ≡ rewritten xs (r * 32) []
emptied_row xs r w = row_is xs (r * 32) [] (omega (arith, w.size, w.resource)) (omega arith) (set xs (r * 32) 0) (emptied xs (r * 32) (omega (arith, w.size, w.resource)) w.spare)

module _ (t : Table) {waiting holders owns currents : List ℕ} (k : Known t waiting holders owns currents) (early : t.clock < 65535) where
  -- the row that is written anew
  pub row : {th cs : ℕ} {next : Option ℕ} → Permits t («V» th cs next) → Row t.rows.queue cs (at t.rows.length cs)
  row {th} {cs} v = record {
    size = k.shape.queue_size;
    resource = release_low t (known_good t k) v;
    some = ((holds_first t k.shape k.sound.bare.queues_right.lengths th cs).0 (release_head v)).0;
    short = k.sound.bare.queues_right.lengths cs;
    differ = k.sound.bare.queues_right.differ cs;
    spare = λ i a b. k.sound.bare.spare_places cs i (release_low t (known_good t k) v) a b;
  }

  -- nobody follows
  module _ {th cs : ℕ} (v : Permits t («V» th cs none)) where
    only_th : queues t cs ≡ th ∷ []
    only_th = alone (queues t cs) th (k.sound.bare.queues_right.differ cs) (release_head v) (release_passes t (known_good t k) v).follows

    nothing_left : left t k early v ≡ []
    nothing_left = ap (λ (q : List ℕ). leave q none) only_th

    -- the thread's was the only entry
    pub last_one : at t.rows.length cs ≡ 1
    last_one = sym (queue_length t (known_good t k) cs (release_low t (known_good t k) v)) ∙ ap length only_th

    nobody : (x : ℕ) → ¬ Holding (left t k early v) x
    nobody x h = rw nothing_left at h.0

    vacated_tracks : Sized waiting holders currents → Tracks (passed_on t k early v) waiting (set holders cs 32) currents
    unfolding first_or_32
    vacated_tracks sized = record {
      waits_right = λ x h. waits_passed t k early v x h (nobody x);
      holders_right = holders_passed t k early v sized.holders_size 32 (ap first_or_32 (sym nothing_left));
      currents_right = numbers_passed t k early v currents (λ y l. law_passed t k early v y l (nobody y) (λ h. (release_passes t (known_good t k) v).follows)) (dead_passed t k early v);
    }

    pub vacated : Sized waiting holders currents → DoneWith t («V» th cs none) (set t.rows.queue (cs * 32) 0) (set t.rows.length cs (at t.rows.length cs - 1)) (set holders cs 32) waiting currents 0
    unfolding changed with_queue count release_count
    vacated sized = record {
      queue_is = emptied_row t.rows.queue cs (rw last_one at (row v)) ∙ ap (rewritten t.rows.queue (cs * 32)) (sym nothing_left);
      lengths_are = ap (set t.rows.length cs) (omega (arith, last_one, ap length nothing_left));
      tracks = vacated_tracks sized;
      counted = refl;
    }

  -- who stands at place p follows
  module _ {th cs : ℕ} (p : ℕ) (v : Permits t («V» th cs (some (entry t.rows.queue cs p)))) (behind : 1 ≤ p) (within : p < at t.rows.length cs) where
    -- that is b
    abbrev b : ℕ
    b = entry t.rows.queue cs p

    -- the places and the lengths afterwards
    abbrev places_left : List ℕ
    places_left = rewritten t.rows.queue (cs * 32) (leave (queues t cs) (some b))

    abbrev lengths_left : List ℕ
    lengths_left = set t.rows.length cs (at t.rows.length cs - 1)

    shorter : length (leave (queues t cs) (some b)) ≡ at t.rows.length cs - 1
    shorter = handed_length t.rows.queue cs p (at t.rows.length cs) (row v) behind within

    pub handed_on : Sized waiting holders currents → (first : ℕ) → Max ◌≤◌ (Compared places_left lengths_left (set holders cs b) currents 16 (at owns th) th) first →
        (m : ℕ) → Max ◌≤◌ (WaitersNumbers t.rows.queue currents cs (at t.rows.length cs)) m → DoneWith t («V» th cs (some b)) places_left lengths_left (set holders cs b) (set waiting b 16) (set (set currents th first) b m) 2
    unfolding changed with_queue count release_count
    handed_on sized first first-is m top = record {
      queue_is = refl;
      lengths_are = ap (set t.rows.length cs) (sym shorter);
      tracks = followed t k early v sized first (rw (← shorter) at first-is) m (waiters_numbers t k early v m top);
      counted = refl;
    }
