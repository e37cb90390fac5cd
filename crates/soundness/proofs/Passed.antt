-- The parts of the test together say that the table is sound, and what holds of a sound table. Assumes nothing.
use Prim.Native.Nat.{ℕ, ◌≤◌, ◌<◌}
use mathlib.Core.Path.{◌≡◌, ap, Σ_path}
use mathlib.Core.List.{List}
use mathlib.Core.Logic.{inl, inr, ⊎_elim}
use native.Mathlib.Decide.{ℕ_discrete, dec_lt}
use native.Mathlib.Omega.{arith}
use Rattle.protocol.specs.Sets.{◌∈◌}
use Rattle.protocol.specs.Events.{Precedence}
use Rattle.protocol.specs.Children.{children}
use Rattle.protocol.proofs.Chains.{Ends}
use Rattle.protocol.proofs.Ways.{every_way}
use Rattle.protocol.proofs.Current.{law_cprec}
use Rattle.protocol.proofs.Counting.{number_none}
use Rattle.protocol.proofs.Balance.{standing_balanced, balanced_standing}
use Rattle.table.specs.declared.Table.{Table}
use Rattle.table.specs.declared.Slot.{Slot}
use Rattle.table.specs.Table.{at, live, own, stored, queues}
use Rattle.table.specs.Sound.{TotalsRight, Bare, Sound}
use Rattle.table.specs.Compute.{holder}
use Rattle.table.specs.Code.Shape.{Shape, ZeroSlot}
use Rattle.table.proofs.Sound.Queues.{live_low}
use Rattle.table.proofs.Sound.Order.{zero_beyond, rows_orderly, sound_orderly, sound_law}
use Rattle.table.proofs.Sound.Read.{sound_good}
use Rattle.table.proofs.Values.Values.{bare_good}
use Rattle.slots.specs.Slots.{SlotRight, SlotsRight, TimesDiffer}
use Rattle.queues.specs.Queues.{RowsRight}
use Rattle.soundness.proofs.Bounded.{bounded}
use Rattle.soundness.proofs.Rules.{StandingTotal, bare_rows, rows_right, rows_one_queue}
use Rattle.soundness.proofs.Law.{Numbered, LawfulAt, law_numbers, dead_law}

-- what the parts of the test find, but for the law
pub record Passed (t : Table) : Type 0 where
  pub slots : SlotsRight t.clock t.live t.priority t.time t.current_priority t.current_time t.requests
  pub times : TimesDiffer t.live t.time
  pub rows : RowsRight t.rows.queue t.rows.length t.live 16
  pub ends : (th : ℕ) → th < 32 → Ends (children (queues t)) th
  pub totals : (th : ℕ) → th < 32 → StandingTotal t th

module _ (t : Table) (shape : Shape t) where
  passed_zero : Passed t → (th : ℕ) → ¬ (th ∈ live t) → ZeroSlot t th
  passed_zero p th n = go (dec_lt th 32)
    where
      -- with no requests there are no releases
      released : th < 32 → at t.requests th ≡ 0 → at t.releases th ≡ 0
      released h z = omega (arith, (p.totals th h).2.0, z)

      go : Dec (th < 32) → ZeroSlot t th
      go (yes h) = ⊎_elim (λ w. absurd (n w.0)) (λ w. (rw (w.0, w.1, w.2, w.5, released h w.5), Σ_path w.3 w.4)) (p.slots th h)
      go (no k) = zero_beyond t shape th (omega arith)

  -- what passes keeps the rules,
  pub passed_bare : t.clock ≤ 65535 → ((th : ℕ) → at t.priority th ≤ 255) → Passed t → Bare t
  passed_bare clock priorities p = record {
    clock = clock;
    priorities = priorities;
    dead_slots = λ th n. (passed_zero p th n).0;
    spare_places = p.rows.spare_zero;
    times = record {
      below_clock = λ th l. ⊎_elim {C = at t.time th < t.clock} (λ (w : (at t.live th ≡ 1) × (at t.time th < t.clock)). w.1) (λ w. absurd (omega (arith, w.0))) (p.slots th (live_low t shape th l));
      different = λ x y l m e. p.times x y (live_low t shape x l) (live_low t shape y m) l m e;
    };
    queues_right = rows_right t shape p.rows;
    one_wait = rows_one_queue t shape p.rows;
    ways_end = every_way (queues t) (rows_orderly t shape (rows_right t shape p.rows) (rows_one_queue t shape p.rows) p.ends).forest.ends;
  }

  -- those on the totals too,
  passed_totals : Passed t → TotalsRight t
  passed_totals p = record {
    balance = λ th l. let w = p.totals th (live_low t shape th l) in standing_balanced (rows_one_queue t shape p.rows) w.1 w.2.0;
    low = λ th. (bounded t.requests 32 t.clock shape.requests_size (λ x h. (p.totals x h).2.1) th, bounded t.releases 32 t.clock shape.releases_size (λ x h. omega (arith, (p.totals x h).2.0, (p.totals x h).2.1)) th);
  }

  -- and what is sound passes
  pub sound_passed : Sound t → Passed t
  sound_passed s = record {
    slots = λ th h. slot th (ℕ_discrete (at t.live th) 1);
    times = λ x y h k l m e. s.bare.times.different x y l m e;
    rows = bare_rows t shape s.bare;
    ends = λ th h. (sound_orderly t shape s).forest.ends th;
    totals = λ th h. total th (ℕ_discrete (at t.live th) 1);
  }
    where
      -- a dead thread stands in no queue
      total : (th : ℕ) → Dec (th ∈ live t) → StandingTotal t th
      total th (yes l) = let w = balanced_standing s.bare.one_wait (s.totals.balance th l) in (w.0, w.1, (w.2, (s.totals.low th).0))
      total th (no n) = let z = s.bare.dead_slots th n in
          (0, number_none (λ cs i. n (s.bare.queues_right.live_entries cs th i)), (omega (arith, ap (λ (e : Slot). e.requests) z, ap (λ (e : Slot). e.releases) z), (s.totals.low th).0))

      slot : (th : ℕ) → Dec (th ∈ live t) → SlotRight t.clock (at t.live th) (at t.priority th) (at t.time th) (at t.current_priority th) (at t.current_time th) (at t.requests th)
      slot th (yes l) = inl (l, s.bare.times.below_clock th l)
      slot th (no n) = let z = s.bare.dead_slots th n in let y = s.dead_stored th n in
          inr (ap (λ (e : Slot). e.live) z, ap (λ (e : Slot). e.priority) z, ap (λ (e : Slot). e.time) z, ap (λ (e : Precedence). e.0) y, ap (λ (e : Precedence). e.1) y, ap (λ (e : Slot). e.requests) z)

  module _ (holders : List ℕ) (right : (cs : ℕ) → cs < 16 → at holders cs ≡ holder t cs) {owns currents : List ℕ} (numbered : Numbered t owns currents) where
    -- where the numbers are right by the law too, it is sound,
    pub passed_sound : (b : Bare t) → Passed t → ((th : ℕ) → th < 32 → LawfulAt t holders owns currents th) → Sound t
    passed_sound b p law = let g = bare_good t shape b in record {
      bare = b;
      dead_stored = λ th n. (passed_zero p th n).1;
      current = law_cprec g.order (own t) (stored t) (λ th l. (law_numbers t g holders right numbered th l).1 (law th (live_low t shape th l)));
      totals = passed_totals p;
    }

    -- and where it is sound, they are
    pub sound_lawful : (s : Sound t) → (th : ℕ) → th < 32 → LawfulAt t holders owns currents th
    sound_lawful s th h = go (ℕ_discrete (at t.live th) 1)
      where
        go : Dec (th ∈ live t) → LawfulAt t holders owns currents th
        go (yes l) = (law_numbers t (sound_good t shape s) holders right numbered th l).0 (sound_law t shape s th l)
        go (no n) = dead_law t (sound_good t shape s) holders right numbered th h n
