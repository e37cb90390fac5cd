-- The table in which every live slot's current precedence is the defined one. Assumes nothing.
use Prim.Native.Nat.{ℕ, ◌<◌}
use mathlib.Core.Path.{◌≡◌, sym, ap, subst, ◌∙◌, Σ_path}
use mathlib.Core.List.{List}
use native.Mathlib.Decide.{ℕ_discrete, dec_lt}
use native.Mathlib.Omega.{arith}
use lib.ListN.{length}
use lib.Seq.{ext_get_or}
use Rattle.protocol.specs.Sets.{◌∈◌}
use Rattle.protocol.specs.Events.{Precedence}
use Rattle.table.specs.declared.Table.{Table}
use Rattle.table.specs.Table.{at, live, stored, Cprec}
use Rattle.table.specs.Sound.{TotalsRight, Sound}
use Rattle.table.specs.Code.Shape.{Shape}
use Rattle.table.specs.Compute.{waits_for, current, runner}
use Rattle.table.proofs.Arrays.Bounds.{beyond}
use Rattle.table.proofs.Sound.Queues.{live_low}
use Rattle.table.proofs.Sound.Read.{if_live, if_dead}
use Rattle.events.specs.Events.{settled}
use Rattle.events.specs.Code.Work.{with_current}
use Rattle.table.proofs.Values.Values.{Good, current_defined}
use Rattle.events.proofs.Kept.Tabulate.{tabulate_length, tabulate_at}
use Rattle.events.proofs.Kept.Unstored.{waits_for_unstored, current_unstored, runner_unstored}

-- the arrays have their sizes
pub settled_shape : (t : Table) → Shape t → Shape (settled t)
unfolding settled
settled_shape t s = record {
  live_size = s.live_size;
  priority_size = s.priority_size;
  time_size = s.time_size;
  current_priority_size = tabulate_length 32 _;
  current_time_size = tabulate_length 32 _;
  queue_size = s.queue_size;
  length_size = s.length_size;
  requests_size = s.requests_size;
  releases_size = s.releases_size;
}

-- a live thread's stored current precedence is the one that is worked out
pub settled_live : (t : Table) (th : ℕ) → Shape t → th ∈ live t → stored (settled t) th ≡ current t th
unfolding settled
settled_live t th s l = Σ_path (tabulate_at 32 _ th low ∙ if_live t th (current t th).0 l) (tabulate_at 32 _ th low ∙ if_live t th (current t th).1 l)
  where
    low : th < 32
    low = live_low t s th l

-- a dead slot's is zero
pub settled_dead : (t : Table) (th : ℕ) → Shape t → ¬ (th ∈ live t) → stored (settled t) th ≡ (0, 0)
unfolding settled
settled_dead t th s n = go (dec_lt th 32)
  where
    go : Dec (th < 32) → stored (settled t) th ≡ (0, 0)
    go (yes h) = Σ_path (tabulate_at 32 _ th h ∙ if_dead t th (current t th).0 n) (tabulate_at 32 _ th h ∙ if_dead t th (current t th).1 n)
    go (no g) = Σ_path (beyond (settled t).current_priority th (omega (arith, (settled_shape t s).current_priority_size))) (beyond (settled t).current_time th (omega (arith, (settled_shape t s).current_time_size)))

-- with the defined current precedences stored, the table is sound
pub settled_sound : (t : Table) → Good t → TotalsRight t → Sound (settled t)
unfolding settled
settled_sound t g totals = record {
  bare = record {
    clock = g.bare.clock;
    priorities = g.bare.priorities;
    dead_slots = g.bare.dead_slots;
    spare_places = g.bare.spare_places;
    times = record { below_clock = g.bare.times.below_clock; different = g.bare.times.different };
    queues_right = record { lengths = g.bare.queues_right.lengths; live_entries = g.bare.queues_right.live_entries; differ = g.bare.queues_right.differ };
    one_wait = g.bare.one_wait;
    ways_end = g.bare.ways_end;
  };
  dead_stored = λ th n. settled_dead t th g.shape n;
  current = λ th l. subst (Cprec t th) (sym (settled_live t th g.shape l)) (current_defined t g th);
  totals = record { balance = totals.balance; low = totals.low };
}

-- two arrays of 32 precedences that agree at every thread are the same
same_arrays : (cp ct dp dt : List ℕ) → length cp ≡ 32 → length ct ≡ 32 → length dp ≡ 32 → length dt ≡ 32 → ((th : ℕ) → th < 32 → ◌≡◌ {A = Precedence} (at cp th, at ct th) (at dp th, at dt th)) → (cp ≡ dp) × (ct ≡ dt)
same_arrays cp ct dp dt a b c d e = (
  ext_get_or 0 cp dp (a ∙ sym c) (λ i h. ap (λ (p : Precedence). p.0) (e i (omega arith))),
  ext_get_or 0 ct dt (b ∙ sym d) (λ i h. ap (λ (p : Precedence). p.1) (e i (omega arith))),
)

-- a table that stores the defined current precedences, and zeros in its dead slots, is that one
pub settles : (t : Table) → Shape t → (cp ct : List ℕ) → length cp ≡ 32 → length ct ≡ 32 →
    ((th : ℕ) → th < 32 → th ∈ live t → (at cp th, at ct th) ≡ current t th) →
    ((th : ℕ) → th < 32 → ¬ (th ∈ live t) → (at cp th ≡ 0) × (at ct th ≡ 0)) → with_current t cp ct ≡ settled t
unfolding settled
settles t s cp ct a c alive dead = rw (is.0, is.1)
  where
    here : (th : ℕ) → th < 32 → Dec (th ∈ live t) → (at cp th, at ct th) ≡ stored (settled t) th
    here th h (yes l) = alive th h l ∙ sym (settled_live t th s l)
    here th h (no n) = let z = dead th h n in Σ_path z.0 z.1 ∙ sym (settled_dead t th s n)

    is : (cp ≡ (settled t).current_priority) × (ct ≡ (settled t).current_time)
    is = same_arrays cp ct (settled t).current_priority (settled t).current_time a c (settled_shape t s).current_priority_size (settled_shape t s).current_time_size (λ th h. here th h (ℕ_discrete (at t.live th) 1))

-- nothing that is worked out changes
pub settled_waits_for : (t : Table) (th : ℕ) → waits_for (settled t) th ≡ waits_for t th
unfolding settled
settled_waits_for t th = waits_for_unstored t _ _ th

pub settled_current : (t : Table) (th : ℕ) → current (settled t) th ≡ current t th
unfolding settled
settled_current t th = current_unstored t _ _ th

pub settled_runner : (t : Table) → runner (settled t) ≡ runner t
unfolding settled
settled_runner t = runner_unstored t _ _
