-- The queues of a table that keeps the rules are in good order, and what follows of a sound one. Assumes nothing.
use Prim.Native.Nat.{ℕ, zero, ◌≤◌, ◌<◌}
use mathlib.Core.Path.{◌≡◌, ap, Σ_path}
use mathlib.Core.Logic.{inl, inr}
use native.Mathlib.Decide.{ℕ_discrete, dec_lt}
use native.Mathlib.Omega.{arith}
use Rattle.protocol.specs.Sets.{◌∈◌, only, ◌∪◌, image, images}
use Rattle.protocol.specs.Events.{Thread, Precedence, ◌≼◌}
use Rattle.protocol.specs.Graph.{T}
use Rattle.protocol.specs.Children.{children, LocalLaw}
use Rattle.protocol.proofs.Order.{≼_total}
use Rattle.protocol.proofs.Highest.{max_unique, max_map}
use Rattle.protocol.proofs.Chains.{stop, Ends}
use Rattle.protocol.proofs.Ways.{way_climb}
use Rattle.protocol.proofs.Current.{Orderly, child_live, local_cprec}
use Rattle.protocol.proofs.Runner.{running_unique, running_some}
use Rattle.table.specs.declared.Table.{Table}
use Rattle.table.specs.declared.Slot.{Slot}
use Rattle.table.specs.Table.{at, live, own, stored, queues, Cprec, running}
use Rattle.table.specs.Sound.{QueuesRight, Bare, Sound}
use Rattle.table.proofs.Arrays.Bounds.{beyond}
use Rattle.table.specs.Code.Shape.{Shape, ZeroSlot}
use Rattle.table.proofs.Sound.Queues.{live_low, taken_low, in_queue, OneQueue}

-- beyond the arrays every slot is zero
pub zero_beyond : (t : Table) → Shape t → (th : ℕ) → 32 ≤ th → ZeroSlot t th
zero_beyond t shape th h = (
  rw (beyond t.live th (omega arith), beyond t.priority th (omega arith), beyond t.time th (omega arith), beyond t.requests th (omega arith), beyond t.releases th (omega arith)),
  Σ_path (beyond t.current_priority th (omega arith)) (beyond t.current_time th (omega arith)),
)

-- a set time is below the clock's limit, and at most that in a dead slot
module _ {t : Table} (b : Bare t) where
  pub time_low : (th : ℕ) → th ∈ live t → at t.time th < 65535
  time_low th l = omega (arith, b.times.below_clock th l, b.clock)

  pub time_fits : (th : ℕ) → at t.time th ≤ 65535
  time_fits th = go (ℕ_discrete (at t.live th) 1)
    where
      go : Dec (th ∈ live t) → at t.time th ≤ 65535
      go (yes l) = omega (arith, time_low th l)
      go (no n) = omega (arith, ap (λ (s : Slot). s.time) (b.dead_slots th n))

  -- own precedences of live threads differ
  pub owns_differ : (x y : ℕ) → x ∈ live t → y ∈ live t → own t x ≡ own t y → x ≡ y
  owns_differ x y l m e = b.times.different x y l m (ap (λ (p : Precedence). p.1) e)

module _ (t : Table) (shape : Shape t) where
  -- queues that are right, and from whose threads the way ends, are in good order
  pub rows_orderly : QueuesRight t → OneQueue t → ((th : ℕ) → th < 32 → Ends (children (queues t)) th) → Orderly (queues t) (live t)
  rows_orderly right one ends = record {
    forest = record { once = right.differ; one_wait = one; ends = λ th. go th (dec_lt th 32) };
    entries = right.live_entries;
    decided = λ th. ℕ_discrete (at t.live th) 1;
    limit = 32;
    thread_low = live_low t shape;
    taken_low = λ r x i. let w = (in_queue t shape right.lengths r x).0 i in omega (arith, taken_low t shape r w.0 w.1);
  }
    where
      go : (th : ℕ) → Dec (th < 32) → Ends (children (queues t)) th
      go th (yes h) = ends th h
      go th (no n) = (zero, stop (λ v k. n (live_low t shape th (right.live_entries k.0 th k.1.0))))

  pub bare_orderly : Bare t → Orderly (queues t) (live t)
  bare_orderly b = rows_orderly b.queues_right b.one_wait (λ th h. ((b.ways_end (T th)).0, way_climb (queues t) (b.ways_end (T th)).1))

  pub sound_orderly : Sound t → Orderly (queues t) (live t)
  sound_orderly s = bare_orderly s.bare

  -- in a sound table the stored precedences satisfy the local law
  pub sound_law : Sound t → (th : ℕ) → th ∈ live t → LocalLaw (queues t) (own t) (stored t) th (stored t th)
  sound_law s th l = max_map ◌≼◌ ≼_total to from ((local_cprec (sound_orderly s) (own t) th (stored t th)).0 (s.current th l))
    where
      is : (u : ℕ) → u ∈ children (queues t) th → Cprec t u (stored t u)
      is u k = s.current u (child_live (sound_orderly s) u th k)

      to : (a : Precedence) → a ∈ (only (own t th) ∪ images (Cprec t) (children (queues t) th)) → a ∈ (only (own t th) ∪ image (stored t) (children (queues t) th))
      to a (inl e) = inl e
      to a (inr (u, k, c)) = inr (u, k, max_unique ◌≼◌ ≼_total c (is u k))

      from : (a : Precedence) → a ∈ (only (own t th) ∪ image (stored t) (children (queues t) th)) → a ∈ (only (own t th) ∪ images (Cprec t) (children (queues t) th))
      from a (inl e) = inl e
      from a (inr (u, k, e)) = inr (u, k, rw e (is u k))

  -- in a sound table the running thread is unique
  pub sound_one_runs : Sound t → (th₁ th₂ : Thread) → th₁ ∈ running t → th₂ ∈ running t → th₁ ≡ th₂
  sound_one_runs s = running_unique (sound_orderly s) (own t) (owns_differ s.bare)

  -- and there is one whenever anyone is live
  pub sound_some_runs : Sound t → (th : Thread) → th ∈ live t → (th' : Thread) × (th' ∈ running t)
  sound_some_runs s = running_some (sound_orderly s) (own t)
