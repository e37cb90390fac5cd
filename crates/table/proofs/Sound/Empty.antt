-- The empty table is sound. Assumes nothing.
use Prim.Native.Nat.{ℕ, zero, suc, ◌+◌, ◌*◌}
use mathlib.Core.Path.{◌≡◌, refl}
use mathlib.Core.List.{[]}
use native.Mathlib.Omega.{arith}
use lib.ListN.{replicate}
use Rattle.protocol.specs.Sets.{◌∈◌, set}
use Rattle.protocol.proofs.Chains.{stop}
use Rattle.protocol.proofs.Ways.{every_way}
use Rattle.table.specs.Table.{at, empty, live, queues}
use Rattle.table.specs.Sound.{Sound}

-- an array of zeros has zeros
pub zeros : (n i : ℕ) → at (replicate n 0) i ≡ 0
zeros zero i = refl
zeros (suc n) zero = refl
zeros (suc n) (suc i) = zeros n i

-- nobody is live in it
pub nobody : (th : ℕ) → ¬ (th ∈ live empty)
nobody th l = omega (arith, zeros 32 th)

-- and every queue is empty
pub no_queue : (cs : ℕ) → queues empty cs ≡ []
no_queue cs = rw (zeros 16 cs)

no_entry : (cs th : ℕ) → ¬ (th ∈ set (queues empty cs))
no_entry cs th i = rw (no_queue cs) at i

pub empty_sound : Sound empty
empty_sound = record {
  bare = record {
    clock = omega arith;
    priorities = λ th. omega (arith, zeros 32 th);
    dead_slots = λ th n. rw (zeros 32 th);
    spare_places = λ cs i h k l. zeros 512 (cs * 32 + i);
    times = record { below_clock = λ th l. absurd (nobody th l); different = λ x y l m e. absurd (nobody x l) };
    queues_right = record { lengths = λ cs. omega (arith, zeros 16 cs); live_entries = λ cs th i. absurd (no_entry cs th i); differ = λ cs. rw (no_queue cs) tt };
    one_wait = λ th cs₁ cs₂ w v. absurd (no_entry cs₁ th w.0);
    ways_end = every_way (queues empty) (λ th. (zero, stop (λ h k. no_entry k.0 th k.1.0)));
  };
  dead_stored = λ th n. rw (zeros 32 th);
  current = λ th l. absurd (nobody th l);
  totals = record { balance = λ th l. absurd (nobody th l); low = λ th. (omega (arith, zeros 32 th), omega (arith, zeros 32 th)) };
}
