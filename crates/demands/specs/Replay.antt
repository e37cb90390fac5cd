-- Document 02, K6, "Read a log back": the call that does it, beside the kernel that keeps a log. Assumes nothing.
use Rattle.std.specs.Prelude.{ℕ, ◌*◌, ◌≤◌, ◌≡◌, ◌⊎◌, List, [], ◌∷◌, length, take}
use Rattle.protocol.specs.Events.{State}
use Rattle.table.specs.declared.Table.{Table}
use Rattle.event_log.specs.Card.{blocks_for}
use Rattle.replay.specs.declared.Replayed.{Replayed}
use Rattle.replay.specs.Read.{event_in, Reads, Gives}
use Rattle.demands.specs.Memory.{AnyTable}
use Rattle.demands.specs.Calls.{Calls}
use Rattle.demands.specs.Runs.{Call, event, AnyCalls, table_after}
use Rattle.demands.specs.Demand2.{After}
use Rattle.demands.specs.Kept.{AnyLog, LogCall, records, log_after}

-- a function in the place of the call: it takes what the lent log holds
abbrev pub ReplayCall : Type 0
ReplayCall = List ℕ → Replayed

-- the function does what the contract says, for any log
abbrev pub ReplayStated : ReplayCall → Type 0
ReplayStated p = (log : List ℕ) → AnyLog log → Gives log (p log)

-- Demand 1 of this call: it refuses with a number fixed beforehand, an event's or one of 14, 15 and 16. No table is lent to it, and refusal 1 never comes.
abbrev pub ReplayFixed : Replayed → Type 0
ReplayFixed r = (r.number ≡ 0) ⊎ (((2 ≤ r.number) × (r.number ≤ 11)) ⊎ ((14 ≤ r.number) × (r.number ≤ 16)))

-- the calls of a kernel that steps these records, the first of them first, after the calls ks
abbrev pub stepped : List Call → List (List ℕ) → List Call
stepped ks [] = ks
stepped ks (r ∷ rs) = stepped (event (event_in r) ∷ ks) rs

-- Demand 2 of what is read: the table is the one that the paper's definitions give for the records applied.
pub record ReadTold (c : Calls) (t : Table) (log : List ℕ) (r : Replayed) : Type 0 where
  -- the records applied, as many as the call says
  pub done : List (List ℕ)
  pub reads : Reads log done r.table r.number
  pub counted : r.records ≡ length done
  -- a kernel that steps them from the empty table on has them all accepted, and has the table read,
  pub accepted : records c t (stepped [] done) ≡ done
  pub table_is : table_after c t (stepped [] done) ≡ r.table
  -- and what demand 2 says is so of it
  pub state : State
  pub after : After c t (stepped [] done) state

-- Reading beside stepping and keeping:
pub record ReadBack (c : Calls) (k : LogCall) (p : ReplayCall) : Type 0 where
  -- "What K1 wrote from accepted events is read fully and gives the table those events led to." After any calls, whatever table and buffer the kernel began with, the blocks that the
  -- records need are read to their end, and give the kernel's own table.
  pub written : (t : Table) (fresh : List ℕ) (ks : List Call) → AnyTable t → AnyLog fresh → AnyCalls ks → 512 * blocks_for (length (records c t ks)) ≤ length fresh
      → p (take (512 * blocks_for (length (records c t ks))) (log_after c k t fresh ks)) ≡ record { table = table_after c t ks; records = length (records c t ks); number = 0 }
  -- and of any log demand 2 holds
  pub told : (t : Table) (log : List ℕ) → AnyTable t → AnyLog log → ReadTold c t log (p log)
