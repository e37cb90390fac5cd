-- After the start and before any later event: each fixed task is live with its priority and set at the time that is its id, nobody waits, and each one's precedence, own and current, is above those of all
-- after it. Assumes nothing.
use Prim.Native.Nat.{ℕ, ◌<◌}
use mathlib.Core.Path.{◌≡◌, refl, sym, ap, subst}
use mathlib.Core.Bool.{◌&&◌}
use mathlib.Core.Logic.{◌⊎◌, inl, inr}
use mathlib.Core.List.{[]}
use native.Mathlib.Omega.{arith}
use lib.Dec.{eqb}
use Rattle.protocol.specs.Events.{Thread, Resource, Precedence, Higher}
use Rattle.protocol.specs.Graph.{Queues, RAG, T, C, ◌⁺, edge, then, Cprec}
use Rattle.table.specs.declared.Table.{Table}
use Rattle.table.specs.declared.Slot.{Slot}
use Rattle.table.specs.Table as table
use Rattle.table.specs.Table.{at, slot, own, stored, queues}
use Rattle.table.specs.Slots.{fresh_slot}
use Rattle.table.specs.Compute.{all_below}
use Rattle.table.proofs.Sound.Empty.{zeros}
use Rattle.table.proofs.Tests.Reflect.{tells_eq, tells_both, tells_below}
use Rattle.locks.specs.declared.Done.{Done}
use Rattle.terminal.specs.Tasks.{priorities}
use Rattle.terminal.specs.Start.{started, first_table}
use Rattle.terminal.proofs.Falling.{priorities_fall}
use Rattle.terminal.proofs.Started.{started_is}

-- the table that a shipment starts with, in numbers
pub table_is : started.table ≡ first_table
table_is = ap (λ (d : Done). d.table) started_is

-- at each of the first sixteen places: live, the task's priority, and its id for the time, as own and as current precedence
in_place : (id : ℕ) → id < 16 → (at first_table.live id ≡ 1) × ((at first_table.priority id ≡ at priorities id) × (at first_table.time id ≡ id))
unfolding all_below
in_place = (tells_below 16 (λ id. eqb (at first_table.live id) 1 && (eqb (at first_table.priority id) (at priorities id) && eqb (at first_table.time id) id)) _
    (λ id h. tells_both (tells_eq (at first_table.live id) 1) (tells_both (tells_eq (at first_table.priority id) (at priorities id)) (tells_eq (at first_table.time id) id)))).0 refl

-- clock 16, thread 0 running
pub clock_is : started.table.clock ≡ 16
clock_is = ap (λ (t : Table). t.clock) table_is

pub draw_runs : started.answer.running ≡ 0
draw_runs = ap (λ (d : Done). d.answer.running) started_is

-- each fixed task is live with its priority and set at the time that is its id
pub fixed_slot : (id : Thread) → id < 16 → slot started.table id ≡ fresh_slot (at priorities id) id
fixed_slot id h = rw (table_is, (in_place id h).0, (in_place id h).1.0, (in_place id h).1.1, zeros 32 id)

pub fixed_own : (id : Thread) → id < 16 → own started.table id ≡ (at priorities id, id)
fixed_own id h = ap (λ (s : Slot). (s.priority, s.time)) (fixed_slot id h)

-- and its current precedence is its own
pub fixed_stored : (id : Thread) → id < 16 → stored started.table id ≡ (at priorities id, id)
fixed_stored id h = rw (table_is, (in_place id h).1.0, (in_place id h).1.1)

-- no resource is taken
pub no_queue : (cs : Resource) → queues started.table cs ≡ []
no_queue cs = rw (table_is, zeros 16 cs)

-- where no resource is taken nobody waits, so a current precedence is the thread's own
pub own_alone : (wq : Queues) → ((cs : Resource) → wq cs ≡ []) → (prec : Thread → Precedence) (th : Thread) (m : Precedence) → Cprec wq prec th m → m ≡ prec th
own_alone wq free prec th m k = go k.among
  where
    no_way : {u : Thread} → ¬ (RAG wq ⁺) (T u) (T th)
    no_way (edge x) = x
    no_way (then {b = T v} x w) = x
    no_way (then {b = C cs} x w) = rw (free cs) at x.0

    go : (m ≡ prec th) ⊎ ((u : Thread) × (RAG wq ⁺) (T u) (T th) × (m ≡ prec u)) → m ≡ prec th
    go (inl e) = e
    go (inr w) = absurd (no_way w.1)

-- precedences that equal others are above each other as these are
pub above_as : {p q p' q' : Precedence} → p ≡ p' → q ≡ q' → Higher p' q' → Higher p q
above_as {q = q} {p' = p'} e f h = subst (λ (x : Precedence). Higher x q) (sym e) (subst (λ (y : Precedence). Higher p' y) (sym f) h)

module _ (i j : Thread) (earlier : i < j) (fixed : j < 16) where
  -- a higher priority is a higher precedence
  pub above : Higher (at priorities i, i) (at priorities j, j)
  above = inl (priorities_fall i j earlier fixed)

  pub own_falls : Higher (own started.table i) (own started.table j)
  own_falls = above_as (fixed_own i (omega arith)) (fixed_own j fixed) above

  pub current_falls : (m n : Precedence) → table.Cprec started.table i m → table.Cprec started.table j n → Higher m n
  current_falls m n a b = above_as (own_alone (queues started.table) no_queue (own started.table) i m a) (own_alone (queues started.table) no_queue (own started.table) j n b) own_falls
