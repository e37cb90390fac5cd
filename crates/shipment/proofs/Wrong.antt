-- What the contracts of the terminal's calls rule out. Assumes nothing.
use Rattle.std.specs.Prelude.{Option}
use Prim.Native.Nat.{ℕ, ◌≤◌}
use mathlib.Core.Path.{◌≡◌, refl, ap}
use mathlib.Core.Logic.{◌≢◌}
use native.Mathlib.Omega.{arith}
use Rattle.protocol.specs.Events.{Priority}
use Rattle.table.specs.declared.Table.{Table}
use Rattle.table.specs.declared.Slot.{Slot}
use Rattle.table.specs.Table.{at, empty}
use Rattle.locks.specs.declared.Answer.{Answer}
use Rattle.terminal.specs.Start.{first_table}
use Rattle.terminal.specs.Spare.{priority_of}
use Rattle.demands.specs.Memory.{AnyTable}
use Rattle.demands.specs.Calls.{Left}
use Rattle.demands.proofs.InMemory.{right_any}
use Rattle.demands.proofs.Reached.{start_reached}
use Rattle.shipment.specs.Calls.{Terminal, adds, AnyWanted, AsTold}
use Rattle.shipment.specs.Fixed as fixed
use Rattle.shipment.specs.Fixed.{SpareFixed}
use Rattle.shipment.proofs.Fixed.{demand_1_since}

-- an answer but 1 and 17 is for a spare task's id
in_range : {t : Table} {id : ℕ} {w : Option Priority} {l : Left Answer} → SpareFixed t id w l → l.answer.number ≢ 1 → l.answer.number ≢ 17 → (16 ≤ id) × (id ≤ 31)
in_range (fixed.SpareFixed.not_sound _) n m = absurd (n refl)
in_range (fixed.SpareFixed.not_spare _ _ _) n m = absurd (m refl)
in_range (fixed.SpareFixed.clock_ended _ h _ _) n m = h
in_range (fixed.SpareFixed.live_already _ h _ _ _) n m = h
in_range (fixed.SpareFixed.added _ h _ _ _ _ _ _) n m = h

-- who is added has the priority wanted
has_priority : {t : Table} {id : ℕ} {w : Option Priority} {l : Left Answer} → SpareFixed t id w l → l.answer.number ≡ 0 → at l.table.priority id ≡ priority_of w
has_priority (fixed.SpareFixed.not_sound _) z = absurd (omega arith)
has_priority (fixed.SpareFixed.not_spare _ _ _) z = absurd (omega arith)
has_priority (fixed.SpareFixed.clock_ended _ _ _ _) z = absurd (omega arith)
has_priority (fixed.SpareFixed.live_already _ _ _ _ _) z = absurd (omega arith)
has_priority (fixed.SpareFixed.added _ _ _ _ new _ _ _) z = ap (λ (s : Slot). s.priority) new

module _ (k : Terminal) where
  -- a start on the empty table; what it is lent is not looked at
  start_leaves : AsTold k → (k.start empty).table ≡ first_table
  start_leaves told = ap (λ (l : Left Answer). l.table) ((demand_1_since k told).start empty (right_any empty start_reached.right))

  -- A start that exchanges the priorities of tasks 1 and 2 does not do what the contract says,
  pub not_exchanged : at (k.start empty).table.priority 1 ≡ 190 → ¬ AsTold k
  not_exchanged q told = absurd (omega (arith, q, ap (λ (u : Table). at u.priority 1) (start_leaves told)))

  -- nor one that stops at fifteen,
  pub not_fifteen : (k.start empty).table.clock ≡ 15 → ¬ AsTold k
  not_fifteen q told = absurd (omega (arith, q, ap (λ (u : Table). u.clock) (start_leaves told)))

  module _ (t : Table) (memory : AnyTable t) (id : ℕ) (w : Option Priority) (h : id ≤ 255) (bytes : AnyWanted w) where
    -- nor does one that answers anything but 1 and 17 to an id that is no spare task's: one that adds a task at id 15, refuses it with 6 where that is live, or refuses 32 with Create's 3,
    pub not_let_through : ¬ ((16 ≤ id) × (id ≤ 31)) → (adds k t id w).answer.number ≢ 1 → (adds k t id w).answer.number ≢ 17 → ¬ AsTold k
    not_let_through outside n m told = outside (in_range ((demand_1_since k told).spare t id w memory h bytes) n m)

    -- or that gives a task another priority than the one wanted.
    pub not_another : (adds k t id w).answer.number ≡ 0 → at (adds k t id w).table.priority id ≢ priority_of w → ¬ AsTold k
    not_another z other told = other (has_priority ((demand_1_since k told).spare t id w memory h bytes) z)
