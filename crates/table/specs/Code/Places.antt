-- The places of the arrays, one by one. Assumes nothing.
use Rattle.std.specs.Prelude.{ℕ, ◌+◌, ◌*◌, ◌<◌, ◌≡◌, cond, List, eqb}
use Rattle.protocol.specs.Sets.{SetOf, only, ◌∪◌}
use Rattle.protocol.specs.Rank.{rank}
use Rattle.table.specs.Table.{at}

-- the precedence of a slot as a number; 0 for a slot that isn't live
abbrev pub slot_number : ℕ → ℕ → ℕ → ℕ
slot_number live priority time = cond (eqb live 1) (rank 65535 (priority, time)) 0

-- `all` has the numbers of these slots, whose priorities and times fit their types
abbrev pub NumbersOf : List ℕ → List ℕ → List ℕ → List ℕ → Type 0
NumbersOf live priority time all =
    ((th : ℕ) → th < 32 → at all th ≡ slot_number (at live th) (at priority th) (at time th)) × ((th : ℕ) → th < 32 → (at priority th < 256) × (at time th < 65536))

-- the entry at place i of the queue of r
abbrev pub entry : List ℕ → ℕ → ℕ → ℕ
entry queue r i = at queue (r * 32 + i)

-- the lengths of the first R queues, and 0
abbrev pub Lengths : List ℕ → ℕ → SetOf ℕ
Lengths lengths R = only 0 ∪ (λ a. (r : ℕ) × (r < R) × (a ≡ at lengths r))
