-- The numbers that the local law compares, place by place. Assumes nothing.
use Rattle.std.specs.Prelude.{ℕ, ◌≤◌, ◌<◌, ◌≡◌, cond, List, leb}
use Rattle.protocol.specs.Sets.{SetOf, only, ◌∪◌}
use Rattle.table.specs.Table.{at}
use Rattle.table.specs.Code.Places.{entry}

-- how many entries a queue of this length has; a length above 32 is not right, and counts as none
abbrev pub entries_of : ℕ → ℕ
entries_of n = cond (leb n 32) n 0

-- the numbers of the waiters among the first n places of the queue of r
abbrev pub WaitersNumbers : List ℕ → List ℕ → ℕ → ℕ → SetOf ℕ
WaitersNumbers queue current r n = λ a. (i : ℕ) × (1 ≤ i) × (i < n) × (a ≡ at current (entry queue r i))

-- the numbers that working t out afresh compares: its own and those of its direct waiters at the first R resources
abbrev pub Compared : List ℕ → List ℕ → List ℕ → List ℕ → ℕ → ℕ → ℕ → SetOf ℕ
Compared queue lengths holders current R own t =
    only own ∪ (λ a. (r i : ℕ) × (r < R) × (1 ≤ i) × (i < entries_of (at lengths r)) × (at holders r ≡ t) × (a ≡ at current (entry queue r i)))
