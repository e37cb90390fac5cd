-- The slots, one by one. Assumes nothing.
use Rattle.std.specs.Prelude.{ℕ, ◌+◌, ◌≤◌, ◌<◌, ◌≡◌, ◌≢◌, ◌⊎◌, List}
use Rattle.table.specs.Table.{at}

-- a live slot's time is below the clock; a dead slot is zero (that its releases are follows from the balance, see below)
abbrev pub SlotRight : ℕ → ℕ → ℕ → ℕ → ℕ → ℕ → ℕ → Type 0
SlotRight clock live priority time cp ct requests = ((live ≡ 1) × (time < clock)) ⊎ ((live ≡ 0) × (priority ≡ 0) × (time ≡ 0) × (cp ≡ 0) × (ct ≡ 0) × (requests ≡ 0))

-- all slots are right
abbrev pub SlotsRight : ℕ → List ℕ → List ℕ → List ℕ → List ℕ → List ℕ → List ℕ → Type 0
SlotsRight clock live priority time cp ct requests = (th : ℕ) → th < 32 → SlotRight clock (at live th) (at priority th) (at time th) (at cp th) (at ct th) (at requests th)

-- the totals of a thread that stands in so many queues, holding or waiting: requests equal releases plus these, and are not above the clock
abbrev pub AddsUp : ℕ → ℕ → ℕ → ℕ → Type 0
AddsUp clock requests releases standing = (requests ≡ releases + standing) × (requests ≤ clock)

-- all totals are right
abbrev pub AllAddUp : ℕ → List ℕ → List ℕ → List ℕ → Type 0
AllAddUp clock requests releases standing = (th : ℕ) → th < 32 → AddsUp clock (at requests th) (at releases th) (at standing th)

-- the times of live threads are all different
abbrev pub TimesDiffer : List ℕ → List ℕ → Type 0
TimesDiffer live time = (x y : ℕ) → x < 32 → y < 32 → at live x ≡ 1 → at live y ≡ 1 → at time x ≡ at time y → x ≡ y

-- among the first n another live thread has the time of i
abbrev pub TimeTaken : List ℕ → List ℕ → ℕ → ℕ → Type 0
TimeTaken live time n i = (j : ℕ) × (j < n) × (j ≢ i) × (at live j ≡ 1) × (at time j ≡ at time i)
