-- An example of the totals, to be worked out on paper. Assumes nothing.
use mathlib.Core.Path.{◌≡◌, refl}
use mathlib.Core.Option.{none, some}
use mathlib.Core.List.{[], ◌∷◌}
use Rattle.protocol.specs.Events.{Create, Exit, P, «V», State}
use Rattle.protocol.specs.Totals.{requests, releases}

-- Thread 0 requests the resources 0 and 1, thread 1 waits for 0, and thread 0 releases 1.
abbrev pub s : State
s = «V» 0 1 none ∷ P 1 0 ∷ Create 1 5 ∷ P 0 1 ∷ P 0 0 ∷ Create 0 1 ∷ []

-- thread 0 still holds one of the two
pub holder : (requests 0 s ≡ 2) × (releases 0 s ≡ 1)
holder = (refl, refl)

-- thread 1 holds nothing, and waits
pub waiter : (requests 1 s ≡ 1) × (releases 1 s ≡ 0)
waiter = (refl, refl)

-- Then thread 0 releases 0 to thread 1, which releases it too and exits,
abbrev pub s' : State
s' = Exit 1 ∷ «V» 1 0 none ∷ «V» 0 0 (some 1) ∷ s

-- with the totals that it had,
pub ended : (requests 1 s' ≡ 1) × (releases 1 s' ≡ 1)
ended = (refl, refl)

-- and with none when it is created anew, while thread 0 keeps its own
pub anew : (requests 1 (Create 1 5 ∷ s') ≡ 0) × (releases 1 (Create 1 5 ∷ s') ≡ 0) × (requests 0 (Create 1 5 ∷ s') ≡ 2) × (releases 0 (Create 1 5 ∷ s') ≡ 2)
anew = (refl, refl, refl, refl)
