-- Demand 3: the words that it uses. Assumes nothing.
use Rattle.std.specs.Prelude.{ℕ, ◌+◌, ◌≤◌, ◌⊎◌, ◌≢◌, Bool, cond, not, List, [], ◌∷◌, ◌++◌, eqb}
use Rattle.protocol.specs.Sets.{SetOf}
use Rattle.protocol.specs.Events.{Thread, Priority, Resource, Event, Create, Exit, Set, P, «V», State}
use Rattle.protocol.specs.Schedule.{Holds, Waits}

-- A moment is a state. `Moment s s' m`: after the moment s the events s' happened (the newest first), and m is a moment from
-- s up to now: now, or one from before the newest event.
pub data Moment (s : State) : List Event → State → Type 0 where
  now : {s' : List Event} → Moment s s' (s' ++ s)
  before : {e : Event} {s' : List Event} {m : State} → Moment s s' m → Moment s (e ∷ s') m

-- th holds or waits for a resource
abbrev pub HoldsOrWaits : State → Thread → Type 0
HoldsOrWaits s th = ((cs : Resource) × Holds s th cs) ⊎ ((cs : Resource) × Waits s th cs)

-- the event spares th, of priority prio: it neither sets th anew nor ends it, and it creates no thread with, and sets none
-- to, a priority above prio
abbrev pub Spares : Thread → Priority → Event → Type 0
Spares th prio (Create th' prio') = prio' ≤ prio
Spares th prio (Exit th') = th' ≢ th
Spares th prio (Set th' prio') = (th' ≢ th) × (prio' ≤ prio)
Spares th prio (P th' cs) = Unit {0}
Spares th prio («V» th' cs next) = Unit {0}

-- how many of the events are calls of threads that pass the test: an Exit, Set, P or V is a call of the (first) thread that it names. A Create is nobody's call, since anyone may cause it.
abbrev pub calls_by : (Thread → Bool) → List Event → ℕ
calls_by test [] = 0
calls_by test (Create th prio ∷ es) = calls_by test es
calls_by test (Exit th ∷ es) = cond (test th) 1 0 + calls_by test es
calls_by test (Set th prio ∷ es) = cond (test th) 1 0 + calls_by test es
calls_by test (P th cs ∷ es) = cond (test th) 1 0 + calls_by test es
calls_by test («V» th cs next ∷ es) = cond (test th) 1 0 + calls_by test es

-- how many of them are calls of th
abbrev pub calls : Thread → List Event → ℕ
calls th = calls_by (λ u. eqb u th)

-- how many of them are calls of other threads than th
abbrev pub calls_of_others : Thread → List Event → ℕ
calls_of_others th = calls_by (λ u. not (eqb u th))

-- the others that hold or wait at the moment s
abbrev pub others : State → Thread → SetOf Thread
others s th = λ u. (u ≢ th) × HoldsOrWaits s u

-- `Until u s s' es`: of the events s' that happened after the moment s, es are those until u first neither holds nor waits,
-- the event that brings this about included, or all so far if that has not come. So the newest event counts if at every
-- moment before it u held or waited; once u did neither, no further event counts.
pub data Until (u : Thread) (s : State) : List Event → List Event → Type 0 where
  none_yet : Until u s [] []
  so_far : {e : Event} {s' : List Event} → ((m : State) → Moment s s' m → HoldsOrWaits m u) → Until u s (e ∷ s') (e ∷ s')
  over : {e : Event} {s' es : List Event} {m : State} → Moment s s' m → ¬ HoldsOrWaits m u → Until u s s' es → Until u s (e ∷ s') es
