-- Document 000, section 2: events, states, and what a state says of its threads, up to the precedence. Assumes nothing.
use Rattle.std.specs.Prelude.{ℕ, ◌<◌, ◌≡◌, ◌⊎◌, cond, List, [], ◌∷◌, length, eqb}
use Rattle.std.proofs.Math.Option.{Option}
use Rattle.protocol.specs.Sets.{SetOf, ∅, only, ◌∪◌, ◌∖◌}

infix 4 ◌≼◌
-- threads, priorities and resources are natural numbers
abbrev pub Thread : Type 0
Thread = ℕ

abbrev pub Priority : Type 0
Priority = ℕ

abbrev pub Resource : Type 0
Resource = ℕ

-- An event is one whole step. A V also names who holds the resource next, if anyone: the paper lets any waiter follow.
pub data Event : Type 0 where
  Create : Thread → Priority → Event
  Exit : Thread → Event
  Set : Thread → Priority → Event
  P : Thread → Resource → Event
  «V» : Thread → Resource → Option Thread → Event

-- a state is the list of the events so far, the newest first
abbrev pub State : Type 0
State = List Event

-- threads: the live threads
abbrev pub threads : State → SetOf Thread
threads [] = ∅
threads (Create th prio ∷ s) = only th ∪ threads s
threads (Exit th ∷ s) = threads s ∖ only th
threads (Set th prio ∷ s) = threads s
threads (P th cs ∷ s) = threads s
threads («V» th cs next ∷ s) = threads s

-- priority: the one that the thread was last given, 0 before any
abbrev pub priority : Thread → State → Priority
priority th [] = 0
priority th (Create th' prio ∷ s) = cond (eqb th' th) prio (priority th s)
priority th (Exit th' ∷ s) = priority th s
priority th (Set th' prio ∷ s) = cond (eqb th' th) prio (priority th s)
priority th (P th' cs ∷ s) = priority th s
priority th («V» th' cs next ∷ s) = priority th s

-- last_set: the time at which it was given, 0 before any; an event's time is the number of events before it
abbrev pub last_set : Thread → State → ℕ
last_set th [] = 0
last_set th (Create th' prio ∷ s) = cond (eqb th' th) (length s) (last_set th s)
last_set th (Exit th' ∷ s) = last_set th s
last_set th (Set th' prio ∷ s) = cond (eqb th' th) (length s) (last_set th s)
last_set th (P th' cs ∷ s) = last_set th s
last_set th («V» th' cs next ∷ s) = last_set th s

-- a precedence is a pair: a priority and a time
abbrev pub Precedence : Type 0
Precedence = Priority × ℕ

-- prec: the thread's own precedence
abbrev pub prec : Thread → State → Precedence
prec th s = (priority th s, last_set th s)

-- p is higher than q: a higher priority is higher; of equal priorities, the earlier time is higher
abbrev pub Higher : Precedence → Precedence → Type 0
Higher p q = (q.0 < p.0) ⊎ ((p.0 ≡ q.0) × (p.1 < q.1))

-- p is at most q: it is q, or q is higher
abbrev pub ◌≼◌ : Precedence → Precedence → Type 0
p ≼ q = (p ≡ q) ⊎ Higher q p
