-- The numbers of the kinds and of the reasons for a refusal. Assumes nothing.
use Rattle.std.specs.Prelude.{ℕ, ◌≡◌, ◌⊎◌, ◌<◌, Result, Ok, Err, MatchResult}
use Rattle.refusals.specs.declared.kinds.Kind.{Kind}
use Rattle.refusals.specs.declared.kinds.Kind.TheVariants.{Create, Exit, Set, P, V}
use Rattle.refusals.specs.declared.reasons.Reason.{Reason}
use Rattle.refusals.specs.declared.reasons.Reason.TheVariants.{UnsoundTable, NoSuchKind, NoSuchThread, Malformed, ClockAtEnd, AlreadyLive, NotLive, NotRunning, ClosesCircle, DoesNotHold, StillHolds}

-- the number that a record has for a kind
abbrev pub kind_number : Kind → ℕ
kind_number Create = 1
kind_number Exit = 2
kind_number Set = 3
kind_number P = 4
kind_number V = 5

-- the number that an answer has for a reason
abbrev pub reason_number : Reason → ℕ
reason_number UnsoundTable = 1
reason_number NoSuchKind = 2
reason_number NoSuchThread = 3
reason_number Malformed = 4
reason_number ClockAtEnd = 5
reason_number AlreadyLive = 6
reason_number NotLive = 7
reason_number NotRunning = 8
reason_number ClosesCircle = 9
reason_number DoesNotHold = 10
reason_number StillHolds = 11

-- the result is the kind of this number, or the reason that no kind has it
abbrev pub NamesKind : ℕ → Result Kind Reason → Type 0
NamesKind number result = MatchResult result (λ kind. kind_number kind ≡ number) (λ reason. (reason ≡ NoSuchKind) × ((number ≡ 0) ⊎ (5 < number)))

-- 0 where nothing is refused, and otherwise the number of the reason
abbrev pub refusal_number : {T : Type 0} → Result T Reason → ℕ
refusal_number (Ok _) = 0
refusal_number (Err reason) = reason_number reason
