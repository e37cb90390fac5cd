-- A state has finitely many threads and taken resources, so that each question about them is decided. Assumes nothing.
use Prim.Native.Nat.{ℕ, suc, ◌<◌, max}
use mathlib.Core.Path.{refl}
use mathlib.Core.Option.{Option}
use mathlib.Core.List.{List, [], ◌∷◌, ◌++◌}
use mathlib.Core.Logic.Dec
use mathlib.Core.Logic.{inl, inr, ⊎_elim}
use native.Mathlib.Decide.{ℕ_discrete, map_dec}
use native.Mathlib.Omega.{arith}
use Rattle.protocol.specs.Sets.{◌∈◌, set}
use Rattle.protocol.specs.Events.{Create, Exit, Set, P, «V», State, threads}
use Rattle.protocol.specs.Schedule.{wq, release}
use Rattle.protocol.specs.Rules.{Valid}
use Rattle.protocol.specs.Demand3.{HoldsOrWaits}
use Rattle.protocol.proofs.Decide.{dec_either, dec_some}
use Rattle.protocol.proofs.Lists.{dec_in, in_cases, update_cases}
use Rattle.protocol.proofs.Kept.{Kept, valid_kept}
use Rattle.protocol.proofs.Current.{Orderly}

-- above every live thread and every taken resource
pub size : State → ℕ
size [] = 0
size (Create th prio ∷ s) = max (suc th) (size s)
size (Exit th ∷ s) = size s
size (Set th prio ∷ s) = size s
size (P th cs ∷ s) = max (suc cs) (size s)
size («V» th cs next ∷ s) = size s

pub live_below : (s : State) (t : ℕ) → t ∈ threads s → t < size s
unfolding size
live_below [] t l = absurd l
live_below (Create th prio ∷ s) t (inl e) = omega arith
live_below (Create th prio ∷ s) t (inr l) = omega (arith, live_below s t l)
live_below (Exit th ∷ s) t l = live_below s t l.0
live_below (Set th prio ∷ s) t l = live_below s t l
live_below (P th cs ∷ s) t l = omega (arith, live_below s t l)
live_below («V» th cs next ∷ s) t l = live_below s t l

-- where someone stands after a release, someone stood before
released_some : (q : List ℕ) (next : Option ℕ) (t : ℕ) → t ∈ set (release q next) → (x : ℕ) × (x ∈ set q)
released_some [] next t i = absurd i
released_some (x ∷ xs) next t i = (x, inl refl)

pub taken_below : (s : State) (r t : ℕ) → t ∈ set (wq s r) → r < size s
unfolding size
taken_below [] r t i = absurd i
taken_below (Create th prio ∷ s) r t i = omega (arith, taken_below s r t i)
taken_below (Exit th ∷ s) r t i = taken_below s r t i
taken_below (Set th prio ∷ s) r t i = taken_below s r t i
taken_below (P th cs ∷ s) r t i = update_cases (wq s) cs (wq s cs ++ (th ∷ [])) (λ x q. t ∈ set q → x < max (suc cs) (size s)) (λ j. omega arith) (λ x n j. omega (arith, taken_below s x t j)) r i
taken_below («V» th cs next ∷ s) r t i = update_cases (wq s) cs (release (wq s cs) next) (λ x q. t ∈ set q → x < size s) (λ j. let w = released_some (wq s cs) next t j in taken_below s cs w.0 w.1) (λ x n j. taken_below s x t j) r i

pub dec_live : (s : State) (t : ℕ) → Dec (t ∈ threads s)
dec_live [] t = no (λ b. b)
dec_live (Create th prio ∷ s) t = dec_either (ℕ_discrete t th) (dec_live s t)
dec_live (Exit th ∷ s) t = Dec.and (dec_live s t) (Dec.not (ℕ_discrete t th))
dec_live (Set th prio ∷ s) t = dec_live s t
dec_live (P th cs ∷ s) t = dec_live s t
dec_live («V» th cs next ∷ s) t = dec_live s t

-- the queues of a state that keeps its order are in good order, and so are those of a valid state
pub orderly : (s : State) → Kept s → Orderly (wq s) (threads s)
orderly s kept = record { forest = kept.forest; entries = kept.entries; decided = dec_live s; limit = size s; thread_low = live_below s; taken_low = taken_below s }

pub valid_orderly : (s : State) → Valid s → Orderly (wq s) (threads s)
valid_orderly s v = orderly s (valid_kept s v)

-- to hold or wait is to stand in a queue
pub in_attached : (s : State) (t r : ℕ) → t ∈ set (wq s r) → HoldsOrWaits s t
in_attached s t r i = ⊎_elim (λ h. inl (r, h)) (λ w. inr (r, w)) (in_cases (wq s r) t i)

pub attached_in : (s : State) (t : ℕ) → HoldsOrWaits s t → (r : ℕ) × (t ∈ set (wq s r))
attached_in s t (inl h) = (h.0, h.1.0)
attached_in s t (inr w) = (w.0, w.1.0)

pub dec_attached : (s : State) (t : ℕ) → Dec (HoldsOrWaits s t)
dec_attached s t = map_dec (λ w. in_attached s t w.0 w.1) (attached_in s t) (dec_some (λ r. t ∈ set (wq s r)) (λ r. dec_in t (wq s r)) (size s) (λ r. taken_below s r t))
