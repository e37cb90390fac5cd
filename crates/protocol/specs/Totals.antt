-- Document 02, K2: "Count requests and releases". The totals of a state, and their balance. Assumes nothing.
use Rattle.std.specs.Prelude.{ℕ, ◌+◌, ◌≡◌, cond, [], ◌∷◌, eqb}
use Rattle.protocol.specs.Sets.{Number}
use Rattle.protocol.specs.Events.{Thread, Resource, Create, Exit, Set, P, «V», State}
use Rattle.protocol.specs.Graph.{Queues, Holds, Waits}

-- requests: the accepted P of the thread since its last Create
abbrev pub requests : Thread → State → ℕ
requests th [] = 0
requests th (Create th' prio ∷ s) = cond (eqb th' th) 0 (requests th s)
requests th (Exit th' ∷ s) = requests th s
requests th (Set th' prio ∷ s) = requests th s
requests th (P th' cs ∷ s) = cond (eqb th' th) 1 0 + requests th s
requests th («V» th' cs next ∷ s) = requests th s

-- releases: the accepted V of the thread since its last Create
abbrev pub releases : Thread → State → ℕ
releases th [] = 0
releases th (Create th' prio ∷ s) = cond (eqb th' th) 0 (releases th s)
releases th (Exit th' ∷ s) = releases th s
releases th (Set th' prio ∷ s) = releases th s
releases th (P th' cs ∷ s) = releases th s
releases th («V» th' cs next ∷ s) = cond (eqb th' th) 1 0 + releases th s

-- The balance of any two totals of th, for any waiting queues: "requests equal releases plus resources held, plus 1 if the thread waits". `held` is how many it holds.
pub data Balanced (wq : Queues) (th : Thread) (requests releases : ℕ) : Type 0 where
  at_rest : {held : ℕ} → Number (Holds wq th) held → ((cs : Resource) → ¬ Waits wq th cs) → requests ≡ releases + held → Balanced wq th requests releases
  waiting : {held : ℕ} (cs : Resource) → Number (Holds wq th) held → Waits wq th cs → requests ≡ releases + held + 1 → Balanced wq th requests releases
