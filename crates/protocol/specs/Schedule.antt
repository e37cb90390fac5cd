-- Document 000, section 2: the waiting queues of a state (the paper's schs), and the notions of the graph for a state; who
-- is ready, who runs, and what a thread has locked. Assumes nothing.
use Rattle.std.specs.Prelude.{cond, List, [], ◌∷◌, ◌++◌, eqb}
use Rattle.std.proofs.Math.Option.{Option, none, some}
use Rattle.protocol.specs.Sets.{SetOf, ◌∈◌, Highest}
use Rattle.protocol.specs.Events.{Thread, Resource, Create, Exit, Set, P, «V», State, threads, Precedence, prec, ◌≼◌}
use Rattle.protocol.specs.Graph.{Queues, all_unlocked, Node, Holds as HoldsIn, Waits as WaitsIn, RAG as RAGOf, Cprec as CprecIn}

-- wq(cs := q): cs has the queue q, every other resource has the queue that it had
abbrev pub update : Queues → Resource → List Thread → Queues
update wq cs q = λ r. cond (eqb r cs) q (wq r)

-- the list without the first th in it; the others keep their order
abbrev pub without : Thread → List Thread → List Thread
without th [] = []
without th (x ∷ xs) = cond (eqb x th) xs (x ∷ without th xs)

-- release: the head goes, and the one that is named next, if any, becomes the head; the others keep their order
abbrev pub release : List Thread → Option Thread → List Thread
release [] next = []
release (_ ∷ qs) none = qs
release (_ ∷ qs) (some th) = th ∷ without th qs

-- wq: a P puts the thread at the end of the resource's queue, a V releases the queue, and no other event touches a queue
abbrev pub wq : State → Queues
wq [] = all_unlocked
wq (Create th prio ∷ s) = wq s
wq (Exit th ∷ s) = wq s
wq (Set th prio ∷ s) = wq s
wq (P th cs ∷ s) = update (wq s) cs (wq s cs ++ (th ∷ []))
wq («V» th cs next ∷ s) = update (wq s) cs (release (wq s cs) next)

-- the same notions for a state: those of its queues and its threads' own precedences
abbrev pub Holds : State → Thread → Resource → Type 0
Holds s = HoldsIn (wq s)

abbrev pub Waits : State → Thread → Resource → Type 0
Waits s = WaitsIn (wq s)

abbrev pub RAG : State → Node → Node → Type 0
RAG s = RAGOf (wq s)

abbrev pub Cprec : State → Thread → Precedence → Type 0
Cprec s = CprecIn (wq s) (λ th. prec th s)

-- ready: live, and waiting for nothing
abbrev pub ready : State → SetOf Thread
ready s = λ th. (th ∈ threads s) × ((cs : Resource) → ¬ Waits s th cs)

-- running: ready, and its current precedence is the highest of all ready threads
abbrev pub running : State → SetOf Thread
running s = Highest ◌≼◌ (Cprec s) (ready s)

-- resources: what th has locked
abbrev pub resources : State → Thread → SetOf Resource
resources s th = λ cs. Holds s th cs
