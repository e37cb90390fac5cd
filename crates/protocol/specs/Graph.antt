-- Document 000, section 2: waiting queues, the resource allocation graph, dependants and the current precedence, for any
-- waiting queues and any own precedences. Assumes nothing.
use Rattle.std.specs.Prelude.{List, []}
use Rattle.protocol.specs.Sets.{SetOf, ◌∈◌, only, ◌∪◌, image, set, hd, Max}
use Rattle.protocol.specs.Events.{Thread, Resource, Precedence, ◌≼◌}

infixl 90 ◌⁺
-- for each resource, the list of the threads that hold it (the first) or wait for it (the others)
abbrev pub Queues : Type 0
Queues = Resource → List Thread

-- holds: th stands in the resource's queue, as its head
abbrev pub Holds : Queues → Thread → Resource → Type 0
Holds wq th cs = (th ∈ set (wq cs)) × (th ∈ hd (wq cs))

-- waits: th stands in the resource's queue, and not as its head
abbrev pub Waits : Queues → Thread → Resource → Type 0
Waits wq th cs = (th ∈ set (wq cs)) × ¬ (th ∈ hd (wq cs))

-- (1): at the beginning every queue is empty
abbrev pub all_unlocked : Queues
all_unlocked = λ cs. []

-- the graph's nodes: threads and resources
pub data Node : Type 0 where
  T : Thread → Node
  C : Resource → Node

-- RAG: an edge from a thread to each resource it waits for, and from a resource to each thread that holds it; no other
abbrev pub RAG : Queues → Node → Node → Type 0
RAG wq (T th) (C cs) = Waits wq th cs
RAG wq (C cs) (T th) = Holds wq th cs
RAG wq (T th) (T th') = ⊥
RAG wq (C cs) (C cs') = ⊥

-- the transitive closure: a way along one edge or more
pub data ◌⁺ (R : Node → Node → Type 0) : Node → Node → Type 0 where
  edge : {a b : Node} → R a b → (R ⁺) a b
  then : {a b c : Node} → R a b → (R ⁺) b c → (R ⁺) a c

-- dependants: all from whom a way leads to th
abbrev pub dependants : Queues → Thread → SetOf Thread
dependants wq th = λ th'. (RAG wq ⁺) (T th') (T th)

-- (2), cprec: m is the highest own precedence among th and its dependants
abbrev pub Cprec : Queues → (Thread → Precedence) → Thread → Precedence → Type 0
Cprec wq prec th m = Max ◌≼◌ (only (prec th) ∪ image prec (dependants wq th)) m
