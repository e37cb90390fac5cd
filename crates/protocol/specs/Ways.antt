-- The way along the graph: from a thread to the resource it waits for, from a resource to its holder, and so on. Assumes nothing.
use Rattle.std.specs.Prelude.{ℕ, zero, suc}
use Rattle.protocol.specs.Events.{Thread, Resource}
use Rattle.protocol.specs.Graph.{Queues, Holds, Waits, RAG, Node, T, C}

-- from the node the way ends, and passes k holders
pub data Way (wq : Queues) : Node → ℕ → Type 0 where
  ends : {a : Node} → ((b : Node) → ¬ RAG wq a b) → Way wq a zero
  on_to_resource : {th : Thread} {cs : Resource} {k : ℕ} → Waits wq th cs → Way wq (C cs) k → Way wq (T th) k
  on_to_holder : {cs : Resource} {th : Thread} {k : ℕ} → Holds wq th cs → Way wq (T th) k → Way wq (C cs) (suc k)
