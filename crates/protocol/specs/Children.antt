-- Document 000, section 4: the children of a thread, and the local law that Lemma 4 states. Assumes nothing.
use Rattle.protocol.specs.Sets.{SetOf, only, ◌∪◌, image, Max}
use Rattle.protocol.specs.Events.{Thread, Resource, Precedence, ◌≼◌}
use Rattle.protocol.specs.Graph.{Queues, RAG, T, C}

-- children: those one hop away, who wait for what th holds
abbrev pub children : Queues → Thread → SetOf Thread
children wq th = λ th'. (cs : Resource) × RAG wq (T th') (C cs) × RAG wq (C cs) (T th)

-- The local law, for any values c: m is the highest of th's own precedence and its children's values. To work th out
-- afresh is to give it that m.
abbrev pub LocalLaw : Queues → (Thread → Precedence) → (Thread → Precedence) → Thread → Precedence → Type 0
LocalLaw wq prec c th m = Max ◌≼◌ (only (prec th) ∪ image c (children wq th)) m
