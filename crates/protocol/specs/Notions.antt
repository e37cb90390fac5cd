-- Document 000, sections 2 to 4: notions of a state that its lemmas speak of and the demands do not. Assumes nothing.
use Rattle.protocol.specs.Sets.{SetOf}
use Rattle.protocol.specs.Events.{Thread, Resource, State}
use Rattle.protocol.specs.Graph.{dependants as dependants_in}
use Rattle.protocol.specs.Schedule.{wq, Holds, Waits}

-- dependants: those of its queues
abbrev pub dependants : State → Thread → SetOf Thread
dependants s = dependants_in (wq s)

-- detached: th neither holds nor waits for a resource
abbrev pub Detached : State → Thread → Type 0
Detached s th = (¬ ((cs : Resource) × Holds s th cs)) × (¬ ((cs : Resource) × Waits s th cs))
