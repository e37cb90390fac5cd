-- Document 000, section 4: what is said of the states before and after an event. Assumes nothing.
use Rattle.std.specs.Prelude.{◌≡◌, ◌↔◌}
use Rattle.protocol.specs.Events.{Thread, State, Precedence}
use Rattle.protocol.specs.Graph.{Node}
use Rattle.protocol.specs.Schedule.{Cprec}

-- {(a, b)}: the one edge from a to b
abbrev pub Edge : Node → Node → Node → Node → Type 0
Edge a b = λ x y. (x ≡ a) × (y ≡ b)

-- two graphs have the same edges
abbrev pub SameEdges : (Node → Node → Type 0) → (Node → Node → Type 0) → Type 0
SameEdges R Q = (x y : Node) → R x y ↔ Q x y

-- th has the same current precedence in both states
abbrev pub SameCprec : State → State → Thread → Type 0
SameCprec s s' th = (m : Precedence) → Cprec s th m ↔ Cprec s' th m
