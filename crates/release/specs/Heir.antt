-- Who follows at a V, as the code finds it, in numbers. Assumes nothing.
use Rattle.std.specs.Prelude.{ℕ, ◌≤◌, ◌<◌, List, Option, MatchOption}
use Rattle.std.specs.declared.option.Option.TheVariants.{Some, None}
use Rattle.std.proofs.Math.Option as paper
use Rattle.protocol.specs.Sets.{Max}
use Rattle.protocol.specs.Events.{Thread}
use Rattle.table.specs.Table.{at}
use Rattle.table.specs.Code.Places.{entry}
use Rattle.chains.specs.Law.{WaitersNumbers}
use Rattle.release.specs.declared.heir.Next.{Next}

-- who stands in the queue of r at the place of whoever follows, if anybody does
abbrev pub next_at : List ℕ → ℕ → Option Next → paper.Option Thread
next_at queue r None = paper.none
next_at queue r (Some x) = paper.some (entry queue r x.place)

-- a place behind the head of the queue of r, and the greatest number of those who wait there
pub record GreatestBehind (queue lengths numbers : List ℕ) (r : ℕ) (x : Next) : Type 0 where
  pub behind : 1 ≤ x.place
  pub within : x.place < at lengths r
  pub greatest : Max ◌≤◌ (WaitersNumbers queue numbers r (at lengths r)) x.number

-- what a V may count on, whoever follows; where nobody does, that the queue of r isn't empty
abbrev pub NextRight : List ℕ → List ℕ → List ℕ → ℕ → Option Next → Type 0
NextRight queue lengths numbers r next = MatchOption next (0 < at lengths r) (GreatestBehind queue lengths numbers r)
