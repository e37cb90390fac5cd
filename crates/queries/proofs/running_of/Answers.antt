-- `queries::running_of` meets its contract. Assumes nothing.
use mathlib.Core.Path.{◌∙◌}
use Rattle.table.proofs.Sound.Typed.{typed_shape}
use Rattle.table.proofs.Values.Known.{known_good}
use Rattle.table.proofs.Values.Runs.{tracked_runner}
use Rattle.soundness.proofs.Found.{found_sound, found_unsound}
use Rattle.refusals.specs.Refusals.{unsound, lowest}
use Rattle.queries.specs.Queries.{running_refusals, running_answer}
use Rattle.queries.proofs.running_of.Goals as goal

pub returns-in-Some : goal.returns-in-Some
unfolding unsound running_refusals running_answer lowest
returns-in-Some c =
    let t = c.args.t in
    let known = c.in-Some.ensures in
    rw (found_sound t known, c.running.ensures ∙ tracked_runner t (known_good t known) known.tracks)

-- a table by value has the sizes of its arrays by its type
pub returns-in-None : goal.returns-in-None
unfolding unsound running_refusals running_answer lowest
returns-in-None c = rw (c.from.ensures, found_unsound _ (typed_shape _ c.well_formed.0) c.in-None.ensures)
