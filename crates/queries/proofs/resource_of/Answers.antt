-- `queries::resource_of` meets its contract. Assumes nothing.
use Prim.Native.Nat.{◌-◌, ◌<◌}
use mathlib.Core.Path.{◌≡◌, sym, ◌∙◌}
use native.Mathlib.Omega.{arith}
use borrow.Author.Tests.{lt-ltb, le-ltb}
use Rattle.table.specs.Table.{at}
use Rattle.table.proofs.Sound.Typed.{typed_shape}
use Rattle.table.proofs.Values.Known.{known_good}
use Rattle.soundness.proofs.Found.{found_sound, found_unsound}
use Rattle.refusals.specs.Refusals.{unsound, lowest}
use Rattle.queries.specs.Queries.{resource_refusals, resource_told, resource_answer}
use Rattle.queries.proofs.Told.{waiters_are}
use Rattle.queries.proofs.resource_of.Goals as goal

-- a table by value has the sizes of its arrays by its type
pub returns-in_default : goal.returns-in_default
unfolding unsound resource_refusals resource_told resource_answer lowest
returns-in_default c = c.refused.ensures ∙ rw (found_unsound _ (typed_shape _ c.well_formed.0) c.in_default.ensures)

pub returns-then-r-ge-RESOURCES : goal.returns-then-r-ge-RESOURCES
unfolding unsound resource_refusals resource_told resource_answer lowest
returns-then-r-ge-RESOURCES c =
    c.refused-then-r-ge-RESOURCES.ensures ∙ rw (found_sound _ c.in-Some.ensures, lt-ltb 15 c.args.resource (omega (arith, c.from-r.ensures, c.if-r-ge-RESOURCES.true)))

pub returns : goal.returns
unfolding unsound resource_refusals resource_told resource_answer lowest
returns c =
    let a = c.args in
    let known = c.in-Some.ensures in
    let h : a.resource < 16 = omega (arith, c.from-r.ensures) in
    let n : c.saturating_sub.result ≡ at a.t.rows.length a.resource - 1 = rw c.from-r.ensures at c.saturating_sub.ensures in
    rw (c.from-r.ensures, found_sound a.t known, le-ltb 15 a.resource (omega arith), known.tracks.holders_right a.resource h, n ∙ sym (waiters_are a.t (known_good a.t known) a.resource h))
