-- `request::climb::climb` meets its contract. The loop's invariant: from here on numbers rise too, and the way up from here, after the n
-- threads so far, is the way up from the start. Assumes nothing.
use Prim.Native.Nat.{◌<◌}
use mathlib.Core.Path.{◌≡◌, ap, ◌∙◌}
use native.Mathlib.Omega.{arith}
use borrow.Author.Rules.{rules}
use lib.ListN.{length, set}
use Rattle.table.specs.Table.{at}
use Rattle.request.specs.Climb.{stays, last}
use Rattle.request.proofs.climb.climb.Invariants.{same, higher, goes_up}
use Rattle.request.proofs.climb.climb.Goals as goal

pub returns-then-v-current : goal.returns-then-v-current
returns-then-v-current c =
    let h = c.loop-current in
    let a = c.args in
    λ queue lengths owns k b r.
    let w = h.invariant.3 queue lengths owns k b r in
    w.1 1 h.current (stays (same a.graph.now.holders a.graph.now.waits a.v queue lengths owns h.current h.at h.n w.0 c.if-v-current.true))

pub returns-in_default : goal.returns-in_default
returns-in_default c =
    let h = c.loop-current in
    let a = c.args in
    let rose : at h.current h.at < a.v = search rules in
    λ queue lengths owns k b r.
    let w = h.invariant.3 queue lengths owns k b r in
    w.1 1 (set h.current h.at a.v) (last (higher a.graph.now.holders a.graph.now.waits a.v queue lengths owns h.current h.at h.n w.0 rose) (λ d. absurd (omega (arith, d, rose))) (let size : length a.graph.now.holders ≡ 16 = search rules in omega (arith, c.in_default.ensures.lookup.3)))

pub loop-current-preserved : goal.loop-current-preserved
loop-current-preserved c =
    let h = c.loop-current in
    let a = c.args in
    let found = c.in-Some.ensures.lookup.3 in
    let size : length a.graph.now.holders ≡ 16 = search rules in
    goes_up a.graph.now.holders a.graph.now.waits a.v a.current.now a.start c.requires h.current h.at h.n c.from-at-in-loop-current.result
    (search rules) (omega (arith, found.0)) (c.from-at-in-loop-current.ensures ∙ found.1 0 ∙ ap (at a.graph.now.holders) c.from.ensures) h.invariant
