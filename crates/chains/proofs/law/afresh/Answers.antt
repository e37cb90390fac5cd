-- `chains::law::afresh` meets its contract. The loop's invariant: `best` is the highest of what the resources passed compare.
-- Assumes nothing.
use mathlib.Core.Path.{◌≡◌}
use mathlib.Core.Logic.{inl, inr}
use native.Mathlib.Omega.{arith}
use Rattle.chains.proofs.law.Maxima.{compared_all, compared_next}
use Rattle.chains.proofs.law.afresh.Goals.{then-held, else-held}
use Rattle.chains.proofs.law.afresh.Goals as goal

pub loop-r-preserved : goal.loop-r-preserved
loop-r-preserved c =
    let a = c.args in
    compared_next a.rows.now.queue a.rows.now.length a.w.now.graph.holders a.w.now.current a.own a.t c.loop-r.r
    (elim c.if-held.branch [
      | then-held w ↦ inl (w.if-held.true, rw w.best-is (rw w.entries.ensures.0 at w.highest_waiter-best.ensures))
      | else-held w ↦ inr ((λ e. absurd (w.if-held.false e)), w.best-is)
    ])
    c.loop-r.invariant

pub returns : goal.returns
returns c =
    let a = c.args in
    let few = c.rows_to_compare-r-end in
    let e : c.loop-r.r ≡ few.result = omega arith in
    compared_all a.rows.now.queue a.rows.now.length a.w.now.graph.holders a.w.now.current a.own a.t few.ensures.0 few.ensures.1 (rw e at c.loop-r.invariant)
