-- `chains::ways::no_circle` meets its contract. The loop's invariant: the way ends from every thread before `i`, and from every
-- thread that is seen. The measure is the number of threads left. Assumes nothing.
use Prim.Native.Nat.{ℕ}
use native.Mathlib.Omega.{arith}
use mathlib.Core.Path.{◌≡◌, sym, ◌∙◌}
use mathlib.Core.Bool.{true, false≢true}
use mathlib.Core.Logic.{⊎_elim}
use borrow.Author.Count.{below_more}
use Rattle.chains.specs.Marks.{marked}
use Rattle.chains.specs.Ways.{EndsFrom, here}
use Rattle.chains.proofs.marks.Bits.{nobody_marked, all_marked}
use Rattle.chains.proofs.ways.Chain.{ends_found, found}
use Rattle.chains.proofs.ways.Next.{ends_low, ends_next, next_ends}
use Rattle.chains.proofs.ways.no_circle.Goals.{then-r-lt-RESOURCES+else-h-ge-THREADS, then-not-marked+else-endless, else-not-marked, else-r-lt-RESOURCES}
use Rattle.chains.proofs.ways.no_circle.Goals as goal

pub loop-i-init : goal.loop-i-init
loop-i-init c = ((λ u h. absurd (omega arith)), λ u e. absurd (false≢true (sym (nobody_marked u) ∙ e)))

pub returns-then-h-ge-THREADS : goal.returns-then-h-ge-THREADS
returns-then-h-ge-THREADS c = (
  (λ e. absurd (false≢true e)),
  λ f. absurd (omega (
    arith,
    ends_low _ _
        -- the way from a thread that waits ends, if all do, and so does that from the holder of what it waits for
        (ends_next _ _ c.loop-i.i _ _ c.from-r.ensures c.if-r-lt-RESOURCES.true c.from-h.ensures (f c.loop-i.i (omega arith))),
  )),
)

pub returns-then-endless : goal.returns-then-endless
returns-then-endless c = (
  (λ e. absurd (false≢true e)),
  λ f.
      let ends = ends_next _ _ c.loop-i.i _ _ c.from-r.ensures c.if-r-lt-RESOURCES.true c.from-h.ensures (f c.loop-i.i (omega arith)) in
      absurd (ends_found _ _ _ _ _ (rw c.from-h.ensures at ends) (sym c.from_thread-way.ensures ∙ c.if-endless.true)),
)

pub loop-i-preserved : goal.loop-i-preserved
loop-i-preserved c =
    let s = c.loop-i in
    let a = c.args in
    elim c.if-r-lt-RESOURCES.branch [
      | then-r-lt-RESOURCES+else-h-ge-THREADS w ↦
          let k : EndsFrom a.graph.now.waits a.graph.now.holders w.from-h.result × ((u : ℕ) → marked w.if-not-marked.seen u ≡ true → EndsFrom a.graph.now.waits a.graph.now.holders u) = elim w.if-not-marked.branch [
            | then-not-marked+else-endless v ↦
                let f = found _ _ _ s.invariant.1 64 s.seen _ (λ q. v.if-endless.false (v.from_thread-way.ensures ∙ q)) in
                (rw w.from-h.ensures f.0, λ u m. ⊎_elim (s.invariant.1 u) (λ x. x) (f.1 u (rw (v.seen-is, v.from_thread-way.ensures) at m)))
            | else-not-marked v ↦ (s.invariant.1 _ (sym w.marked.ensures ∙ v.if-not-marked.false), rw v.seen-is s.invariant.1)
          ] in
          let new = next_ends _ _ s.i _ _ c.from-r.ensures w.if-r-lt-RESOURCES.true w.from-h.ensures (omega arith) k.0 in
          (below_more _ _ s.invariant.0 new, rw (w.seen-is, w.mark-seen.ensures) (all_marked w.if-not-marked.seen s.i (omega arith) k.1 new))
      | else-r-lt-RESOURCES w ↦
          (below_more _ _ s.invariant.0 (0, here {t = s.i} (omega arith) (omega arith)), rw w.seen-is s.invariant.1)
    ]
