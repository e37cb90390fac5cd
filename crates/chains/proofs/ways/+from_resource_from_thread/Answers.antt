-- `chains::ways::from_resource` and `chains::ways::from_thread` meet their contracts, in steps of `proofs/ways/Steps.antt`. The measure of
-- each is the number of steps left. Assumes nothing.
use Prim.Native.Nat.{◌-◌}
use native.Mathlib.Omega.{arith}
use mathlib.Core.Path.{◌≡◌, sym, ◌∙◌}
use borrow.Author.Rules.{rules}
use lib.ListN.{length}
use Rattle.chains.proofs.ways.Steps.{thread_none, thread_past, thread_seen, thread_free, thread_on, resource_none, resource_past, resource_on}
use Rattle.chains.proofs.ways.+from_resource_from_thread.Goals.{from_thread-then-marked-via-then-marked, from_thread-then-marked-via-else-marked+then-r-ge-NOTHING}
use Rattle.chains.proofs.ways.+from_resource_from_thread.Goals as goal

pub from_resource-returns-then-steps-eq0 : goal.from_resource-returns-then-steps-eq0
from_resource-returns-then-steps-eq0 t c = sym (resource_none _ _ _ _ _ _ c.if-steps-eq0.true)

pub from_resource-returns-in-Some : goal.from_resource-returns-in-Some
from_resource-returns-in-Some t c =
    let h = c.in-Some.ensures.lookup.3 in
    let size : length c.args.graph.now.holders ≡ 16 = search rules in
    rw (← c.from.ensures) (rw (h.1 0) at c.from_thread.ensures ∙ sym (resource_on _ _ _ _ _ (c.args.steps - 1) (omega arith) _ (omega (arith, h.0))))

pub from_resource-returns-in-None : goal.from_resource-returns-in-None
from_resource-returns-in-None t c =
    let h = c.in-None.ensures.lookup.3 in
    let size : length c.args.graph.now.holders ≡ 16 = search rules in
    rw (← c.from.ensures) (sym (resource_past _ _ _ _ _ (c.args.steps - 1) (omega arith) _ (omega arith)))

pub from_thread-returns-then-steps-eq0 : goal.from_thread-returns-then-steps-eq0
from_thread-returns-then-steps-eq0 t c = sym (thread_none _ _ _ _ _ _ c.if-steps-eq0.true)

pub from_thread-returns-in_default : goal.from_thread-returns-in_default
from_thread-returns-in_default t c =
    let h = c.in_default.ensures.lookup.3 in
    let size : length c.args.graph.now.waits ≡ 32 = search rules in
    rw (← c.from-i.ensures) (sym (thread_past _ _ _ _ _ (c.args.steps - 1) (omega arith) _ (omega arith)))

pub from_thread-returns-then-marked : goal.from_thread-returns-then-marked
from_thread-returns-then-marked t c =
    let h = c.in-Some.ensures.lookup.3 in
    let size : length c.args.graph.now.waits ≡ 32 = search rules in
    rw (← c.from-i.ensures) (elim c.then-marked.branch [
      | from_thread-then-marked-via-then-marked w ↦ c.mark-passed.ensures ∙ sym (thread_seen _ _ _ _ _ (c.args.steps - 1) (omega arith) _ (omega arith) (sym c.marked.ensures ∙ w.if-marked.true))
      | from_thread-then-marked-via-else-marked+then-r-ge-NOTHING w ↦ c.mark-passed.ensures ∙ sym (thread_free _ _ _ _ _ (c.args.steps - 1) (omega arith) _ (omega arith) (sym c.marked.ensures ∙ w.if-marked.false) (rw (h.1 0) at w.if-r-ge-NOTHING.true))
    ])

pub from_thread-returns : goal.from_thread-returns
from_thread-returns t c =
    let h = c.in-Some.ensures.lookup.3 in
    let size : length c.args.graph.now.waits ≡ 32 = search rules in
    rw (← c.from-i.ensures) (
    (rw (c.mark-passed.ensures, h.1 0) at c.from_resource.ensures)
    ∙ sym (thread_on _ _ _ _ _ (c.args.steps - 1) (omega arith) _ (omega arith) (sym c.marked.ensures ∙ c.if-marked.false) (rw (h.1 0) at c.if-r-ge-NOTHING.false))
    )
