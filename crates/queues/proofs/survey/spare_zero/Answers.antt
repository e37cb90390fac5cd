-- `queues::survey::spare_zero` meets its contract. Assumes nothing.
use Prim.Native.Nat.{ℕ, ◌+◌, ◌*◌, ◌-◌, ◌≤◌, ◌<◌}
use mathlib.Core.Path.{◌≡◌, sym, ◌∙◌}
use mathlib.Core.Logic.{◌↔◌, inr}
use mathlib.Core.List.{List}
use native.Mathlib.Omega.{arith}
use borrow.Author.Tests.{eqb-true, eq-eqb}
use lib.ListN.{length, take, drop}
use Rattle.std.specs.List.{sum}
use Rattle.table.specs.Table.{at}
use Rattle.table.specs.Code.Places.{entry}
use Rattle.table.proofs.Arrays.Places.{part_length, part_at}
use Rattle.queues.proofs.survey.Sums.{rest_zero}
use Rattle.queues.proofs.survey.spare_zero.Goals as goal

-- the same of a row that is cut out of the places, from a to k, and of its first m
row_zero : (queue : List ℕ) (r n a k m : ℕ) {all few : ℕ} → a ≡ r → k ≡ a * 32 + 32 → m ≡ n → k ≤ length queue → let row = take (k - a * 32) (drop (a * 32) queue) in
    all ≡ sum row → few ≡ sum (take m row) → (all ≡ few) ↔ ((i : ℕ) → n ≤ i → i < 32 → entry queue r i ≡ 0)
row_zero queue r n a k m start end many inside whole part = (
  λ e i l h. rw (← start) (sym (place i h) ∙ (rest_zero row m).0 (sym whole ∙ e ∙ part) i (omega arith) (omega (arith, long))),
  λ z. whole ∙ (rest_zero row m).1 (λ i l h. place i (omega (arith, long)) ∙ rw start (z i (omega arith) (omega (arith, long)))) ∙ sym part,
)
  where
    row : List ℕ
    row = take (k - a * 32) (drop (a * 32) queue)

    long : length row ≡ 32
    long = part_length queue (a * 32) (k - a * 32) (inr (omega arith)) ∙ omega arith

    place : (i : ℕ) → i < 32 → at row i ≡ at queue (a * 32 + i)
    place i h = part_at queue (a * 32) (k - a * 32) (inr (omega arith)) i (omega arith)

pub returns : goal.returns
returns c =
    let zero = row_zero c.args.queue.now c.args.r c.args.n c.from-start.result _ _ c.from-start.ensures (omega arith) (omega arith) (omega arith) c.total.ensures c.total-2.ensures in
    (λ e. zero.0 (eqb-true _ _ e), λ z. eq-eqb _ _ (zero.1 z))
