-- `chains::law::highest_waiter` meets its contract. Assumes nothing.
use Prim.Native.Nat.{ℕ, ◌+◌, ◌-◌, ◌*◌, ◌≤◌, ◌<◌}
use mathlib.Core.Path.{◌≡◌, ap, ◌∙◌}
use mathlib.Core.List.{List}
use mathlib.Core.Logic.{inr}
use native.Mathlib.Omega.{arith}
use borrow.Author.Rules.{rules}
use lib.ListN.{length, take, drop}
use Rattle.table.specs.Table.{at}
use Rattle.table.specs.Code.Places.{entry}
use Rattle.table.proofs.Arrays.Maxima.{of_max}
use Rattle.table.proofs.Arrays.Places.{part_length, part_at}
use Rattle.chains.proofs.law.Maxima.{waiter_next}
use Rattle.chains.proofs.law.highest_waiter.Goals as goal

-- the n entries of r, and those behind the first
module _ (queue : List ℕ) (r n : ℕ) (size : length queue ≡ 512) (low : r < 16) (fits : n ≤ 32) where
  abbrev row : List ℕ
  row = take (r * 32 + n - r * 32) (drop (r * 32) queue)

  row_length : length row ≡ n
  row_length = part_length queue (r * 32) (r * 32 + n - r * 32) (inr (omega arith)) ∙ omega arith

  abbrev waiters : List ℕ
  waiters = take (length row - 1) (drop 1 row)

  waiters_length : 1 ≤ length row → length waiters + 1 ≡ n
  waiters_length h = omega (arith, row_length, part_length row 1 (length row - 1) (inr (omega arith)))

  waiter_at : (i : ℕ) → 1 ≤ length row → i < length waiters → at waiters i ≡ entry queue r (i + 1)
  waiter_at i h l =
      let few = waiters_length h in
      let e : 1 + i ≡ i + 1 = omega arith in
      part_at row 1 (length row - 1) (inr (omega arith)) i (omega (arith, row_length))
      ∙ part_at queue (r * 32) (r * 32 + n - r * 32) (inr (omega arith)) (1 + i) (omega arith)
      ∙ ap (λ k. at queue (r * 32 + k)) e

pub loop-x-preserved : goal.loop-x-preserved
loop-x-preserved c =
    let a = c.args in
    let k = c.requires in
    let i = c.loop-x.x-index in
    let e : c.value.result ≡ at a.w.now.current (entry a.rows.now.queue a.r (i + 1)) =
    c.value.ensures ∙ ap (at a.w.now.current) (waiter_at a.rows.now.queue a.r a.n (search rules) k.0 k.1 i c.in-len1-up.len_at_least c.loop-x-test.true) in
    waiter_next a.rows.now.queue a.w.now.current a.r a.start (i + 1) (omega arith) (rw (c.max-best.ensures, e) (of_max _ _)) c.loop-x.invariant
