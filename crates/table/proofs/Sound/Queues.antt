-- Who holds and who waits, by the places of the queues. Assumes nothing.
use Prim.Native.Nat.{ℕ, ◌+◌, ◌*◌, ◌≤◌, ◌<◌}
use mathlib.Core.Path.{◌≡◌, sym, ◌∙◌}
use mathlib.Core.Logic.{◌≢◌, ◌⊎◌, inl, inr, ◌↔◌}
use native.Mathlib.Decide.{ℕ_discrete, dec_lt}
use native.Mathlib.Omega.{arith}
use lib.ListN.{length}
use Rattle.protocol.specs.Sets.{◌∈◌, set, hd, Distinct}
use Rattle.table.specs.declared.Table.{Table}
use Rattle.table.specs.Table.{at, live, queues, Holds, Waits}
use Rattle.table.specs.Code.Shape.{Shape}
use Rattle.table.specs.Code.Places.{entry}
use Rattle.table.proofs.Arrays.Bounds.{beyond, within}
use Rattle.table.proofs.Arrays.Places.{part_in, part_hd, part_distinct}

-- the places behind a resource's first that name x
abbrev pub Behind : Table → ℕ → ℕ → Type 0
Behind t r x = (i : ℕ) × (1 ≤ i) × (i < at t.rows.length r) × (entry t.rows.queue r i ≡ x)

-- no thread waits in two queues
abbrev pub OneQueue : Table → Type 0
OneQueue t = (x r q : ℕ) → Waits t x r → Waits t x q → r ≡ q

module _ (t : Table) (shape : Shape t) where
  -- only the thirty-two threads are live
  pub live_low : (x : ℕ) → x ∈ live t → x < 32
  live_low x l = omega (arith, within t.live x (omega arith), shape.live_size)

  -- only the sixteen resources have a queue
  pub taken_low : (r i : ℕ) → i < at t.rows.length r → r < 16
  taken_low r i h = omega (arith, within t.rows.length r (omega arith), shape.length_size)

  module _ (lengths : (r : ℕ) → at t.rows.length r ≤ 32) where
    fits : (r : ℕ) → (at t.rows.length r ≡ 0) ⊎ (r * 32 + at t.rows.length r ≤ length t.rows.queue)
    fits r = go (dec_lt r 16)
      where
        go : Dec (r < 16) → (at t.rows.length r ≡ 0) ⊎ (r * 32 + at t.rows.length r ≤ length t.rows.queue)
        go (yes l) = inr (omega (arith, lengths r, shape.queue_size))
        go (no n) = inl (beyond t.rows.length r (omega arith))

    pub in_queue : (r x : ℕ) → (x ∈ set (queues t r)) ↔ ((i : ℕ) × (i < at t.rows.length r) × (entry t.rows.queue r i ≡ x))
    in_queue r x = part_in t.rows.queue (r * 32) (at t.rows.length r) (fits r) x

    pub hd_queue : (r x : ℕ) → (x ∈ hd (queues t r)) ↔ ((0 < at t.rows.length r) × (entry t.rows.queue r 0 ≡ x))
    hd_queue r x = part_hd t.rows.queue (r * 32) (at t.rows.length r) (fits r) x

    pub distinct_queue : (r : ℕ) → Distinct (queues t r) ↔ ((i j : ℕ) → i < j → j < at t.rows.length r → entry t.rows.queue r i ≢ entry t.rows.queue r j)
    distinct_queue r = part_distinct t.rows.queue (r * 32) (at t.rows.length r) (fits r)

    pub holds_first : (x r : ℕ) → Holds t x r ↔ ((0 < at t.rows.length r) × (entry t.rows.queue r 0 ≡ x))
    holds_first x r = ((λ h. (hd_queue r x).0 h.1), λ w. ((in_queue r x).1 (0, w.0, w.1), (hd_queue r x).1 w))

    -- to wait is to stand behind the first place
    pub waits_behind : (x r : ℕ) → Waits t x r → Behind t r x
    waits_behind x r (h, n) = let w = (in_queue r x).0 h in go w (ℕ_discrete w.0 0)
      where
        go : (w : (i : ℕ) × (i < at t.rows.length r) × (entry t.rows.queue r i ≡ x)) → Dec (w.0 ≡ 0) → Behind t r x
        go (i, l, e) (yes z) = absurd (n ((hd_queue r x).1 (omega arith, (rw z at e))))
        go (i, l, e) (no nz) = (i, omega arith, l, e)

    pub waits_low : (x r : ℕ) → Waits t x r → r < 16
    waits_low x r v = let b = waits_behind x r v in taken_low r b.0 b.2

    pub behind_waits : (x r : ℕ) → Distinct (queues t r) → Behind t r x → Waits t x r
    behind_waits x r d (i, p, l, e) = ((in_queue r x).1 (i, l, e), λ h. (distinct_queue r).0 d 0 i p l (((hd_queue r x).0 h).1 ∙ sym e))
