-- What the queues are of a table in which one queue is written anew. Assumes nothing.
use Prim.Native.Nat.{ℕ, ◌+◌, ◌*◌, ◌≤◌, ◌<◌}
use mathlib.Core.Path.{◌≡◌, fun_ext, ◌∙◌}
use mathlib.Core.List.{List}
use mathlib.Core.Logic.{◌≢◌, ◌⊎◌, inl, inr}
use native.Mathlib.Decide.{ℕ_discrete, dec_lt}
use native.Mathlib.Omega.{arith}
use lib.ListN.{length, take, drop, set as put}
use lib.Seq.{get_or-set_same, get_or-set_other}
use Rattle.protocol.specs.Schedule.{update}
use Rattle.protocol.proofs.Lists.{update_there, update_else}
use Rattle.table.specs.declared.Table.{Table}
use Rattle.table.specs.Table.{at, queues}
use Rattle.table.specs.Code.Shape.{Shape}
use Rattle.table.proofs.Arrays.Bounds.{beyond}
use Rattle.events.specs.Events.{with_queue}
use Rattle.events.specs.Code.Rows.{rewritten}
use Rattle.events.proofs.Queues.Splice.{row_there, row_else, row_outside, row_spare}

module _ (t : Table) (cs : ℕ) (q : List ℕ) (s : Shape t) (low : cs < 16) (short : length q ≤ 32) where
  -- the row of cs lies within the places
  fits : cs * 32 + 32 ≤ length t.rows.queue
  fits = omega (arith, s.queue_size)

  -- the places of another resource's row lie outside that of cs
  apart : (r i : ℕ) → r ≢ cs → i < 32 → (r * 32 + i < cs * 32) ⊎ (cs * 32 + 32 ≤ r * 32 + i)
  apart r i n h = go (dec_lt r cs)
    where
      go : Dec (r < cs) → (r * 32 + i < cs * 32) ⊎ (cs * 32 + 32 ≤ r * 32 + i)
      go (yes l) = inl (omega arith)
      go (no g) = inr (omega arith)

  -- the lengths: that of cs is q's, the others are what they were
  pub length_there : at (put t.rows.length cs (length q)) cs ≡ length q
  length_there = get_or-set_same t.rows.length cs (length q) 0 (omega (arith, s.length_size))

  pub length_else : (r : ℕ) → r ≢ cs → at (put t.rows.length cs (length q)) r ≡ at t.rows.length r
  length_else r n = get_or-set_other t.rows.length cs r (length q) 0 n

  -- the queues: cs has q, the others have what they had
  pub queued : ((r : ℕ) → at t.rows.length r ≤ 32) → (r : ℕ) → queues (with_queue t cs q) r ≡ update (queues t) cs q r
  unfolding with_queue
  queued lengths r = go (ℕ_discrete r cs) (dec_lt r 16)
    where
      go : Dec (r ≡ cs) → Dec (r < 16) → take (at (put t.rows.length cs (length q)) r) (drop (r * 32) (rewritten t.rows.queue (cs * 32) q)) ≡ update (queues t) cs q r
      go (yes e) d = rw (e, length_there, update_there (queues t) cs q) (row_there t.rows.queue (cs * 32) q fits short)
      go (no n) (yes h) = rw (length_else r n, update_else (queues t) cs q r n) (row_else t.rows.queue (cs * 32) q fits short (r * 32) (at t.rows.length r) (omega (arith, lengths r, s.queue_size)) (λ i l. apart r i n (omega (arith, lengths r))))
      go (no n) (no g) = rw (length_else r n, update_else (queues t) cs q r n, beyond t.rows.length r (omega (arith, s.length_size)))

  -- the same for all resources at once
  pub queues_queued : ((r : ℕ) → at t.rows.length r ≤ 32) → queues (with_queue t cs q) ≡ update (queues t) cs q
  queues_queued lengths = fun_ext (queued lengths)

  -- the spare places stay zero
  pub queued_spare : ((r : ℕ) → at t.rows.length r ≤ 32) → ((r i : ℕ) → r < 16 → at t.rows.length r ≤ i → i < 32 → at t.rows.queue (r * 32 + i) ≡ 0) →
      (r i : ℕ) → r < 16 → at (with_queue t cs q).rows.length r ≤ i → i < 32 → at (with_queue t cs q).rows.queue (r * 32 + i) ≡ 0
  unfolding with_queue
  queued_spare lengths spare r i h l k = go (ℕ_discrete r cs)
    where
      go : Dec (r ≡ cs) → at (rewritten t.rows.queue (cs * 32) q) (r * 32 + i) ≡ 0
      go (yes e) = rw e (row_spare t.rows.queue (cs * 32) q fits short i (omega (arith, length_there, rw e at l)) k)
      go (no n) = row_outside t.rows.queue (cs * 32) q fits short (r * 32 + i) (apart r i n k) ∙ spare r i h (omega (arith, length_else r n)) k
