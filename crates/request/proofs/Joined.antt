-- An entry behind the last one of a queue: the places are those of the longer queue. Assumes nothing.
use Prim.Native.Nat.{ℕ, ◌+◌, ◌*◌, ◌≤◌, ◌<◌}
use mathlib.Core.Path.{◌≡◌, sym, ap, ◌∙◌}
use mathlib.Core.List.{List, [], ◌∷◌, ◌++◌}
use mathlib.Core.Logic.{◌≢◌, ◌⊎◌, inl, inr}
use native.Mathlib.Decide.{dec_lt}
use native.Mathlib.Omega.{arith}
use lib.ListN.{length, set, length-set, length-append, get_or-append}
use lib.Seq.{get_or-set_same, get_or-set_other, get_or-append-add}
use Rattle.table.specs.declared.Table.{Table}
use Rattle.table.specs.Table.{at, queues}
use Rattle.table.proofs.Arrays.Places.{part_at}
use Rattle.table.proofs.Sound.Read.{queue_length}
use Rattle.table.proofs.Values.Values.{Good}
use Rattle.events.specs.Code.Rows.{rewritten}
use Rattle.events.proofs.Queues.Written.{row_is}
use Rattle.events.proofs.Kept.Queues.{QueueFits, queue_short}

module _ (t : Table) (g : Good t) (cs th : ℕ) (low : cs < 16) where
  pub joined_length : length (queues t cs ++ (th ∷ [])) ≡ at t.rows.length cs + 1
  joined_length = length-append (queues t cs) (th ∷ []) ∙ ap (λ (n : ℕ). n + 1) (queue_length t g cs low)

  -- where a queue has a place for one more, its length is below 32
  pub room_for : {requests releases : List ℕ} → QueueFits t cs (queues t cs ++ (th ∷ [])) requests releases → at t.rows.length cs < 32
  room_for f = omega (arith, queue_short t cs (queues t cs ++ (th ∷ [])) g.shape f, joined_length)

  pub joined_places : at t.rows.length cs < 32 → set t.rows.queue (cs * 32 + at t.rows.length cs) th ≡ rewritten t.rows.queue (cs * 32) (queues t cs ++ (th ∷ []))
  joined_places room = row_is t.rows.queue (cs * 32) (queues t cs ++ (th ∷ [])) fits (omega (arith, joined_length)) (set t.rows.queue place th) (record {
    size = length-set t.rows.queue place th;
    outside = λ j h. get_or-set_other t.rows.queue place j th 0 (away j h);
    entries = λ i h. inside i (dec_lt i (at t.rows.length cs)) (omega (arith, joined_length));
    spare = λ i h k. get_or-set_other t.rows.queue place (cs * 32 + i) th 0 (λ e. absurd (omega (arith, joined_length))) ∙ g.bare.spare_places cs i low (omega (arith, joined_length)) k;
  })
    where
      place : ℕ
      place = cs * 32 + at t.rows.length cs

      fits : cs * 32 + 32 ≤ length t.rows.queue
      fits = omega (arith, g.shape.queue_size)

      away : (j : ℕ) → (j < cs * 32) ⊎ (cs * 32 + 32 ≤ j) → j ≢ place
      away j (inl h) e = absurd (omega arith)
      away j (inr h) e = absurd (omega arith)

      inside : (i : ℕ) → Dec (i < at t.rows.length cs) → i < at t.rows.length cs + 1 → at (set t.rows.queue place th) (cs * 32 + i) ≡ at (queues t cs ++ (th ∷ [])) i
      inside i (yes h) k = get_or-set_other t.rows.queue place (cs * 32 + i) th 0 (λ e. absurd (omega arith))
          ∙ sym (part_at t.rows.queue (cs * 32) (at t.rows.length cs) (inr (omega (arith, fits))) i h)
          ∙ sym (get_or-append (queues t cs) (th ∷ []) 0 i (omega (arith, queue_length t g cs low)))
      inside i (no n) k =
          let e : i ≡ at t.rows.length cs = omega arith in
          let f : at t.rows.length cs ≡ length (queues t cs) + 0 = omega (arith, queue_length t g cs low) in
          rw e (get_or-set_same t.rows.queue place th 0 (omega (arith, fits)) ∙ sym (ap (at (queues t cs ++ (th ∷ []))) f ∙ get_or-append-add (queues t cs) (th ∷ []) 0 0))
