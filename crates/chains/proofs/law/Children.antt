-- The numbers that the code compares are those of the local law. Assumes nothing.
use Prim.Native.Nat.{ℕ, ◌≤◌, ◌<◌}
use mathlib.Core.Path.{◌≡◌, refl, sym, ap, ◌∙◌}
use mathlib.Core.List.{List}
use mathlib.Core.Logic.{inl, inr}
use native.Mathlib.Omega.{arith}
use borrow.Author.Tests.{le-leb}
use lib.ListN.{length, set}
use lib.Seq.{get_or-set_same, get_or-set_other}
use Rattle.protocol.specs.Sets.{◌∈◌, only, ◌∪◌, image, Max}
use Rattle.protocol.proofs.Highest.{max_map}
use Rattle.protocol.proofs.Walk.{Afresh}
use Rattle.table.specs.declared.Table.{Table}
use Rattle.table.specs.Table.{at}
use Rattle.table.specs.Compute.{holder}
use Rattle.table.specs.Code.Places.{entry}
use Rattle.table.proofs.Sound.Queues.{taken_low, waits_behind, behind_waits}
use Rattle.table.proofs.Sound.Read.{holder_holds}
use Rattle.table.proofs.Tests.Computed.{holds_holder}
use Rattle.table.proofs.Values.Numbers.{≤_total}
use Rattle.table.proofs.Values.Values.{Good, hops, own_rank}
use Rattle.chains.specs.Law.{entries_of, Compared}

-- o is the own number of thread x, and c has the numbers of its waiters
module _ (t : Table) (g : Good t) (holders : List ℕ) (right : (cs : ℕ) → cs < 16 → at holders cs ≡ holder t cs) (c : List ℕ) (o x : ℕ) (low : x < 32) where
  entries_are : (r : ℕ) → entries_of (at t.rows.length r) ≡ at t.rows.length r
  entries_are r = rw (le-leb (at t.rows.length r) 32 (g.bare.queues_right.lengths r))

  to_hops : (n : ℕ) → n ∈ Compared t.rows.queue t.rows.length holders c 16 o x → n ∈ (only o ∪ image (at c) (hops t g x))
  to_hops n (inl e) = inl e
  to_hops n (inr (r, i, l, p, k, e, f)) =
      let u = entry t.rows.queue r i in
      inr (u, (r, behind_waits t g.shape g.bare.queues_right.lengths u r (g.bare.queues_right.differ r) (i, p, rw (entries_are r) at k, refl), holder_holds t g x r low (sym (right r l) ∙ e)), f)

  from_hops : (n : ℕ) → n ∈ (only o ∪ image (at c) (hops t g x)) → n ∈ Compared t.rows.queue t.rows.length holders c 16 o x
  from_hops n (inl e) = inl e
  from_hops n (inr (u, (r, w, h), e)) =
      let b = waits_behind t g.shape g.bare.queues_right.lengths u r w in
      let l = taken_low t g.shape r b.0 b.2 in
      inr (r, b.0, l, b.1, rw (entries_are r) b.2, right r l ∙ holds_holder t x r h, e ∙ ap (at c) (sym b.3))

  pub compared_law : (m : ℕ) → Max ◌≤◌ (Compared t.rows.queue t.rows.length holders c 16 o x) m → Max ◌≤◌ (only o ∪ image (at c) (hops t g x)) m
  compared_law m = max_map ◌≤◌ ≤_total to_hops from_hops

  pub law_compared : (m : ℕ) → Max ◌≤◌ (only o ∪ image (at c) (hops t g x)) m → Max ◌≤◌ (Compared t.rows.queue t.rows.length holders c 16 o x) m
  law_compared m = max_map ◌≤◌ ≤_total from_hops to_hops

  -- to store what the code found is to work x out afresh
  pub set_afresh : (v : ℕ) → o ≡ own_rank t g x → length c ≡ 32 → Max ◌≤◌ (Compared t.rows.queue t.rows.length holders c 16 o x) v → Afresh ◌≤◌ (hops t g) (own_rank t g) (at c) x (at (set c x v))
  set_afresh v e l m = record {
    there = rw (get_or-set_same c x v 0 (omega arith), ← e) (compared_law v m);
    elsewhere = λ y n. get_or-set_other c x y v 0 n;
  }
