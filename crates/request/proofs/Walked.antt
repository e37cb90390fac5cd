-- The code's way up the holders: what it leaves are the current precedences, and what it counts is the walk as it is defined. Assumes nothing.
use Prim.Native.Nat.{ℕ, ◌≤◌, ◌<◌}
use mathlib.Core.Path.{◌≡◌, refl, sym, ap, subst, ◌∙◌}
use mathlib.Core.List.{List}
use mathlib.Core.Logic.{◌≢◌, inl, inr, ⊎_elim}
use native.Mathlib.Omega.{arith}
use lib.ListN.{length, set, length-set}
use lib.Seq.{get_or-set_same, get_or-set_other}
use Rattle.protocol.specs.Sets.{◌∈◌, Max}
use Rattle.protocol.specs.Rank.{rank}
use Rattle.protocol.proofs.Order.{rank_same}
use Rattle.protocol.proofs.Chains.{Free}
use Rattle.protocol.proofs.LocalLaw.{Local}
use Rattle.protocol.proofs.Walk.{Afresh}
use Rattle.protocol.proofs.Ways.{waits_free}
use Rattle.table.specs.declared.Table.{Table}
use Rattle.table.specs.Table.{at, live, queues}
use Rattle.table.specs.Compute.{holder, waits_for, blocker, current}
use Rattle.table.proofs.Sound.Read.{waited}
use Rattle.table.proofs.Tests.Computed.{blocker_cases}
use Rattle.table.proofs.Values.Values.{Good, resource_low, thread_low, hops, own_rank, worth, current_fits, StandsAt, worked_out, walk_ends, walk_goes_on}
use Rattle.chains.specs.Law.{Compared}
use Rattle.chains.proofs.law.Children.{compared_law, law_compared, set_afresh}
use Rattle.events.proofs.Walk.Steps.{Counts, counts_one, counts_on}
use Rattle.request.specs.Climb.{Climbed, stays, last, on}

-- b is the table before the event and a the one after it: the arrays are those of a, and `before` has the numbers of b's current precedences
pub record Walks (b a : Table) (gb : Good b) (ga : Good a) (waiting holders owns : List ℕ) (before : ℕ → ℕ) : Type 0 where
  pub waits_right : (x : ℕ) → x < 32 → at waiting x ≡ waits_for a x
  pub holders_right : (r : ℕ) → r < 16 → at holders r ≡ holder a r
  pub owns_right : (x : ℕ) → x ∈ live a → at owns x ≡ own_rank a ga x
  pub before_right : (x : ℕ) → x ∈ live a → before x ≡ worth b gb x

module _ {b a : Table} {gb : Good b} {g : Good a} {waiting holders owns : List ℕ} {before : ℕ → ℕ} (k : Walks b a gb g waiting holders owns before) where
  -- working x out afresh from the numbers c gives m, as the code has it
  abbrev pub Gives : List ℕ → ℕ → ℕ → Type 0
  Gives c x m = Max ◌≤◌ (Compared a.rows.queue a.rows.length holders c 16 (at owns x) x) m

  -- and as the law has it
  pub law_gives : (c : List ℕ) (x m : ℕ) → x ∈ live a → Local ◌≤◌ (hops a g) (own_rank a g) (at c) x m → Gives c x m
  law_gives c x m l law = law_compared a g holders k.holders_right c (at owns x) x (thread_low a g x l) m (rw (k.owns_right x l) law)

  gives_law : (c : List ℕ) (x m : ℕ) → x ∈ live a → Gives c x m → Local ◌≤◌ (hops a g) (own_rank a g) (at c) x m
  gives_law c x m l r = rw (← k.owns_right x l) (compared_law a g holders k.holders_right c (at owns x) x (thread_low a g x l) m r)

  pub gives_afresh : (c : List ℕ) (x v : ℕ) → length c ≡ 32 → x ∈ live a → Gives c x v → Afresh ◌≤◌ (hops a g) (own_rank a g) (at c) x (at (set c x v))
  gives_afresh c x v size l = set_afresh a g holders k.holders_right c (at owns x) x (thread_low a g x l) v (k.owns_right x l) size

  -- whom x waits for, as the arrays have it
  pub up : (x : ℕ) → x ∈ live a → at waiting x < 16 → (at holders (at waiting x) ≡ blocker a x) × (x ∈ hops a g (blocker a x)) × (waits_for a x ≢ 16)
  unfolding blocker
  up x l low =
      let e = k.waits_right x (thread_low a g x l) in
      ⊎_elim (λ w. (k.holders_right (at waiting x) low ∙ ap (holder a) e, w.1, w.0)) (λ w. absurd (omega (arith, w.0))) (blocker_cases a g.bare.one_wait (resource_low a g) x)

  free : (x : ℕ) → x ∈ live a → 16 ≤ at waiting x → (waits_for a x ≡ 16) × Free (hops a g) x
  free x l low = ⊎_elim (λ w. absurd (omega (arith, w.0, k.waits_right x (thread_low a g x l)))) (λ w. (w.0, waits_free (queues a) x w.1)) (waited a g x)

  -- what x was before is what it is worked out to be, in numbers and as precedences
  same_before : (x : ℕ) → x ∈ live a → before x ≡ worth a g x → current b x ≡ current a x
  same_before x l e = rank_same 65535 (current b x) (current a x) (current_fits b gb x) (current_fits a g x) (sym (k.before_right x l) ∙ e)

  -- the numbers e are the current precedences' at live threads, and c's elsewhere; the definition's walk counts n
  pub record WalkedUp (c : List ℕ) (x n : ℕ) (e : List ℕ) : Type 0 where
    pub worths : (y : ℕ) → y ∈ live a → at e y ≡ worth a g y
    pub kept : (y : ℕ) → ¬ (y ∈ live a) → at e y ≡ at c y
    pub counted : Counts b a x n

  -- what is set at a live thread leaves the others
  untouched : (c : List ℕ) (x v y : ℕ) → x ∈ live a → ¬ (y ∈ live a) → at (set c x v) y ≡ at c y
  untouched c x v y l n = get_or-set_other c x y v 0 (λ q. n (rw q l))

  pub climbed : {c e : List ℕ} {x n : ℕ} → Climbed a.rows.queue a.rows.length holders waiting owns c x n e → length c ≡ 32 → StandsAt a g before (at c) x → WalkedUp c x n e
  climbed (stays {c = c} {x = x} r) size w =
      let f : Afresh ◌≤◌ (hops a g) (own_rank a g) (at c) x (at c) = record { there = gives_law c x (at c x) w.here r; elsewhere = λ y n. refl } in record {
        worths = walk_ends a g before (at c) (at c) x w f (inl refl);
        kept = λ y n. refl;
        counted = counts_one b a x (inl (same_before x w.here (sym (w.above x (inl refl)) ∙ worked_out a g before (at c) (at c) x w f)));
      }
  climbed (last {c = c} {x = x} {v = v} r d low) size w =
      let s = free x w.here low in record {
        worths = walk_ends a g before (at c) (at (set c x v)) x w (gives_afresh c x v size w.here r) (inr s.1);
        kept = λ y n. untouched c x v y w.here n;
        counted = counts_one b a x (inr s.0);
      }
  climbed (on {c = c} {e = e} {x = x} {v = v} {k = n} r d low further) size w =
      let f = gives_afresh c x v size w.here r in
      let u = up x w.here low in
      let next = walk_goes_on a g before (at c) (at (set c x v)) x w f (blocker a x) u.1 in
      let o = climbed further (length-set c x v ∙ size) (subst (λ (h : ℕ). StandsAt a g before (at (set c x v)) h) (sym u.0) next) in record {
        worths = o.worths;
        kept = λ y dead. o.kept y dead ∙ untouched c x v y w.here dead;
        counted = counts_on b a x n (⊎_elim (λ q. d (stayed (worked_out a g before (at c) (at (set c x v)) x w f) q)) u.2) (subst (λ (h : ℕ). Counts b a h n) u.0 o.counted);
      }
    where
      -- what x would have been set to, if its precedence stayed the same
      stayed : at (set c x v) x ≡ worth a g x → current b x ≡ current a x → v ≡ at c x
      stayed e q = sym (get_or-set_same c x v 0 (omega (arith, thread_low a g x w.here))) ∙ e ∙ sym (k.before_right x w.here ∙ ap (rank 65535) q) ∙ sym (w.above x (inl refl))
