-- V with a successor: the numbers once the two who hold the resource, before and after, have theirs. Assumes nothing.
use Prim.Native.Nat.{ℕ, ◌≤◌, ◌<◌}
use mathlib.Core.Path.{◌≡◌, refl, sym, ap, subst, ◌∙◌}
use mathlib.Core.Option.{some}
use mathlib.Core.List.{List, [], ◌∷◌}
use mathlib.Core.Logic.{◌≢◌}
use native.Mathlib.Decide.{ℕ_discrete}
use native.Mathlib.Omega.{arith}
use lib.ListN.{set, length-set}
use lib.Seq.{get_or-set_same, get_or-set_other}
use Rattle.protocol.specs.Sets.{◌∈◌, only, ◌∪◌, image, Max}
use Rattle.protocol.specs.Events.{«V»}
use Rattle.protocol.specs.Graph.{Queues}
use Rattle.protocol.specs.Schedule.{release as leave}
use Rattle.protocol.specs.Children.{children}
use Rattle.protocol.proofs.Highest.{max_map}
use Rattle.protocol.proofs.Lists.{Holding, Waiting, hd_one, heir_holds}
use Rattle.protocol.proofs.LocalLaw.{Local}
use Rattle.protocol.proofs.Walk.{local_cong, Afresh, walk_on}
use Rattle.protocol.proofs.Heir.{heir_local}
use Rattle.table.specs.declared.Table.{Table}
use Rattle.table.specs.Table.{at, live, queues, Waits}
use Rattle.table.specs.Compute.{first_or_32, holder, waits_for}
use Rattle.table.specs.Code.Places.{entry}
use Rattle.table.specs.Code.Tracks.{Tracks, Sized, Known}
use Rattle.table.proofs.Sound.Queues.{live_low, waits_behind, behind_waits}
use Rattle.table.proofs.Values.Numbers.{≤_total}
use Rattle.table.proofs.Values.Values.{Good, hops, own_rank, Lawful}
use Rattle.table.proofs.Values.Known.{known_good, known_lawful}
use Rattle.chains.specs.Law.{WaitersNumbers, Compared}
use Rattle.chains.proofs.law.Children.{set_afresh}
use Rattle.events.specs.Code.Permits.{Permits}
use Rattle.events.proofs.Kept.Queues.{release_passes}
use Rattle.release.proofs.Passed.{release_head, left, passed_on, passed_good, queues_passed, live_passed, own_kept, own_passed, dead_passed, waits_passed, holder_waits, releaser_free, holder_free, law_passed, holders_passed, numbers_passed}

-- whoever is named to follow stands first
first_is_b : (q : List ℕ) (b : ℕ) → Waiting q b → b ≡ first_or_32 (leave q (some b))
unfolding first_or_32
first_is_b [] b w = absurd w.0
first_is_b (x ∷ xs) b w = refl

-- The releaser th waits for nothing; b, who follows, waits no more.
module _ (t : Table) {waiting holders owns currents : List ℕ} (k : Known t waiting holders owns currents) (early : t.clock < 65535) {th cs b : ℕ} (v : Permits t («V» th cs (some b))) where
  -- the table afterwards, in which b holds
  abbrev handed : Table
  handed = passed_on t k early v

  abbrev good : Good handed
  good = passed_good t k early v

  b_waits : Waits t b cs
  b_waits = (release_passes t (known_good t k) v).follows

  b_holds : Holding (left t k early v) b
  b_holds = heir_holds (queues t cs) b b_waits

  -- nobody else is the new holder
  others_not : (y : ℕ) → y ≢ b → ¬ Holding (left t k early v) y
  others_not y n h = n (hd_one (left t k early v) y b h.1 b_holds.1)

  th_live : th ∈ live t
  th_live = k.sound.bare.queues_right.live_entries cs th (release_head v).0

  b_live : b ∈ live t
  b_live = k.sound.bare.queues_right.live_entries cs b b_waits.0

  -- both are threads
  pub both_low : (th < 32) × (b < 32)
  both_low = (live_low t k.shape th th_live, live_low t k.shape b b_live)

  -- the law holds everywhere but at these two
  others_lawful : (y : ℕ) → (y ∈ live handed) × (y ≢ b) → y ≢ th → Lawful handed good (at currents) y
  others_lawful y (l, n) m = law_passed t k early v y l (others_not y n) (λ h. absurd (m (hd_one (queues t cs) y th h.1 (release_head v).1)))

  -- the numbers of those who waited, as the code compares them
  pub waiters_numbers : (m : ℕ) → Max ◌≤◌ (WaitersNumbers t.rows.queue currents cs (at t.rows.length cs)) m → Max ◌≤◌ (image (at currents) (λ u. Waits t u cs)) m
  waiters_numbers m = max_map ◌≤◌ ≤_total
      (λ a w. (entry t.rows.queue cs w.0, behind_waits t k.shape lengths_right (entry t.rows.queue cs w.0) cs (k.sound.bare.queues_right.differ cs) (w.0, w.1, w.2, refl), w.3))
      (λ a w. let p = waits_behind t k.shape lengths_right w.0 cs w.1 in (p.0, p.1, p.2, w.2 ∙ ap (at currents) (sym p.3)))
    where
      lengths_right : (r : ℕ) → at t.rows.length r ≤ 32
      lengths_right = k.sound.bare.queues_right.lengths

  -- by the law b has the greatest of them then
  heir_law : (m : ℕ) → Max ◌≤◌ (image (at currents) (λ u. Waits t u cs)) m → Local ◌≤◌ (hops handed good) (own_rank handed good) (at currents) b m
  heir_law m top = rw (own_kept t k early v b) (subst (λ (wq : Queues). Max ◌≤◌ (only (own_rank t (known_good t k) b) ∪ image (at currents) (children wq b)) m) (sym (queues_passed t k early v))
      (heir_local (release_passes t (known_good t k) v) ◌≤◌ ≤_total (own_rank t (known_good t k)) (at currents) (known_lawful t k b b_live) m top))

  -- The releaser is worked out over the arrays of that table; m is the greatest number of those who waited.
  module _ (sized : Sized waiting holders currents) (first : ℕ) (first-is : Max ◌≤◌ (Compared handed.rows.queue handed.rows.length (set holders cs b) currents 16 (at owns th) th) first)
      (m : ℕ) (top : Max ◌≤◌ (image (at currents) (λ u. Waits t u cs)) m) where
    holders_right : (r : ℕ) → r < 16 → at (set holders cs b) r ≡ holder handed r
    holders_right = holders_passed t k early v sized.holders_size b (first_is_b (queues t cs) b b_waits)

    -- the numbers once the releaser is worked out
    abbrev between : List ℕ
    between = set currents th first

    -- with them the law holds everywhere but at b
    first_lawful : (y : ℕ) → y ∈ live handed → y ≢ b → Lawful handed good (at between) y
    first_lawful y l n = walk_on ◌≤◌ (hops handed good) (own_rank handed good) (λ y. (y ∈ live handed) × (y ≢ b)) (at currents) (at between) th others_lawful
        (set_afresh handed good (set holders cs b) holders_right currents (at owns th) th both_low.0 first (own_passed t k early v th th_live) sized.currents_size first-is) y (l, n) (releaser_free t k early v y)

    -- b gets m; the releaser waits for nothing, so its number is none that b's depends on
    heir_afresh : Afresh ◌≤◌ (hops handed good) (own_rank handed good) (at between) b (at (set between b m))
    heir_afresh = record {
      there = rw (get_or-set_same between b m 0 (omega (arith, length-set currents th first, sized.currents_size, both_low.1)))
          (local_cong ◌≤◌ (hops handed good) (own_rank handed good) (at currents) (at between) b m (λ u c. get_or-set_other currents th u first 0 (λ q. releaser_free t k early v b (rw q at c))) (heir_law m top));
      elsewhere = λ y n. get_or-set_other between b y m 0 n;
    }

    -- then it holds everywhere
    both_lawful : (y : ℕ) → y ∈ live handed → Lawful handed good (at (set between b m)) y
    both_lawful y l = walk_on ◌≤◌ (hops handed good) (own_rank handed good) (live handed) (at between) (at (set between b m)) b first_lawful heir_afresh y l (holder_free t k early v b b_holds y)

    -- those that aren't live keep their zero
    dead_zero : (x : ℕ) → x < 32 → ¬ (x ∈ live handed) → at (set between b m) x ≡ 0
    dead_zero x h n =
        get_or-set_other between b x m 0 (λ q. n (rw q (live_passed t k early v b b_live)))
        ∙ get_or-set_other currents th x first 0 (λ q. n (rw q (live_passed t k early v th th_live)))
        ∙ dead_passed t k early v x h n

    waits_right : (x : ℕ) → x < 32 → Dec (x ≡ b) → at (set waiting b 16) x ≡ waits_for handed x
    waits_right x h (yes q) = rw q (get_or-set_same waiting b 16 0 (omega (arith, sized.waits_size, both_low.1)) ∙ sym (holder_waits t k early v b b_holds))
    waits_right x h (no n) = get_or-set_other waiting b x 16 0 n ∙ waits_passed t k early v x h (others_not x n)

    pub followed : Tracks handed (set waiting b 16) (set holders cs b) (set between b m)
    followed = record {
      waits_right = λ x h. waits_right x h (ℕ_discrete x b);
      holders_right = holders_right;
      currents_right = numbers_passed t k early v (set between b m) both_lawful dead_zero;
    }
