-- A thread joins a queue: whose numbers may change, where the walk begins, and what it leaves. Assumes nothing.
use Prim.Native.Nat.{ℕ, suc, ◌+◌, ◌*◌, ◌≤◌, ◌<◌, max}
use mathlib.Core.Path.{◌≡◌, refl, sym, ap, ◌∙◌}
use mathlib.Core.List.{List, [], ◌∷◌, ◌++◌}
use mathlib.Core.Logic.{◌≢◌, ◌⊎◌, inl, inr, ⊎_elim, by_cases}
use native.Mathlib.Decide.{ℕ_discrete}
use native.Mathlib.Omega.{arith}
use lib.ListN.{length, set}
use lib.Seq.{get_or-set_same, get_or-set_other, set-get_or}
use Rattle.protocol.specs.Sets.{◌∈◌, hd}
use Rattle.protocol.specs.Events.{P}
use Rattle.protocol.specs.Children.{children}
use Rattle.protocol.proofs.LocalLaw.{Local}
use Rattle.protocol.proofs.Lists.{in_join}
use Rattle.protocol.proofs.Ways.{one_holder}
use Rattle.protocol.proofs.Forest.{Joins, join_children, children_join, join_waits, waits_join, newly_waits, join_new}
use Rattle.table.specs.declared.Table.{Table}
use Rattle.table.specs.Table.{at, live, queues, Holds, Waits}
use Rattle.table.specs.Compute.{first_or_32, holder, waits_for}
use Rattle.table.specs.Code.Places.{entry}
use Rattle.table.specs.Code.Tracks.{Sized}
use Rattle.table.proofs.Sound.Queues.{holds_first}
use Rattle.table.proofs.Sound.Read.{holder_first}
use Rattle.table.proofs.Tests.Computed.{sixteen}
use Rattle.table.proofs.Values.Values.{Good, hops, own_rank, Lawful, all_worth, StandsAt, resource_low, thread_low}
use Rattle.table.proofs.Values.Known.{known_good, known_own, known_worth, known_lawful, worths_tracked}
use Rattle.events.specs.Events.{one_request_more, with_queue, changed}
use Rattle.events.specs.Count.{walk, request_count, count}
use Rattle.events.specs.Code.Work.{Begun, DoneWith}
use Rattle.events.proofs.Kept.Queues.{QueueFits, request_fits, request_joins, request_low}
use Rattle.events.proofs.Frame.Queue as frame
use Rattle.events.proofs.Walk.Steps.{counts_short}
use Rattle.request.specs.Climb.{Climbed, Rising}
use Rattle.request.proofs.Walked.{Walks, climbed}
use Rattle.request.proofs.Rises.{comes_in, rising}
use Rattle.request.proofs.Joined.{room_for, joined_length, joined_places}

-- the count of a taken resource is the walk from its holder
taken_count : (b a : Table) (h : ℕ) (q : List ℕ) → h ∈ hd q → request_count b a q ≡ walk 32 b a h
unfolding request_count
taken_count b a h [] i = absurd i
taken_count b a h (x ∷ xs) i = ap (walk 32 b a) (sym i)

-- whoever stood first in a queue does so still when another joins it
first_joined : (q : List ℕ) (th h : ℕ) → h ∈ hd q → h ≡ first_or_32 (q ++ (th ∷ []))
unfolding first_or_32
first_joined [] th h i = absurd i
first_joined (x ∷ xs) th h i = i

module _ {t : Table} {th cs : ℕ} {queue lengths holders waiting owns currents : List ℕ} (k : Begun t (P th cs) queue lengths holders waiting owns currents) where
  good : Good t
  good = known_good t k.known

  pub resource : cs < 16
  resource = request_low t k.permitted

  abbrev q : List ℕ
  q = queues t cs ++ (th ∷ [])

  fits : QueueFits t cs q (one_request_more t th).requests t.releases
  fits = request_fits t good k.permitted

  joins : Joins (queues t) th cs
  joins = request_joins t good k.permitted

  alive : th ∈ live t
  alive = fits.entries th ((in_join (queues t cs) th th).1 (inr refl))

  pub thread : th < 32
  thread = thread_low t good th alive

  -- the table after the event, and what stays of the one before
  abbrev after : Table
  after = frame.after t k.known k.early cs q resource fits

  after_good : Good after
  after_good = frame.after_good t k.known k.early cs q resource fits

  was_live : (x : ℕ) → x ∈ live after → x ∈ live t
  was_live = frame.live_before t k.known k.early cs q resource fits

  own_same : (x : ℕ) → own_rank after after_good x ≡ own_rank t good x
  own_same = frame.own_same t k.known k.early cs q resource fits

  -- one child is new: th, of whoever holds cs
  child_still : (u y : ℕ) → u ∈ hops t good y → u ∈ hops after after_good y
  child_still u y c = frame.child_after t k.known k.early cs q resource fits u y (children_join joins u y c)

  child_before : (u y : ℕ) → u ∈ hops after after_good y → (u ∈ hops t good y) ⊎ ((u ≡ th) × Holds t y cs)
  child_before u y c = join_children joins u y (frame.after_child t k.known k.early cs q resource fits u y c)

  -- so the law holds still at the others
  others_lawful : (y : ℕ) → y ∈ live after → ¬ Holds t y cs → Lawful after after_good (at currents) y
  others_lawful y l n = frame.law_still t k.known k.early cs q resource fits y (was_live y l)
      (λ u. children_join joins u y)
      (λ u c. ⊎_elim (λ (d : u ∈ children (queues t) y). d) (λ w. absurd (n w.1)) (join_children joins u y c))

  -- and whoever is not th waits as it did; th too, where nobody holds cs
  waits_still : (x : ℕ) → x < 32 → (x ≢ th) ⊎ ((v : ℕ) → ¬ Holds t v cs) → at waiting x ≡ waits_for after x
  waits_still x h n = frame.waits_still t k.known k.early cs q resource fits x h (λ r. waits_join joins r x)
      (λ r w. ⊎_elim (λ (v : Waits t x r). v) (λ b. absurd (⊎_elim {C = ⊥} (λ d. d b.0) (λ d. d b.2.0 b.2.1) n)) (join_waits joins r x w))

  holders_now : length holders ≡ 16 → (h : ℕ) → h ≡ first_or_32 q → (r : ℕ) → r < 16 → at (set holders cs h) r ≡ holder after r
  holders_now = frame.holders_now t k.known k.early cs q resource fits

  dead_still : (x : ℕ) → x < 32 → ¬ (x ∈ live after) → at currents x ≡ 0
  dead_still = frame.dead_still t k.known k.early cs q resource fits

  -- the places and the lengths are those of the longer queue
  length_is : at lengths cs ≡ at t.rows.length cs
  length_is = ap (λ (l : List ℕ). at l cs) k.lengths_are

  pub room : at lengths cs < 32
  room = omega (arith, length_is, room_for t good cs th resource fits)

  joined : (set queue (cs * 32 + at lengths cs) th ≡ after.rows.queue) × (set lengths cs (at lengths cs + 1) ≡ after.rows.length)
  unfolding with_queue
  joined = rw (k.queue_is, k.lengths_are, ← joined_length t good cs th resource) (joined_places t good cs th resource (room_for t good cs th resource fits), refl)

  -- cs was free: th holds it, and no number changes
  pub free_done : length holders ≡ 16 → at lengths cs ≡ 0 →
      DoneWith t (P th cs) (set queue (cs * 32 + at lengths cs) th) (set lengths cs (at lengths cs + 1)) (set holders cs th) waiting currents 0
  unfolding changed count request_count first_or_32
  free_done size z =
      let e : at t.rows.length cs ≡ 0 = omega (arith, length_is) in record {
        queue_is = joined.0;
        lengths_are = joined.1;
        tracks = record {
          waits_right = λ x h. waits_still x h (inr (none e));
          holders_right = holders_now size th (rw e);
          currents_right = worths_tracked after after_good currents (all_worth after after_good (at currents) (λ y l. others_lawful y l (none e y))) dead_still;
        };
        counted = rw e;
      }
    where
      none : at t.rows.length cs ≡ 0 → (v : ℕ) → ¬ Holds t v cs
      none e v o = absurd (omega (arith, ((holds_first t good.shape good.bare.queues_right.lengths v cs).0 o).0))

  -- cs was taken: th waits for it, and the walk begins at its holder
  module _ (size : Sized waiting holders currents) (taken : at lengths cs ≢ 0) where
    abbrev h : ℕ
    h = at holders cs

    held : Holds t h cs
    held =
        let n : at t.rows.length cs ≢ 0 = λ z. taken (length_is ∙ z) in
        rw (k.known.tracks.holders_right cs resource ∙ holder_first t good cs n) ((holds_first t good.shape good.bare.queues_right.lengths (entry t.rows.queue cs 0) cs).1 (omega (arith, n), refl))

    holder_alive : h ∈ live after
    holder_alive = frame.live_after t k.known k.early cs q resource fits h (good.bare.queues_right.live_entries cs h held.0)

    stands : StandsAt after after_good (at currents) (at currents) h
    stands = record { here = holder_alive; others = λ y l n. others_lawful y l (λ o. n (one_holder (queues t) cs y h o held)); above = λ y r. refl }

    walks : Walks t after good after_good (set waiting th cs) holders owns (at currents)
    walks = record {
      waits_right = λ x low. by_cases (ℕ_discrete x th)
          (λ e. rw e (get_or-set_same waiting th cs 0 (omega (arith, size.waits_size, thread)) ∙ sym (frame.waits_now t k.known k.early cs q resource fits th cs (newly_waits joins h held))))
          (λ n. get_or-set_other waiting th x cs 0 n ∙ waits_still x low (inl n));
      holders_right = λ r low. rw (set-get_or holders cs 0) at (holders_now size.holders_size h (first_joined (queues t cs) th h held.1) r low);
      owns_right = λ x l. known_own t k.known x (was_live x l) ∙ sym (own_same x);
      before_right = λ x l. known_worth t k.known x (was_live x l);
    }

    -- worked out afresh, the holder would have the higher of its number and th's
    holder_next : Local ◌≤◌ (hops after after_good) (own_rank after after_good) (at currents) h (max (at currents h) (at currents th))
    holder_next = rw (own_same h) (comes_in (at currents) (at currents) (known_lawful t k.known h (was_live h holder_alive))
        (frame.child_after t k.known k.early cs q resource fits th h (join_new joins h held)) refl
        (λ u c. ⊎_elim (λ (d : u ∈ children (queues t) h). inl (d, refl)) (λ w. inr w.0) (child_before u h c))
        (λ u c. inl (child_still u h c, refl)))

    few : (after_good.order.forest.ends h).0 ≤ 16
    few = sixteen after after_good.order (resource_low after after_good) (thread_low after after_good) h

    -- so from there on numbers rise to th's
    pub start_rises : (n : ℕ) × (n ≤ 17) × Rising (changed t (P th cs)).rows.queue (changed t (P th cs)).rows.length holders (set waiting th cs) owns (at currents th) currents h n
    unfolding changed
    start_rises = (suc (after_good.order.forest.ends h).0, omega (arith, few), rising walks (at currents th) (after_good.order.forest.ends h).1 currents size.currents_size stands holder_next)

    -- after the walk all numbers are right, and it counts what the definition counts
    pub taken_done : {e : List ℕ} {n : ℕ} → Climbed (changed t (P th cs)).rows.queue (changed t (P th cs)).rows.length holders (set waiting th cs) owns currents h n e →
        DoneWith t (P th cs) (set queue (cs * 32 + at lengths cs) th) (set lengths cs (at lengths cs + 1)) holders (set waiting th cs) e n
    unfolding changed count
    taken_done {e} {n} c =
        let o = climbed walks c size.currents_size stands in record {
          queue_is = joined.0;
          lengths_are = joined.1;
          tracks = record {
            waits_right = walks.waits_right;
            holders_right = walks.holders_right;
            currents_right = worths_tracked after after_good e o.worths (λ x l d. o.kept x d ∙ dead_still x l d);
          };
          counted = sym (taken_count t after h (queues t cs) held.1 ∙ o.counted 32 (omega (arith, few, counts_short t after after_good (after_good.order.forest.ends h).1 n o.counted)));
        }
