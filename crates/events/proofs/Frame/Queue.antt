-- One queue was rewritten: what each thread waits for, who holds what, and at whom the law holds still. Assumes nothing.
use Prim.Native.Nat.{ℕ, ◌≤◌, ◌<◌}
use mathlib.Core.Path.{◌≡◌, refl, sym, ap, subst, ◌∙◌}
use mathlib.Core.List.{List}
use mathlib.Core.Logic.{inl, inr, ⊎_elim, by_cases}
use native.Mathlib.Decide.{ℕ_discrete}
use native.Mathlib.Omega.{arith}
use lib.ListN.{length, set}
use lib.Seq.{get_or-set_same, get_or-set_other}
use Rattle.protocol.specs.Sets.{◌∈◌, only, ◌∪◌, image}
use Rattle.protocol.specs.Graph.{Queues, Waits as WaitsIn}
use Rattle.protocol.specs.Schedule.{update}
use Rattle.protocol.specs.Children.{children}
use Rattle.protocol.proofs.Lists.{update_there, update_else}
use Rattle.protocol.proofs.Highest.{max_map}
use Rattle.table.specs.declared.Table.{Table}
use Rattle.table.specs.Table.{at, live, queues, Waits}
use Rattle.table.specs.Compute.{first_or_32, holder, waits_for}
use Rattle.table.specs.Code.Tracks.{Known}
use Rattle.table.proofs.Sound.Read.{waited, waits_named}
use Rattle.table.proofs.Values.Numbers.{≤_total}
use Rattle.table.proofs.Values.Values.{Good, hops, own_rank, Lawful}
use Rattle.table.proofs.Values.Known.{known_good, known_lawful, known_dead}
use Rattle.events.specs.Events.{later, with_totals, with_queue}
use Rattle.events.proofs.Queues.Queued.{queues_queued}
use Rattle.events.proofs.Kept.Shapes.{totals_shape}
use Rattle.events.proofs.Kept.Queues.{QueueFits, queue_short}
use Rattle.events.proofs.Kept.Stays.{queue_good}

-- Before: t, which was found sound. After, one event later: cs has the queue q, and the threads have these totals.
module _ (t : Table) {waiting holders owns currents requests releases : List ℕ} (k : Known t waiting holders owns currents) (early : t.clock < 65535) (cs : ℕ) (q : List ℕ) (low : cs < 16) (fits : QueueFits t cs q requests releases) where
  abbrev pub after : Table
  after = later (with_queue (with_totals t requests releases) cs q)

  pub after_good : Good after
  after_good = queue_good t (known_good t k) early cs q low fits

  abbrev pub now_queued : Queues
  now_queued = update (queues t) cs q

  pub queues_after : queues after ≡ now_queued
  unfolding with_queue
  queues_after = queues_queued (with_totals t requests releases) cs q (totals_shape k.shape fits.totals.requests_size fits.totals.releases_size) low (queue_short t cs q k.shape fits) k.sound.bare.queues_right.lengths

  -- who is live, and the own precedences, are what they were
  pub live_before : (x : ℕ) → x ∈ live after → x ∈ live t
  unfolding with_queue
  live_before x l = l

  pub live_after : (x : ℕ) → x ∈ live t → x ∈ live after
  unfolding with_queue
  live_after x l = l

  pub own_same : (x : ℕ) → own_rank after after_good x ≡ own_rank t (known_good t k) x
  unfolding with_queue
  own_same x = refl

  -- who waits, who holds and who is whose child, by the queues as they are now
  pub waits_after : (x r : ℕ) → WaitsIn now_queued x r → Waits after x r
  waits_after x r = subst (λ (wq : Queues). WaitsIn wq x r) (sym queues_after)

  pub after_waits : (x r : ℕ) → Waits after x r → WaitsIn now_queued x r
  after_waits x r = subst (λ (wq : Queues). WaitsIn wq x r) queues_after

  pub child_after : (u y : ℕ) → u ∈ children now_queued y → u ∈ hops after after_good y
  child_after u y = subst (λ (wq : Queues). u ∈ children wq y) (sym queues_after)

  pub after_child : (u y : ℕ) → u ∈ hops after after_good y → u ∈ children now_queued y
  after_child u y = subst (λ (wq : Queues). u ∈ children wq y) queues_after

  -- the law holds still at a thread whose children are the ones that it had
  pub law_still : (y : ℕ) → y ∈ live t → ((u : ℕ) → u ∈ children (queues t) y → u ∈ children now_queued y) → ((u : ℕ) → u ∈ children now_queued y → u ∈ children (queues t) y) → Lawful after after_good (at currents) y
  law_still y l there back = rw (own_same y) (max_map ◌≤◌ ≤_total to from (known_lawful t k y l))
    where
      O : ℕ
      O = own_rank t (known_good t k) y

      to : (a : ℕ) → a ∈ (only O ∪ image (at currents) (hops t (known_good t k) y)) → a ∈ (only O ∪ image (at currents) (hops after after_good y))
      to a (inl e) = inl e
      to a (inr (u, c, e)) = inr (u, child_after u y (there u c), e)

      from : (a : ℕ) → a ∈ (only O ∪ image (at currents) (hops after after_good y)) → a ∈ (only O ∪ image (at currents) (hops t (known_good t k) y))
      from a (inl e) = inl e
      from a (inr (u, c, e)) = inr (u, back u (after_child u y c), e)

  -- what a thread waits for now; the same as before where it waits as it did
  pub waits_now : (x r : ℕ) → WaitsIn now_queued x r → waits_for after x ≡ r
  waits_now x r w = waits_named after after_good x r (waits_after x r w)

  pub waits_nothing : (x : ℕ) → ((r : ℕ) → ¬ WaitsIn now_queued x r) → waits_for after x ≡ 16
  waits_nothing x none = ⊎_elim {C = waits_for after x ≡ 16} (λ w. absurd (none (waits_for after x) (after_waits x (waits_for after x) w.1))) (λ w. w.0) (waited after after_good x)

  pub waits_still : (x : ℕ) → x < 32 → ((r : ℕ) → Waits t x r → WaitsIn now_queued x r) → ((r : ℕ) → WaitsIn now_queued x r → Waits t x r) → at waiting x ≡ waits_for after x
  waits_still x h there back = k.tracks.waits_right x h ∙ ⊎_elim {C = waits_for t x ≡ waits_for after x}
      (λ w. sym (waits_now x (waits_for t x) (there (waits_for t x) w.1)))
      (λ w. w.0 ∙ sym (waits_nothing x (λ r v. w.1 r (back r v))))
      (waited t (known_good t k) x)

  -- who holds cs is the first of q, and the holders of the others are what they were
  pub holders_now : length holders ≡ 16 → (h : ℕ) → h ≡ first_or_32 q → (r : ℕ) → r < 16 → at (set holders cs h) r ≡ holder after r
  unfolding holder
  holders_now size h e r l = by_cases (ℕ_discrete r cs)
      (λ d. rw d (get_or-set_same holders cs h 0 (omega arith) ∙ e ∙ ap first_or_32 (sym (queue_now cs ∙ update_there (queues t) cs q))))
      (λ d. get_or-set_other holders cs r h 0 d ∙ k.tracks.holders_right r l ∙ ap first_or_32 (sym (queue_now r ∙ update_else (queues t) cs q r d)))
    where
      queue_now : (r : ℕ) → queues after r ≡ now_queued r
      queue_now r = ap (λ (wq : Queues). wq r) queues_after

  -- the numbers of those that aren't live stay zero
  pub dead_still : (x : ℕ) → x < 32 → ¬ (x ∈ live after) → at currents x ≡ 0
  dead_still x h n = known_dead t k x h (λ l. n (live_after x l))
