-- V, whoever follows: who waits for what afterwards, and at whom the law holds still. Assumes nothing.
use Prim.Native.Nat.{ℕ, ◌<◌}
use mathlib.Core.Path.{◌≡◌, sym, ◌∙◌}
use mathlib.Core.Option.{Option}
use mathlib.Core.List.{List}
use mathlib.Core.Logic.{⊎_elim}
use lib.ListN.{length, set}
use Rattle.protocol.specs.Sets.{◌∈◌}
use Rattle.protocol.specs.Events.{«V»}
use Rattle.protocol.specs.Graph.{Waits as WaitsIn}
use Rattle.protocol.specs.Schedule.{update, release as leave}
use Rattle.protocol.proofs.Lists.{Holding, Waiting, in_cases, update_cases}
use Rattle.protocol.proofs.Chains.{Free}
use Rattle.protocol.proofs.Ways.{free_waits, waits_free}
use Rattle.protocol.proofs.Forest.{Passes, pass_queue, pass_waits, pass_children, children_pass, heir_free}
use Rattle.table.specs.declared.Table.{Table}
use Rattle.table.specs.Table.{at, live, queues, Waits, Holds}
use Rattle.table.specs.Compute.{first_or_32, holder, waits_for}
use Rattle.table.specs.Code.Tracks.{current_number, Known}
use Rattle.table.proofs.Values.Values.{Good, Lawful, hops, own_rank, all_worth}
use Rattle.table.proofs.Values.Known.{known_good, known_own, worths_tracked}
use Rattle.events.specs.Events.{one_release_more}
use Rattle.events.specs.Code.Permits.{Permits, release}
use Rattle.events.proofs.Kept.Queues.{QueueFits, release_passes, release_fits, release_low}
use Rattle.events.proofs.Frame.Queue.{after, after_good, now_queued, queues_after, live_before, live_after, own_same, law_still, after_waits, waits_nothing, waits_still, holders_now, dead_still}

-- the thread that releases holds the resource and waits for nothing
pub release_head : {t : Table} {th cs : ℕ} {next : Option ℕ} → Permits t («V» th cs next) → Holds t th cs
release_head (release runs head follows) = head

pub release_idle : {t : Table} {th cs : ℕ} {next : Option ℕ} → Permits t («V» th cs next) → (r : ℕ) → ¬ Waits t th r
release_idle (release runs head follows) = runs.among.1

-- Before: t, which was found sound. After: the head of cs is gone and `next`, who may follow, has followed.
module _ (t : Table) {waiting holders owns currents : List ℕ} (k : Known t waiting holders owns currents) (early : t.clock < 65535) {th cs : ℕ} {next : Option ℕ} (v : Permits t («V» th cs next)) where
  -- the queue that is left
  abbrev pub left : List ℕ
  left = leave (queues t cs) next

  -- it may be given to cs
  abbrev low : cs < 16
  low = release_low t (known_good t k) v

  abbrev fits : QueueFits t cs left t.requests (one_release_more t th).releases
  fits = release_fits t (known_good t k) v

  passes : Passes (queues t) cs next
  passes = release_passes t (known_good t k) v

  -- the table with it, one event later
  abbrev pub passed_on : Table
  passed_on = after t k early cs left low fits

  abbrev pub passed_good : Good passed_on
  passed_good = after_good t k early cs left low fits

  pub queues_passed : queues passed_on ≡ update (queues t) cs left
  queues_passed = queues_after t k early cs left low fits

  -- the slots are what they were
  pub live_passed : (x : ℕ) → x ∈ live t → x ∈ live passed_on
  live_passed = live_after t k early cs left low fits

  pub own_kept : (x : ℕ) → own_rank passed_on passed_good x ≡ own_rank t (known_good t k) x
  own_kept = own_same t k early cs left low fits

  pub own_passed : (x : ℕ) → x ∈ live t → at owns x ≡ own_rank passed_on passed_good x
  own_passed x l = known_own t k x l ∙ sym (own_kept x)

  pub dead_passed : (x : ℕ) → x < 32 → ¬ (x ∈ live passed_on) → at currents x ≡ 0
  dead_passed = dead_still t k early cs left low fits

  -- nobody waits who didn't, and all wait still but the new holder
  pub waits_passed : (x : ℕ) → x < 32 → ¬ Holding left x → at waiting x ≡ waits_for passed_on x
  waits_passed x h n = waits_still t k early cs left low fits x h
      (update_cases (queues t) cs left (λ r q. Waiting (queues t r) x → Waiting q x) (λ w. ⊎_elim (λ i. absurd (n i)) (λ i. i) (in_cases left x (((pass_queue passes).waited x).1 w))) (λ r m w. w))
      (λ r. pass_waits passes r x)

  -- the new holder waits for nothing
  holder_idle : (b : ℕ) → Holding left b → (r : ℕ) → ¬ WaitsIn (now_queued t k early cs left low fits) b r
  holder_idle b h r = free_waits (now_queued t k early cs left low fits) b r (heir_free passes b h)

  pub holder_waits : (b : ℕ) → Holding left b → waits_for passed_on b ≡ 16
  holder_waits b h = waits_nothing t k early cs left low fits b (holder_idle b h)

  -- so the two who hold the resource, before and after, are nobody's children
  pub releaser_free : Free (hops passed_on passed_good) th
  releaser_free = waits_free (queues passed_on) th (λ r w. release_idle v r (pass_waits passes r th (after_waits t k early cs left low fits th r w)))

  pub holder_free : (b : ℕ) → Holding left b → Free (hops passed_on passed_good) b
  holder_free b h = waits_free (queues passed_on) b (λ r w. holder_idle b h r (after_waits t k early cs left low fits b r w))

  -- the law holds still at whoever isn't the new holder, and isn't the old one unless nobody waited
  pub law_passed : (y : ℕ) → y ∈ live passed_on → ¬ Holding left y → (Holds t y cs → (u : ℕ) → ¬ Waits t u cs) → Lawful passed_on passed_good (at currents) y
  law_passed y l gains loses = law_still t k early cs left low fits y (live_before t k early cs left low fits y l)
      (λ u c. ⊎_elim (λ j. j) (λ w. absurd (loses w.0 u w.1)) (children_pass passes u y c))
      (λ u c. ⊎_elim (λ j. j) (λ h. absurd (gains h)) (pass_children passes u y c))

  -- who holds cs is the first that is left
  pub holders_passed : length holders ≡ 16 → (h : ℕ) → h ≡ first_or_32 left → (r : ℕ) → r < 16 → at (set holders cs h) r ≡ holder passed_on r
  holders_passed = holders_now t k early cs left low fits

  -- numbers by the law and zeros elsewhere are those that go with the table
  pub numbers_passed : (c : List ℕ) → ((y : ℕ) → y ∈ live passed_on → Lawful passed_on passed_good (at c) y) → ((x : ℕ) → x < 32 → ¬ (x ∈ live passed_on) → at c x ≡ 0) →
      (x : ℕ) → x < 32 → at c x ≡ current_number passed_on x
  numbers_passed c law dead = worths_tracked passed_on passed_good c (all_worth passed_on passed_good (at c) law) dead
