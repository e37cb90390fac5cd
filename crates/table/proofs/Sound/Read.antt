-- What is defined on a table that keeps the rules, read off its fields. Assumes nothing.
use Prim.Native.Nat.{ℕ, ◌*◌, ◌<◌}
use mathlib.Core.Path.{◌≡◌, refl, sym, ◌∙◌}
use mathlib.Core.Bool.{Bool, true, false, cond}
use mathlib.Core.Logic.{◌≢◌, ◌⊎◌, inl, inr}
use native.Mathlib.Decide.{ℕ_discrete}
use native.Mathlib.Omega.{arith}
use lib.ListN.{length}
use Rattle.protocol.specs.Sets.{◌∈◌, Highest, Names}
use Rattle.protocol.specs.Events.{Thread, Resource, ◌≼◌}
use Rattle.protocol.proofs.Order.{≼_total}
use Rattle.protocol.proofs.Highest.{max_unique}
use Rattle.protocol.proofs.Runner.{running_unique}
use Rattle.protocol.proofs.Waiters.{topmost_waiter_one}
use Rattle.table.specs.declared.Table.{Table}
use Rattle.table.specs.Table.{at, live, own, stored, queues, Holds, Waits, Cprec, running}
use Rattle.table.specs.Sound.{Sound}
use Rattle.table.specs.Compute.{first_or_32, is_live, holder, waits_for, current, runner}
use Rattle.table.specs.Code.Places.{entry}
use Rattle.table.specs.Code.Shape.{Shape}
use Rattle.table.proofs.Arrays.Places.{part_length}
use Rattle.table.proofs.Sound.Queues.{live_low, holds_first}
use Rattle.table.proofs.Sound.Order.{owns_differ}
use Rattle.table.proofs.Tests.Computed.{tells_live, holds_holder, waits_for_is, waits_for_cases, runner_is}
use Rattle.table.proofs.Values.Values.{Good, bare_good, resource_low, current_defined}

-- what is stored of a number: itself for a live thread, and 0 for the others
pub if_live : (t : Table) (th x : ℕ) → th ∈ live t → cond (is_live t th) x 0 ≡ x
if_live t th x l = rw ((tells_live t th).1 l)

pub if_dead : (t : Table) (th x : ℕ) → ¬ (th ∈ live t) → cond (is_live t th) x 0 ≡ 0
if_dead t th x n = go (is_live t th) refl
  where
    go : (b : Bool) → is_live t th ≡ b → cond b x 0 ≡ 0
    go true e = absurd (n ((tells_live t th).0 e))
    go false e = refl

-- a sound table keeps the rules
pub sound_good : (t : Table) → Shape t → Sound t → Good t
sound_good t shape s = bare_good t shape s.bare

module _ (t : Table) (g : Good t) where
  -- a queue is as long as its length says
  pub queue_length : (cs : Resource) → cs < 16 → length (queues t cs) ≡ at t.rows.length cs
  queue_length cs h = part_length t.rows.queue (cs * 32) (at t.rows.length cs) (inr (omega (arith, g.shape.queue_size, g.bare.queues_right.lengths cs)))

  -- `holder` names the one that stands first in a queue,
  pub holder_first : (cs : Resource) → at t.rows.length cs ≢ 0 → holder t cs ≡ entry t.rows.queue cs 0
  holder_first cs n = holds_holder t (entry t.rows.queue cs 0) cs ((holds_first t g.shape g.bare.queues_right.lengths (entry t.rows.queue cs 0) cs).1 (omega arith, refl))

  -- and nobody where the queue is empty
  pub holder_free : (cs : Resource) → at t.rows.length cs ≡ 0 → holder t cs ≡ 32
  unfolding holder first_or_32
  holder_free cs z = rw z

  -- a number below 32 that it names holds
  pub holder_holds : (x : Thread) (cs : Resource) → x < 32 → holder t cs ≡ x → Holds t x cs
  holder_holds x cs low e = go (ℕ_discrete (at t.rows.length cs) 0)
    where
      go : Dec (at t.rows.length cs ≡ 0) → Holds t x cs
      go (yes z) = absurd (omega (arith, holder_free cs z))
      go (no n) = (holds_first t g.shape g.bare.queues_right.lengths x cs).1 (omega arith, sym (holder_first cs n) ∙ e)

  -- `waits_for` names what a thread waits for
  pub waited : (th : Thread) → ((waits_for t th < 16) × Waits t th (waits_for t th)) ⊎ ((waits_for t th ≡ 16) × ((cs : Resource) → ¬ Waits t th cs))
  waited = waits_for_cases t g.bare.one_wait (resource_low t g)

  pub waits_named : (th : Thread) (cs : Resource) → Waits t th cs → waits_for t th ≡ cs
  waits_named = waits_for_is t g.bare.one_wait (resource_low t g)

  -- `runner` names the running thread
  pub runs : Names 32 (running t) (runner t)
  runs = runner_is t g.order (resource_low t g) (live_low t g.shape)

  -- and no two do
  pub one_runner : (r q : ℕ) → Names 32 (running t) r → Names 32 (running t) q → r ≡ q
  one_runner r q (inl a) (inl b) = running_unique g.order (own t) (owns_differ g.bare) r q a.1 b.1
  one_runner r q (inl a) (inr b) = absurd (b.1 r a.1)
  one_runner r q (inr a) (inl b) = absurd (a.1 q b.1)
  one_runner r q (inr a) (inr b) = a.0 ∙ sym b.0

  -- and no two of those who wait for a resource have the highest current precedence
  pub one_heir : (cs : Resource) (x y : Thread) → x ∈ Highest ◌≼◌ (Cprec t) (λ u. Waits t u cs) → y ∈ Highest ◌≼◌ (Cprec t) (λ u. Waits t u cs) → x ≡ y
  one_heir cs = topmost_waiter_one g.order cs (own t) (owns_differ g.bare)

-- a live thread's stored current precedence is the defined one
pub current_stored : (t : Table) (shape : Shape t) → Sound t → (th : Thread) → th ∈ live t → current t th ≡ stored t th
current_stored t shape s th l = max_unique ◌≼◌ ≼_total (current_defined t (sound_good t shape s) th) (s.current th l)
