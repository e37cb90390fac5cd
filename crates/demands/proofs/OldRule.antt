-- Document 02, K5: one that still hands over to the waiter of highest own precedence does not meet the demands, by document 01's case with four threads. Assumes nothing.
use Prim.Native.Nat.{ℕ}
use mathlib.Core.Path.{◌≡◌, refl, ap, ◌∙◌}
use mathlib.Core.List.{List, [], ◌∷◌}
use mathlib.Core.Logic.{◌⊎◌, inl, inr}
use native.Mathlib.Omega.{arith}
use Rattle.protocol.specs.Sets.{◌∈◌, Highest}
use Rattle.protocol.specs.Events.{Thread, Precedence, ◌≼◌}
use Rattle.table.specs.declared.Table.{Table}
use Rattle.table.specs.Table.{empty, own, queues, Waits}
use Rattle.table.specs.Compute.{all_below, each, member, first_or_32, differ, find_below, is_live, holder, is_waiting, waits_for, blocker, depends, is_higher, highest_behind, current, is_ready, leader, runner, ends, same, dead_zero, spare_zero, time_right, queue_right, waits_once, held_below, unreleased, balance_right, totals_low, current_right, is_sound}
use Rattle.refusals.specs.declared.Record.{Record}
use Rattle.refusals.specs.Refusals.{malformed, leads, holds_any, unsound, by_record, by_thread, by_queues, refusals, lowest}
use Rattle.events.specs.Events.{tabulate, settled, with_slot, with_queue, changed, highest_current, heir, named, event_of}
use Rattle.events.specs.Count.{walk, request_count, release_count, count}
use Rattle.locks.specs.declared.Answer.{Answer}
use Rattle.locks.specs.Answers.{accepted, refused, carried_out, answer_of}
use Rattle.demands.specs.Memory.{AnyTable, AnyRecord}
use Rattle.demands.specs.Calls.{Left, Calls}
use Rattle.demands.specs.Runs.{Call, event, AnyCalls, table_after}
use Rattle.demands.specs.Demand1.{Demand1}
use Rattle.demands.specs.Demand2.{Demand2}
use Rattle.demands.proofs.InMemory.{right_any}
use Rattle.demands.proofs.Reached.{start_reached}
use Rattle.demands.proofs.TheCalls.{the_calls}
use Rattle.demands.proofs.NothingFree.{AsNamed, nothing_free}
use Rattle.demands.proofs.Played.{noted, onward, play, table_is, in_bytes, all_in_bytes, tells_all_bytes}

-- at an accepted V, the waiter of highest own precedence is the holder afterwards
abbrev pub OwnFollows : Calls → Type 0
OwnFollows c = (t : Table) (e : Record) → AnyTable t → AnyRecord e → e.kind ≡ 5 → (c.step t e).answer.number ≡ 0 →
    (b : Thread) → b ∈ Highest ◌≼◌ (λ u p. p ≡ own t u) (λ u. Waits t u e.argument) → holder (c.step t e).table e.argument ≡ b

abbrev of : ℕ → ℕ → ℕ → Record
of k t a = record { kind = k; thread = t; argument = a; zero = 0 }

-- the nine records before the V, the newest first: 1 and 2 wait for resource 0; 1 holds resource 1, for which 3 waits
abbrev pub nine : List Call
nine =
    event (of 4 3 1) ∷ event (of 1 3 50) ∷ event (of 4 2 0) ∷ event (of 1 2 9) ∷ event (of 4 1 0) ∷ event (of 4 1 1) ∷ event (of 1 1 5) ∷ event (of 4 0 0) ∷ event (of 1 0 1) ∷ []

-- V 0 0
abbrev pub last : Record
last = of 5 0 0

any_last : AnyRecord last
any_last = record { kind = omega arith; thread = omega arith; argument = omega arith; zero = omega arith }

-- who stands at resource 0 before it, and with which own precedences; its number, and who holds the resource after it
pub record Ending : Type 0 where
  pub before : List ℕ
  pub own_of_1 : Precedence
  pub own_of_2 : Precedence
  pub number : ℕ
  pub holder_after : ℕ

unfoldable ended : Table → Left Answer → Ending
ended t l = record { before = queues t 0; own_of_1 = own t 1; own_of_2 = own t 2; number = l.answer.number; holder_after = holder l.table 0 }

unfoldable after : Table × List ℕ → Ending
after r = ended r.0 (the_calls.step r.0 last)

abbrev as_amended : Ending
as_amended = record { before = 0 ∷ 1 ∷ 2 ∷ []; own_of_1 = (5, 2); own_of_2 = (9, 5); number = 0; holder_after = 1 }

worked_out : after (play nine) ≡ as_amended
unfolding all_below each member first_or_32 differ find_below is_live holder is_waiting waits_for blocker depends is_higher highest_behind current is_ready leader runner ends same dead_zero spare_zero time_right queue_right waits_once held_below unreleased balance_right totals_low current_right is_sound malformed leads holds_any unsound by_record by_thread by_queues refusals lowest tabulate settled with_slot with_queue changed highest_current heir named event_of walk request_count release_count count accepted refused carried_out answer_of noted onward play ended after
worked_out = refl

-- in any such table 2 has the highest own precedence of the two who wait
2_is_highest : (t : Table) → queues t 0 ≡ 0 ∷ 1 ∷ 2 ∷ [] → own t 1 ≡ (5, 2) → own t 2 ≡ (9, 5) → 2 ∈ Highest ◌≼◌ (λ u p. p ≡ own t u) (λ u. Waits t u 0)
2_is_highest t stand own_1 own_2 = record { among = waiting; at = own t 2; value = refl; top = record { among = (2, waiting, refl); bound = λ p w. rw w.2 (over w.0 (rw stand at w.1)) } }
  where
    waiting : Waits t 2 0
    waiting = rw stand (inr (inr (inl refl)), λ e. omega arith)

    over : (u : Thread) → ((u ≡ 0) ⊎ ((u ≡ 1) ⊎ ((u ≡ 2) ⊎ ⊥))) × ¬ (u ≡ 0) → own t u ≼ own t 2
    over u (inl e, n) = absurd (n e)
    over u (inr (inl e), n) = rw e (inr (inl (omega (arith, ap (λ (p : Precedence). p.0) own_1, ap (λ (p : Precedence). p.0) own_2))))
    over u (inr (inr (inl e)), n) = inl (ap (own t) e)
    over u (inr (inr (inr x)), n) = absurd x

-- any calls that meet the demands come to the same
ending : (c : Calls) → Demand1 c → Demand2 c → (t : Table) × AnyTable t × (ended t (c.step t last) ≡ as_amended)
unfolding in_bytes all_in_bytes after
ending c d₁ d₂ = (
  table_after c empty nine,
  (d₂ empty start nine bytes).1.memory,
  (λ i. ended (n.table i) (n.step last any_last i)) ∙ ap (λ (u : Table). ended u (the_calls.step u last)) (table_is nine) ∙ worked_out,
)
  where
    start : AnyTable empty
    start = right_any empty start_reached.right

    bytes : AnyCalls nine
    bytes = (tells_all_bytes nine).0 refl

    n : AsNamed c empty nine
    n = nothing_free c d₁ d₂ empty start nine bytes

-- so 2 does not follow
pub own_follows : (c : Calls) → OwnFollows c → Demand1 c → ¬ Demand2 c
unfolding ended
own_follows c wrong d₁ d₂ =
    let w = ending c d₁ d₂ in
    let two = 2_is_highest w.0 (ap (λ (x : Ending). x.before) w.2) (ap (λ (x : Ending). x.own_of_1) w.2) (ap (λ (x : Ending). x.own_of_2) w.2) in
    absurd (omega (arith, wrong w.0 last w.1 any_last refl (ap (λ (x : Ending). x.number) w.2) 2 two, ap (λ (x : Ending). x.holder_after) w.2))
