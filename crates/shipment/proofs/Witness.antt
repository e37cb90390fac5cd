-- The draw task's theorem on an example, to be worked out on paper. A shipment is started; the draw ends, and task 1 takes the register, resource 0. Then the draw comes back: that is the moment. It
-- requests the register and waits, and a spare task comes with 240, above task 1's own 200. The premises are met, and task 1 runs at the end, at the draw's precedence. Assumes nothing.
use Rattle.std.specs.Prelude.{Some}
use Prim.Native.Nat.{ℕ, zero, suc, ◌≤◌}
use mathlib.Core.Path.{◌≡◌, refl, ap, subst, ◌∙◌}
use mathlib.Core.Logic.{inl, inr}
use mathlib.Core.List.{List, [], ◌∷◌, ◌++◌}
use native.Mathlib.Omega.{arith}
use lib.ListN.{drop, replicate}
use Rattle.protocol.specs.Sets.{◌∈◌, set, Names}
use Rattle.protocol.specs.Events.{Event, Create, Exit, P, State, threads}
use Rattle.protocol.specs.Schedule.{Cprec, running}
use Rattle.protocol.specs.Demand3.{Moment, HoldsOrWaits, Spares}
use Rattle.table.specs.declared.Table.{Table}
use Rattle.table.specs.Table.{empty, stored}
use Rattle.table.specs.Compute.{all_below, each, member, first_or_32, differ, find_below, is_live, holder, is_waiting, waits_for, blocker, depends, is_higher, highest_behind, current, is_ready, leader, runner, ends, same, dead_zero, spare_zero, time_right, queue_right, waits_once, held_below, unreleased, balance_right, totals_low, current_right, is_sound}
use Rattle.refusals.specs.declared.Record.{Record}
use Rattle.refusals.specs.Refusals.{malformed, leads, holds_any, unsound, by_record, by_thread, by_queues, refusals, lowest}
use Rattle.events.specs.Events.{tabulate, settled, with_slot, with_queue, changed, highest_current, heir, named, event_of}
use Rattle.events.specs.Count.{walk, request_count, release_count, count}
use Rattle.queries.specs.Queries.{running_refusals, running_answer}
use Rattle.locks.specs.Answers.{accepted as done, refused as turned_away, carried_out, answer_of}
use Rattle.demands.specs.Memory.{AnyTable, AnyRecord}
use Rattle.demands.specs.Runs.{event, table_after, create, exit, request}
use Rattle.demands.proofs.InMemory.{right_any}
use Rattle.demands.proofs.Reached.{start_reached}
use Rattle.demands.proofs.TheCalls.{the_calls, as_stated}
use Rattle.demands.proofs.Played.{noted, onward, play, table_is, Tale, start, accept, history}
use Rattle.shipment.specs.Shipped.{Act, call, add, AnyActs, table_since, fixed_tasks, Shipped}
use Rattle.shipment.specs.Ships.{calls_to, calls_of}
use Rattle.shipment.specs.Draw.{Since, Below250}
use Rattle.shipment.proofs.Tasks.{tasks_to}
use Rattle.shipment.proofs.AsCalls.{as_shipped}
use Rattle.shipment.proofs.Ships.{after_acts}
use Rattle.shipment.proofs.Draw.{stay_below}
use Rattle.shipment.proofs.TheTerminal.{the_terminal, as_told, draw_holds}

-- a record of a kind, a thread and an argument
abbrev of : ℕ → ℕ → ℕ → Record
of k t a = record { kind = k; thread = t; argument = a; zero = 0 }

-- Until the moment, the newest first: the draw ends; task 1 requests the register; the draw is created anew.
abbrev pub acts : List Act
acts = call (event (of 1 0 250)) ∷ (call (event (of 4 1 0)) ∷ (call (event (of 2 0 0)) ∷ []))

abbrev pub s : State
s = Create 0 250 ∷ (P 1 0 ∷ (Exit 0 ∷ fixed_tasks))

-- Since then: the draw requests the register, and spare task 16 is added at 240.
abbrev pub acts' : List Act
acts' = add 16 (Some 240) ∷ (call (event (of 4 0 0)) ∷ [])

abbrev pub s' : List Event
s' = Create 16 240 ∷ (P 0 0 ∷ [])

-- Worked out from the definitions: all is accepted, and task 1 runs at the end.
unfoldable ended : Table × List ℕ → List ℕ × ℕ
ended r = (r.1, (running_answer r.0).running)

worked_out : ended (play (calls_of (acts' ++ acts))) ≡ (replicate 21 0, 1)
unfolding all_below each member first_or_32 differ find_below is_live holder is_waiting waits_for blocker depends is_higher highest_behind current is_ready leader runner ends same dead_zero spare_zero time_right queue_right waits_once held_below unreleased balance_right totals_low current_right is_sound malformed leads holds_any unsound by_record by_thread by_queues refusals lowest tabulate settled with_slot with_queue changed highest_current heir named event_of walk request_count release_count count done turned_away carried_out answer_of running_refusals running_answer noted onward play ended
worked_out = refl

-- So these are the accepted events.
started : (n : ℕ) → Tale (calls_to n) (replicate (suc n) 0) (tasks_to n)
started zero = accept (create refl) start
started (suc n) = accept (create refl) (started n)

until : Tale (calls_of acts) (replicate 19 0) s
until = accept (create refl) (accept (request refl) (accept (exit refl) (started 15)))

since : Tale (calls_of (acts' ++ acts)) (replicate 21 0) (s' ++ s)
since = accept (create refl) (accept (request refl) until)

held : AnyTable empty
held = right_any empty start_reached.right

small : (k t a : ℕ) → k ≤ 255 → t ≤ 255 → a ≤ 255 → AnyRecord (of k t a)
small k t a x y z = record { kind = x; thread = y; argument = z; zero = omega arith }

bytes : AnyActs acts
bytes = (small 1 0 250 (omega arith) (omega arith) (omega arith), (small 4 1 0 (omega arith) (omega arith) (omega arith), (small 2 0 0 (omega arith) (omega arith) (omega arith), tt)))

bytes' : AnyActs (acts' ++ acts)
bytes' = ((omega arith, omega arith), (small 4 0 0 (omega arith) (omega arith) (omega arith), bytes))

later : Shipped the_calls the_terminal empty (acts' ++ acts) (s' ++ s)
unfolding noted onward play ended
later = as_shipped the_calls as_stated empty held the_terminal as_told (acts' ++ acts) bytes' (history since (ap (λ (x : List ℕ × ℕ). x.0) worked_out))

-- The premises are met.
pub met : Since the_calls the_terminal empty acts acts' s s'
unfolding noted onward play ended
met = record {
  memory = held;
  bytes = bytes';
  moment = as_shipped the_calls as_stated empty held the_terminal as_told acts bytes (history until (ap (λ (x : List ℕ × ℕ). drop 2 x.0) worked_out));
  later = later;
  live = inl refl;
  at_250 = refl;
  others_below = λ u l n. stay_below (Create 0 250 ∷ (P 1 0 ∷ (Exit 0 ∷ []))) low u n;
  spared = spared;
}
  where
    low : (e : Event) → e ∈ set (Create 0 250 ∷ (P 1 0 ∷ (Exit 0 ∷ []))) → Below250 e
    low e (inl q) = rw q (λ n. absurd (n refl))
    low e (inr (inl q)) = rw q tt
    low e (inr (inr (inl q))) = rw q tt
    low e (inr (inr (inr x))) = absurd x

    spared : (e : Event) → e ∈ set (Create 16 240 ∷ (P 0 0 ∷ [])) → Spares 0 250 e
    spared e (inl q) = rw q (omega arith)
    spared e (inr (inl q)) = rw q tt
    spared e (inr (inr x)) = absurd x

-- Task 1 runs at the end,
pub runs_1 : 1 ∈ running (s' ++ s)
unfolding noted onward play ended
runs_1 = go (subst (Names 32 (running (s' ++ s))) named_1 (after_acts the_calls as_stated the_terminal as_told empty held (acts' ++ acts) bytes' later).running_query.1)
  where
    named_1 : (the_calls.running (table_after the_calls empty (calls_of (acts' ++ acts)))).answer.running ≡ 1
    named_1 = ap (λ (t : Table). (the_calls.running t).answer.running) (table_is (calls_of (acts' ++ acts))) ∙ ap (λ (x : List ℕ × ℕ). x.1) worked_out

    go : Names 32 (running (s' ++ s)) 1 → 1 ∈ running (s' ++ s)
    go (inl w) = w.1
    go (inr w) = absurd (omega (arith, w.0))

-- and what the theorem says of it: it was live at the moment, has held or waited ever since, and runs at the draw's precedence, which is (250, 18), since the draw came back at time 18.
pub said : (1 ∈ threads s) × ((m : State) → Moment s s' m → HoldsOrWaits m 1) × Cprec (s' ++ s) 1 (250, 18) × (stored (table_since the_calls the_terminal empty (acts' ++ acts)) 1 ≡ (250, 18))
said = draw_holds.who_runs empty acts acts' s s' met 1 runs_1 (λ e. omega arith)
