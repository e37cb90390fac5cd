-- Demand 3 on an example, to be worked out on paper: a kernel's calls from the empty table on, with a moment in the middle. Its premises are met, another runs at the end, what the first sentence says
-- of it is worked out, and the bound of the second sentence is reached. Whose events they are, and who holds what at which moment, is in protocol's Witness. Assumes nothing.
use Prim.Native.Nat.{ℕ, ◌*◌, ◌≤◌}
use mathlib.Core.Path.{◌≡◌, refl, ap, ◌∙◌}
use mathlib.Core.Option.{some}
use mathlib.Core.List.{List, [], ◌∷◌, ◌++◌}
use native.Mathlib.Omega.{arith}
use lib.ListN.{drop}
use Rattle.protocol.specs.Sets.{◌∈◌}
use Rattle.protocol.specs.Events.{Create, Set, P, «V», State, threads, Precedence}
use Rattle.protocol.specs.Schedule.{Cprec}
use Rattle.protocol.specs.Demand3.{Moment, HoldsOrWaits, calls_of_others}
use Rattle.protocol.proofs.Witness.{s, s', s₂, s₂', live, highest, spared, number, few}
use Rattle.table.specs.declared.Table.{Table}
use Rattle.table.specs.Table.{empty, stored}
use Rattle.table.specs.Compute.{all_below, each, member, first_or_32, differ, find_below, is_live, holder, is_waiting, waits_for, blocker, depends, is_higher, highest_behind, current, is_ready, leader, runner, ends, same, dead_zero, spare_zero, time_right, queue_right, waits_once, held_below, unreleased, balance_right, totals_low, current_right, is_sound}
use Rattle.refusals.specs.declared.Record.{Record}
use Rattle.refusals.specs.Refusals.{malformed, leads, holds_any, unsound, by_record, by_thread, by_queues, refusals, lowest}
use Rattle.events.specs.Events.{tabulate, settled, with_slot, with_queue, changed, highest_current, heir, named, event_of}
use Rattle.events.specs.Count.{walk, request_count, release_count, count}
use Rattle.queries.specs.Queries.{running_refusals, running_answer}
use Rattle.locks.specs.declared.Done.{Done}
use Rattle.locks.specs.Answers.{accepted as done, refused as turned_away, carried_out, answer_of}
use Rattle.demands.specs.Runs.{running, thread, resource, Call, event, ask, table_after, create, set_anew, request, release, History}
use Rattle.demands.specs.Demand3.{Since, RunsAfter, by_query, by_answer}
use Rattle.demands.proofs.InMemory.{right_any}
use Rattle.demands.proofs.Reached.{start_reached}
use Rattle.demands.proofs.TheCalls.{the_calls, demand_3_met}
use Rattle.demands.proofs.Played.{noted, onward, play, table_is, Tale, start, accept, hand_over, refuse, query, history, nobody, in_bytes, all_in_bytes, tells_all_bytes}

-- a record of a kind, a thread and an argument
abbrev of : ℕ → ℕ → ℕ → Record
of k t a = record { kind = k; thread = t; argument = a; zero = 0 }

-- Until the moment, the newest first: 0 is created and holds resource 0; 2 is created and holds 1; 1, the first thread, is created.
abbrev pub ks : List Call
ks = event (of 1 1 5) ∷ event (of 4 2 1) ∷ event (of 1 2 2) ∷ event (of 4 0 0) ∷ event (of 1 0 1) ∷ []

-- Since then, the newest first, all but the last record. To the right who runs afterwards or, of what is refused, the number.
abbrev pub before_last : List Call
before_last =
    event (of 5 1 1)  -- V 1 1: 1 runs
    ∷ event (of 2 1 0)  -- Exit 1: 11
    ∷ event (of 5 2 1)  -- V 2 1: 1 runs
    ∷ event (of 3 0 7)  -- Set 0 7: 8, after 0 let go
    ∷ event (of 5 0 0)  -- V 0 0: 2 runs
    ∷ event (of 2 0 0)  -- Exit 0: 11
    ∷ event (of 3 0 5)  -- Set 0 5: 0 runs
    ∷ event (of 1 3 5)  -- Create 3 5: 0 runs
    ∷ event (of 1 1 9)  -- Create 1 9: 6
    ∷ event (of 4 2 0)  -- P 2 0: 0 runs
    ∷ event (of 3 1 9)  -- Set 1 9: 8
    ∷ ask (resource 255)
    ∷ ask (thread 255)
    ∷ ask running
    ∷ event (of 4 1 1)  -- P 1 1: 2 runs
    ∷ []

-- P 1 0: 2 runs
abbrev pub last : Record
last = of 4 1 0

-- all of them, and a query at the end
abbrev pub ks' : List Call
ks' = ask running ∷ event last ∷ before_last

-- The numbers of all of these.
abbrev numbers : List ℕ
numbers = 0 ∷ 0 ∷ 11 ∷ 0 ∷ 8 ∷ 0 ∷ 11 ∷ 0 ∷ 0 ∷ 6 ∷ 0 ∷ 8 ∷ 0 ∷ 0 ∷ 0 ∷ 0 ∷ 0 ∷ 0 ∷ []

-- The accepted events are s until the moment,
until : Tale ks (drop 13 numbers) s
until = accept (create refl) (accept (request refl) (accept (create refl) (accept (request refl) (accept (create refl) start))))

-- and s' since.
since : Tale (ks' ++ ks) numbers (s' ++ s)
unfolding in_bytes all_in_bytes
since =
    query (
    accept (request refl) (
    accept (release refl (nobody m₃ 1 1 refl)) (
    refuse 10 (
    hand_over 2 1 refl refl (λ e. omega arith) ((tells_all_bytes (drop 3 before_last ++ ks)).0 refl) (
    refuse 7 (
    hand_over 0 2 refl refl (λ e. omega arith) ((tells_all_bytes (drop 5 before_last ++ ks)).0 refl) (
    refuse 10 (
    accept (set_anew refl) (
    accept (create refl) (
    refuse 5 (
    accept (request refl) (
    refuse 7 (
    query (query (query (
    accept (request refl) until))))))))))))))))
  where
    -- the state in which the last V happens
    m₃ : State
    m₃ = «V» 2 1 (some 1) ∷ «V» 0 0 (some 2) ∷ Set 0 5 ∷ Create 3 5 ∷ P 2 0 ∷ P 1 1 ∷ s

-- What all of it leads to: the numbers; who runs, by the query and by the answer to the last record; and the stored precedence of thread 2.
pub record Ending : Type 0 where
  pub numbered : List ℕ
  pub by_query : ℕ
  pub by_answer : ℕ
  pub stored_of_2 : Precedence

unfoldable ended : Done → List ℕ → Ending
ended d ns = record { numbered = d.answer.number ∷ ns; by_query = (running_answer d.table).running; by_answer = d.answer.running; stored_of_2 = stored d.table 2 }

unfoldable after : Table × List ℕ → Ending
after r = ended (answer_of r.0 last) r.1

-- A second example, the newest first: thread 0 is created and holds resource 0, lets go of it, is set anew and holds resource 1.
abbrev pub ks₂ : List Call
ks₂ = event (of 4 0 1) ∷ event (of 3 0 2) ∷ event (of 5 0 0) ∷ event (of 4 0 0) ∷ event (of 1 0 1) ∷ []

-- Worked out from the definitions: in the first thread 2 runs at the end, and stores thread 1's own precedence; in the second all is accepted.
worked_out : ◌≡◌ {A = Ending × List ℕ} (after (play (before_last ++ ks)), (play ks₂).1) (record { numbered = numbers; by_query = 2; by_answer = 2; stored_of_2 = (5, 4) }, 0 ∷ 0 ∷ 0 ∷ 0 ∷ 0 ∷ [])
unfolding all_below each member first_or_32 differ find_below is_live holder is_waiting waits_for blocker depends is_higher highest_behind current is_ready leader runner ends same dead_zero spare_zero time_right queue_right waits_once held_below unreleased balance_right totals_low current_right is_sound malformed leads holds_any unsound by_record by_thread by_queues refusals lowest tabulate settled with_slot with_queue changed highest_current heir named event_of walk request_count release_count count done turned_away carried_out answer_of running_refusals running_answer noted onward play ended after
worked_out = refl

-- The premises are met.
pub met : Since the_calls empty 1 ks ks' s s'
unfolding in_bytes all_in_bytes noted onward play ended after
met = record {
  memory = right_any empty start_reached.right;
  bytes = (tells_all_bytes (ks' ++ ks)).0 refl;
  moment = history until (ap (λ (x : Ending × List ℕ). drop 13 x.0.numbered) worked_out);
  later = history since (ap (λ (x : Ending × List ℕ). x.0.numbered) worked_out);
  live = live;
  highest = highest;
  spared = spared;
}

-- Thread 2 runs at the end, by either call.
named_by_query : RunsAfter the_calls empty (ks' ++ ks) 2
unfolding noted onward play ended after
named_by_query = by_query {th = 2} (omega arith) (ap (λ (t : Table). (the_calls.running t).answer.running) (table_is (ks' ++ ks)) ∙ ap (λ (x : Ending × List ℕ). x.0.by_query) worked_out)

named_by_answer : RunsAfter the_calls empty (ks' ++ ks) 2
unfolding ended after
named_by_answer = by_answer (running ∷ []) last (before_last ++ ks) {th = 2} (omega arith) (ap (λ (t : Table). (the_calls.step t last).answer.running) (table_is (before_last ++ ks)) ∙ ap (λ (x : Ending × List ℕ). x.0.by_answer) worked_out)

-- The first sentence: it was live at the moment, has held or waited ever since, and runs at thread 1's own precedence, (5, 4), which is the stored one too.
abbrev Said : Type 0
Said = (2 ∈ threads s) × ((m : State) → Moment s s' m → HoldsOrWaits m 2) × Cprec (s' ++ s) 2 (5, 4) × (stored (table_after the_calls empty (ks' ++ ks)) 2 ≡ (5, 4))

pub said_by_query : Said
said_by_query = demand_3_met.who_runs empty 1 ks ks' s s' met 2 named_by_query (λ e. omega arith)

pub said_by_answer : Said
said_by_answer = demand_3_met.who_runs empty 1 ks ks' s s' met 2 named_by_answer (λ e. omega arith)

-- The second sentence: there are two others, 0 and 2, and each calls at most twice until it first neither holds nor waits; so all others together call at most four times,
pub bound : calls_of_others 1 s' ≤ 2 * 2
bound = demand_3_met.how_many empty 1 ks ks' s s' met 2 2 number few

-- and they do call four times.
pub bound_reached : calls_of_others 1 s' ≡ 2 * 2
bound_reached = refl

-- In the second example what thread 0 calls after it let go would not count (`until_let_go` and `one_of_three` in protocol's Witness), though its events come about. While a first thread stands highest
-- such calls are refused: see `Set 0 7` above.
pub lets_go_and_calls : History the_calls empty ks₂ (s₂' ++ s₂)
lets_go_and_calls = history (accept (request refl) (accept (set_anew refl) (accept (release refl (nobody s₂ 0 0 refl)) (accept (request refl) (accept (create refl) start))))) (ap (λ (x : Ending × List ℕ). x.1) worked_out)
