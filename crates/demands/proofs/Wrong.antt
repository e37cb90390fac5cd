-- What the statements rule out: the wrong schedulers of document 01, "How much each call's statement says", and two that count no requests (document 02, K2). Assumes nothing.
use Prim.Native.Nat.{ℕ, ◌≤◌, ◌<◌}
use mathlib.Core.Path.{◌≡◌, refl, sym, ap, subst, ◌∙◌}
use mathlib.Core.Logic.{◌≢◌, inl, inr, ⊎_elim}
use mathlib.Core.List.{[], ◌∷◌}
use native.Mathlib.Decide.{ℕ_discrete}
use native.Mathlib.Omega.{arith}
use borrow.Author.Tests.{le-ltb}
use Rattle.protocol.specs.Sets.{◌∈◌, Names}
use Rattle.protocol.specs.Events.{Create, P, State}
use Rattle.protocol.specs.Graph.{T, C, ◌⁺, edge, then}
use Rattle.protocol.specs.Schedule.{RAG, running as runs}
use Rattle.protocol.specs.Rules.{Step, create as create_step, request as request_step}
use Rattle.protocol.proofs.Theorems.{some_runs}
use Rattle.table.specs.declared.Table.{Table}
use Rattle.table.specs.Table.{at, empty}
use Rattle.table.specs.Sound.{Sound}
use Rattle.refusals.specs.declared.Record.{Record}
use Rattle.refusals.specs.Refusals.{malformed, by_record, lowest}
use Rattle.refusals.proofs.Given.Formed.{well_formed}
use Rattle.locks.specs.declared.Answer.{Answer}
use Rattle.locks.specs.Answers.{answer_of}
use Rattle.demands.specs.Memory.{AnyTable, AnyRecord}
use Rattle.demands.specs.Calls.{Calls}
use Rattle.demands.specs.Stated.{AsStated}
use Rattle.demands.specs.Runs.{Query, running, thread, resource, event, ask, AnyCall, table_after, number_of, Writes, create, request, History, none_yet, accepted, asked, WellFormed}
use Rattle.demands.specs.Counted.{Counts, create as create_count}
use Rattle.demands.specs.Demand1.{Demand1}
use Rattle.demands.specs.Demand2.{After, Demand2}
use Rattle.demands.proofs.InMemory.{right_any}
use Rattle.demands.proofs.Reached.{start_reached}
use Rattle.demands.proofs.Demand2.{after}
use Rattle.demands.proofs.AnyTable.{refusal_counts_0}

-- The wrong schedulers, each any functions in the places of the calls, for any table and any record.

-- One that refuses everything does not meet demand 2.
abbrev pub RefusesEverything : Calls → Type 0
RefusesEverything c = (t : Table) (e : Record) → AnyTable t → AnyRecord e → (c.step t e).answer.number ≢ 0

-- One that always names one thread, in the step's answers or in the running query's, does not.
abbrev pub NamesOne : Calls → ℕ → Type 0
NamesOne c r = (t : Table) (e : Record) → AnyTable t → AnyRecord e → (c.step t e).answer.running ≡ r

abbrev pub QueryNamesOne : Calls → ℕ → Type 0
QueryNamesOne c r = (t : Table) → AnyTable t → (c.running t).answer.running ≡ r

-- One that accepts and touches nothing does not, whatever it answers.
abbrev pub TouchesNothing : Calls → Type 0
TouchesNothing c = (t : Table) (e : Record) → AnyTable t → AnyRecord e → (c.step t e).table ≡ t

-- One that, whatever it does with the first event, afterwards only answers 0 does not.
abbrev pub ThenAnswers0 : Calls → Type 0
ThenAnswers0 c = (t : Table) (e : Record) → AnyTable t → AnyRecord e → t ≢ empty → (c.step t e).answer.number ≡ 0

-- One of whose queries leaves a table that isn't sound does not.
abbrev pub left_by : Calls → Query → Table → Table
left_by c running t = (c.running t).table
left_by c (thread th) t = (c.thread t th).table
left_by c (resource cs) t = (c.resource t cs).table

abbrev pub Spoils : Calls → Query → Type 0
Spoils c q = (t : Table) → AnyTable t → ¬ Sound (left_by c q t)

-- One whose count is anywhere another than that of the section on re-evaluations does not do what the contracts say; one whose count is always the same does not meet demands 1 and 2.
abbrev pub InventsACount : Calls → Type 0
InventsACount c = (t : Table) × (e : Record) × AnyTable t × AnyRecord e × ((c.step t e).answer.count ≢ (answer_of t e).answer.count)

abbrev pub CountsAlways : Calls → ℕ → Type 0
CountsAlways c n = (t : Table) (e : Record) → AnyTable t → AnyRecord e → (c.step t e).answer.count ≡ n

-- One that never counts a request of an event's own thread, or whose thread query never tells of one, does not meet demand 2.
abbrev pub CountsNoRequest : Calls → Type 0
CountsNoRequest c = (t : Table) (e : Record) → AnyTable t → AnyRecord e → at (c.step t e).table.requests e.thread ≡ 0

abbrev pub TellsNoRequest : Calls → Type 0
TellsNoRequest c = (t : Table) (th : ℕ) → AnyTable t → th ≤ 255 → (c.thread t th).answer.requests ≡ 0

-- How each fails. The empty table is one, the first Create of x is well-formed, and the rules admit it.

pub memory : AnyTable empty
memory = right_any empty start_reached.right

pub creates : ℕ → Record
creates x = record { kind = 1; thread = x; argument = 0; zero = 0 }

well : (x : ℕ) → x < 32 → WellFormed (creates x)
unfolding creates lowest by_record malformed
well x low = (well_formed (creates x)).0 (rw (le-ltb 31 x (omega arith)))

pub any : (x : ℕ) → x < 32 → AnyRecord (creates x)
unfolding creates
any x low = record { kind = omega arith; thread = omega arith; argument = omega arith; zero = omega arith }

-- its event is a Create
writes : (s : State) (x : ℕ) → Writes s (creates x) (Create x 0)
unfolding creates
writes s x = create refl

module _ (c : Calls) (d : Demand2 c) where
  -- before any call but `locktable_empty`
  at_first : After c empty [] []
  at_first = after d memory tt none_yet

  -- the table at first
  first : Table
  first = table_after c empty []

  module _ (x : ℕ) (low : x < 32) where
    -- the first Create is accepted
    pub first_accepted : number_of c empty [] (creates x) ≡ 0
    first_accepted = ((at_first.admits (creates x) (any x low) (well x low) (omega arith)).1 (Create x 0) (writes [] x)).1 (create_step (λ l. l))

    first_history : History c empty (event (creates x) ∷ []) (Create x 0 ∷ [])
    first_history = accepted none_yet first_accepted (writes [] x)

    after_first : After c empty (event (creates x) ∷ []) (Create x 0 ∷ [])
    after_first = after d memory (any x low, tt) first_history

    -- then x runs, and no other
    x_is_named : (r : ℕ) → Names 32 (runs (Create x 0 ∷ [])) r → r ≡ x
    x_is_named r (inl w) = ⊎_elim (λ e. e) absurd w.1.among.0
    x_is_named r (inr w) = let k = some_runs (Create x 0 ∷ []) after_first.by_rules x (inl refl) in absurd (w.1 k.0 k.1)

    -- the answer named it
    answer_is_x : (c.step first (creates x)).answer.running ≡ x
    unfolding first
    answer_is_x = x_is_named (c.step first (creates x)).answer.running (at_first.answer_names (creates x) (any x low) (Create x 0 ∷ []) first_history)

-- a thread that r is not
other : (r : ℕ) → (x : ℕ) × (x < 32) × (r ≢ x)
other r = go (ℕ_discrete r 0)
  where
    go : Dec (r ≡ 0) → (x : ℕ) × (x < 32) × (r ≢ x)
    go (yes e) = (1, omega arith, λ k. absurd (omega arith))
    go (no n) = (0, omega arith, n)

-- at the first Create
pub refuses_everything : (c : Calls) → RefusesEverything c → ¬ Demand2 c
refuses_everything c wrong d = wrong (table_after c empty []) (creates 0) (at_first c d).memory (any 0 (omega arith)) (first_accepted c d 0 (omega arith))

-- at the first Create of a thread that it does not name
pub names_one : (c : Calls) (r : ℕ) → NamesOne c r → ¬ Demand2 c
unfolding first
names_one c r wrong d = let o = other r in o.2 (sym (wrong (first c d) (creates o.0) (at_first c d).memory (any o.0 o.1)) ∙ answer_is_x c d o.0 o.1)

pub query_names_one : (c : Calls) (r : ℕ) → QueryNamesOne c r → ¬ Demand2 c
query_names_one c r wrong d = let o = other r in let t = table_after c empty (event (creates o.0) ∷ []) in let now = after_first c d o.0 o.1 in
    o.2 (sym (wrong t now.memory) ∙ x_is_named c d o.0 o.1 (c.running t).answer.running now.running_query.1)

-- at the next query: of one table it cannot say that nobody runs, and that somebody does
pub touches_nothing : (c : Calls) → TouchesNothing c → ¬ Demand2 c
unfolding first
touches_nothing c wrong d = ⊎_elim (λ w. w.1.among.0) (λ w. absurd (omega (arith, w.0, then_0))) (at_first c d).running_query.1
  where
    then_0 : (c.running (first c d)).answer.running ≡ 0
    then_0 = x_is_named c d 0 (omega arith) (c.running (first c d)).answer.running
        (subst (λ (t : Table). Names 32 (runs (Create 0 0 ∷ [])) (c.running t).answer.running) (wrong (first c d) (creates 0) (at_first c d).memory (any 0 (omega arith))) (after_first c d 0 (omega arith)).running_query.1)

-- another Create of the same thread is refused
then_refused : (c : Calls) (d : Demand2 c) → number_of c empty (event (creates 0) ∷ []) (creates 0) ≢ 0
then_refused c d z = twice ((((after_first c d 0 (omega arith)).admits (creates 0) (any 0 (omega arith)) (well 0 (omega arith)) (omega arith)).1 (Create 0 0) (writes (Create 0 0 ∷ []) 0)).0 z)
  where
    twice : ¬ Step (Create 0 0 ∷ []) (Create 0 0)
    twice (create_step dead) = dead (inl refl)

-- at the second event, another Create of the same thread
pub then_answers_0 : (c : Calls) → ThenAnswers0 c → ¬ Demand2 c
then_answers_0 c wrong d = then_refused c d (wrong (table_after c empty (event (creates 0) ∷ [])) (creates 0) now.memory (any 0 (omega arith)) not_empty)
  where
    now : After c empty (event (creates 0) ∷ []) (Create 0 0 ∷ [])
    now = after_first c d 0 (omega arith)

    not_empty : table_after c empty (event (creates 0) ∷ []) ≢ empty
    not_empty e = absurd (omega (arith, now.shows.clock_is, ap (λ (u : Table). u.clock) e))

-- One that for any one table that it is lent starts from a table that isn't sound does not: before any record.
pub starts_spoilt : (c : Calls) (t : Table) → AnyTable t → ¬ Sound (c.empty t) → ¬ Demand2 c
starts_spoilt c t held wrong d = wrong (d t held [] tt).1.sound

-- at the first query
pub spoils : (c : Calls) (q : Query) → AnyCall (ask q) → Spoils c q → ¬ Demand2 c
spoils c running any wrong d = wrong (table_after c empty []) (at_first c d).memory (after d memory {ks = ask running ∷ []} (any, tt) (asked none_yet)).sound
spoils c (thread th) any wrong d = wrong (table_after c empty []) (at_first c d).memory (after d memory {ks = ask (thread th) ∷ []} (any, tt) (asked none_yet)).sound
spoils c (resource cs) any wrong d = wrong (table_after c empty []) (at_first c d).memory (after d memory {ks = ask (resource cs) ∷ []} (any, tt) (asked none_yet)).sound

-- at the input where it is another
pub invents_a_count : (c : Calls) → InventsACount c → ¬ AsStated c
invents_a_count c (t, e, any_t, any_e, wrong) is = wrong (ap (λ (x : Answer). x.count) (is.step t e any_t any_e).0)

-- at the first Create, which counts 1, or at another of the same thread, whose refusal counts 0
pub counts_always : (c : Calls) (n : ℕ) → CountsAlways c n → Demand1 c → ¬ Demand2 c
counts_always c n wrong d₁ d = absurd (omega (arith, wrong t₀ (creates 0) (at_first c d).memory a, wrong t₁ (creates 0) now.memory a, counts_1 ((at_first c d).counts (creates 0) a (first_accepted c d 0 (omega arith)) (Create 0 0) (writes [] 0)), refusal_counts_0 (d₁.step t₁ (creates 0) now.memory a) (then_refused c d)))
  where
    t₀ : Table
    t₀ = table_after c empty []

    t₁ : Table
    t₁ = table_after c empty (event (creates 0) ∷ [])

    a : AnyRecord (creates 0)
    a = any 0 (omega arith)

    now : After c empty (event (creates 0) ∷ []) (Create 0 0 ∷ [])
    now = after_first c d 0 (omega arith)

    counts_1 : {s : State} {k : ℕ} → Counts s (Create 0 0) k → k ≡ 1
    counts_1 create_count = refl

-- thread 0 requests resource 0
requests_0 : Record
requests_0 = record { kind = 4; thread = 0; argument = 0; zero = 0 }

any_request : AnyRecord requests_0
unfolding requests_0
any_request = record { kind = omega arith; thread = omega arith; argument = omega arith; zero = omega arith }

-- after the first Create of thread 0 that is accepted, and its total is 1
module _ (c : Calls) (d : Demand2 c) where
  one_request : After c empty (event requests_0 ∷ (event (creates 0) ∷ [])) (P 0 0 ∷ (Create 0 0 ∷ []))
  unfolding requests_0 lowest by_record malformed
  one_request = after d memory (any_request, (any 0 (omega arith), tt)) (accepted (first_history c d 0 (omega arith)) admitted (request refl))
    where
      now : After c empty (event (creates 0) ∷ []) (Create 0 0 ∷ [])
      now = after_first c d 0 (omega arith)

      it_runs : 0 ∈ runs (Create 0 0 ∷ [])
      it_runs = let k = some_runs (Create 0 0 ∷ []) now.by_rules 0 (inl refl) in subst (λ (x : ℕ). x ∈ runs (Create 0 0 ∷ [])) (⊎_elim (λ e. e) absurd k.1.among.0) k.1

      no_way : ¬ (RAG (Create 0 0 ∷ []) ⁺) (C 0) (T 0)
      no_way (edge k) = k.0
      no_way (then {b = T x} k w) = k.0
      no_way (then {b = C x} k w) = k

      admitted : number_of c empty (event (creates 0) ∷ []) requests_0 ≡ 0
      admitted = ((now.admits requests_0 any_request ((well_formed requests_0).0 refl) (omega arith)).1 (P 0 0) (request refl)).1 (request_step it_runs no_way)

-- at that request
pub counts_no_request : (c : Calls) → CountsNoRequest c → ¬ Demand2 c
unfolding requests_0
counts_no_request c wrong d = absurd (omega (arith, (one_request c d).shows.requests_are 0 (inl refl), wrong (table_after c empty (event (creates 0) ∷ [])) requests_0 (after_first c d 0 (omega arith)).memory any_request))

-- at the query after it
pub tells_no_request : (c : Calls) → TellsNoRequest c → ¬ Demand2 c
tells_no_request c wrong d = let now = one_request c d in absurd (omega (arith, (now.thread_query 0 (inl refl)).requests_are, wrong (table_after c empty (event requests_0 ∷ (event (creates 0) ∷ []))) 0 now.memory (omega arith)))
