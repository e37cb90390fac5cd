-- Demand 2: specs/Demand2 has the statement. Assumes nothing.
use Prim.Native.Nat.{◌<◌}
use mathlib.Core.Path.{◌≡◌, sym, ap, subst, ◌∙◌}
use mathlib.Core.Logic.{◌↔◌}
use mathlib.Core.Option.{some}
use mathlib.Core.List.{List, ◌∷◌}
use native.Mathlib.Omega.{arith}
use lib.ListN.{length}
use Rattle.protocol.specs.Sets.{Names}
use Rattle.protocol.specs.Events.{Event, State}
use Rattle.protocol.specs.Schedule.{running}
use Rattle.protocol.specs.Rules.{Step}
use Rattle.table.specs.declared.Table.{Table}
use Rattle.table.specs.Table as table
use Rattle.table.specs.Compute.{runner}
use Rattle.table.proofs.Sound.Read.{runs}
use Rattle.refusals.specs.declared.Record.{Record}
use Rattle.refusals.specs.Refusals.{refusals, lowest}
use Rattle.refusals.proofs.Given.Formed.{formed_kind}
use Rattle.events.specs.Events.{settled, changed, event_of}
use Rattle.events.specs.Code.Permits.{Permits}
use Rattle.events.proofs.Accepted.Permitted.{early}
use Rattle.locks.specs.declared.Answer.{Answer}
use Rattle.locks.specs.declared.Done.{Done}
use Rattle.locks.specs.Answers.{accepted}
use Rattle.locks.proofs.Answered.{let_through}
use Rattle.demands.specs.Memory.{AnyTable, AnyRecord}
use Rattle.demands.specs.Calls.{Calls}
use Rattle.demands.specs.Stated.{AsStated}
use Rattle.demands.specs.Runs.{Call, event, AnyCalls, table_after, Writes, History, WellFormed}
use Rattle.demands.specs.Counted.{Counts}
use Rattle.demands.specs.Demand2.{After, Demand2}
use Rattle.demands.proofs.Agrees.{Reached, good}
use Rattle.demands.proofs.Same.{names_running, ids, shows}
use Rattle.demands.proofs.Queries.{running_told, thread_told, resource_told}
use Rattle.demands.proofs.Chosen.{some_event, writes_named}
use Rattle.demands.proofs.Rules.{accepted_exactly}
use Rattle.demands.proofs.InMemory.{right_any}
use Rattle.demands.proofs.Numbers.{stated_number, running_is}
use Rattle.demands.proofs.Reached.{accepted_reached, reached, history_one}
use Rattle.demands.proofs.Counted.{counted}

module _ (c : Calls) (is : AsStated c) where
  -- a well-formed record is accepted exactly when the rules admit its event
  admission : (t : Table) (s : State) → Reached t s → (e : Record) → AnyRecord e → WellFormed e → length s < 65535 → (ev : Event) → Writes s e ev → ((c.step t e).answer.number ≡ 0) ↔ Step s ev
  admission t s r e any formed short ev w = rw (stated_number c is t e (right_any t r.right) any) (accepted_exactly r formed any.argument (omega (arith, r.agrees.clock)) w)

  -- the step's answer names the running thread of the state that it leads to
  answer_runs : (t : Table) (s : State) → Reached t s → (e : Record) → AnyRecord e → (s' : State) → Reached (c.step t e).table s' → Names 32 (running s') (c.step t e).answer.running
  answer_runs t s r e any s' r' = let q = is.step t e (right_any t r.right) any in names_running r' (c.step t e).answer.running
      (subst (Names 32 (table.running (c.step t e).table)) (sym (ap (λ (x : Answer). x.running) q.0 ∙ running_is t e r.right ∙ sym (ap runner q.1))) (runs (c.step t e).table (good r')))

  -- the count of an accepted record is the one in the paper's words
  answer_counts : (t : Table) (s : State) → Reached t s → (e : Record) → AnyRecord e → (c.step t e).answer.number ≡ 0 → (ev : Event) → Writes s e ev → Counts s ev (c.step t e).answer.count
  unfolding accepted
  answer_counts t s r e any z ev w = let same : next.0 ≡ ev = cc (next.1, writes_named r w) in subst (λ (x : Event). Counts s x (c.step t e).answer.count) same
      (rw (ap (λ (x : Answer). x.count) (is.step t e memory any).0 ∙ ap (λ (d : Done). d.answer.count) (let_through t e zero next.1)) (counted r (early t e r.right.0 zero) next.2 next.4))
    where
      memory : AnyTable t
      memory = right_any t r.right

      zero : lowest (refusals t e) ≡ 0
      zero = sym (stated_number c is t e memory any) ∙ z

      next : (x : Event) × (event_of t e ≡ some x) × Permits t x × Writes s e x × Reached (settled (changed t x)) (x ∷ s)
      next = accepted_reached r e any zero

  -- all of it, for the state that the calls lead to
  all_of_it : (t₀ : Table) → AnyTable t₀ → (ks : List Call) → AnyCalls ks → (s : State) → History c t₀ ks s → Reached (table_after c t₀ ks) s → After c t₀ ks s
  all_of_it t₀ held ks any s h r = record {
    history = h;
    only = λ s'. history_one c is t₀ held ks any h;
    by_rules = r.by_rules;
    sound = r.right.1;
    memory = memory;
    shows = shows r;
    running_query = rw (is.running t memory).0 (running_told r);
    thread_query = λ th l. rw (is.thread t th memory (omega (arith, ids r th l))).0 (thread_told r th l);
    resource_query = λ cs low. rw (is.resource t cs memory (omega arith)).0 (resource_told r cs low);
    admits = λ e any_e formed short. (some_event r (formed_kind formed), admission t s r e any_e formed short);
    answer_names = λ e any_e s' h'. let w = reached c is t₀ held (event e ∷ ks) (any_e, any) in
        answer_runs t s r e any_e s' (subst (λ (x : State). Reached (table_after c t₀ (event e ∷ ks)) x) (sym (history_one c is t₀ held (event e ∷ ks) (any_e, any) w.1 h')) w.2);
    counts = answer_counts t s r;
  }
    where
      t : Table
      t = table_after c t₀ ks

      memory : AnyTable t
      memory = right_any t r.right

-- functions that do what the contracts say meet it
pub demand_2 : (c : Calls) → AsStated c → Demand2 c
demand_2 c is t₀ held ks any = let w = reached c is t₀ held ks any in (w.0, all_of_it c is t₀ held ks any w.0 w.1 w.2)

-- what meets demand 2 keeps it for whatever events are those of the calls
pub after : {c : Calls} → Demand2 c → {t : Table} → AnyTable t → {ks : List Call} → AnyCalls ks → {s : State} → History c t ks s → After c t ks s
after {c} d {t} held {ks} any {s} h = let w = d t held ks any in subst (After c t ks) (sym (w.1.only s h)) w.1
