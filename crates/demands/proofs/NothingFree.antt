-- The demands leave nothing free: functions that meet demands 1 and 2 have, after any calls from the empty table on, the table and the answers of the functions that the contracts name. Assumes nothing.
use Prim.Native.Nat.{ℕ, ◌≤◌, ◌<◌}
use mathlib.Core.Path.{◌≡◌, sym, ap, ◌∙◌}
use mathlib.Core.Logic.{◌↔◌, by_cases}
use mathlib.Core.List.{List, [], ◌∷◌}
use native.Mathlib.Decide.{ℕ_discrete}
use lib.ListN.{length}
use Rattle.protocol.specs.Events.{State}
use Rattle.table.specs.declared.Table.{Table}
use Rattle.refusals.specs.declared.Record.{Record}
use Rattle.locks.specs.declared.Answer.{Answer}
use Rattle.demands.specs.Memory.{AnyTable, AnyRecord}
use Rattle.demands.specs.Calls.{Left, Calls}
use Rattle.demands.specs.Runs.{Call, event, ask, AnyCalls, table_after, number_of, History, none_yet, accepted, refused, asked, WellFormed}
use Rattle.demands.specs.Demand1.{Demand1}
use Rattle.demands.specs.Demand2.{After, Demand2}
use Rattle.demands.proofs.Counted.{counts_one}
use Rattle.demands.proofs.Demand2.{after}
use Rattle.demands.proofs.TheCalls.{the_calls, demand_2_met}
use Rattle.demands.proofs.OneTable.{one_table, one_running, one_running_answer, one_thread_answer, one_resource_answer}
use Rattle.demands.proofs.OneNumber.{One, running_keeps, thread_as, thread_tells, resource_as, resource_tells}
use Rattle.demands.proofs.AnyTable.{same_step as any_step}

-- after the calls: the table, and what is left by whatever is called next
pub record AsNamed (c : Calls) (t : Table) (ks : List Call) : Type 0 where
  pub table : table_after c t ks ≡ table_after the_calls t ks
  pub step : (e : Record) → AnyRecord e → c.step (table_after c t ks) e ≡ the_calls.step (table_after the_calls t ks) e
  pub running : c.running (table_after c t ks) ≡ the_calls.running (table_after the_calls t ks)
  pub thread : (th : ℕ) → th ≤ 255 → c.thread (table_after c t ks) th ≡ the_calls.thread (table_after the_calls t ks) th
  pub resource : (cs : ℕ) → cs ≤ 255 → c.resource (table_after c t ks) cs ≡ the_calls.resource (table_after the_calls t ks) cs

-- a query that is refused is told by demand 1, and one that is not by demand 2
decided : {A : Type 0} (number : A → ℕ) {l k k' : Left A} → One number l k → k ≡ k' → l.table ≡ k'.table → (number l.answer ≡ 0 → l.answer ≡ k'.answer) → l ≡ k'
decided number {l} {k} {k'} one on kept told = by_cases (ℕ_discrete (number l.answer) 0) (λ z i. record { answer = told z i; table = kept i }) (λ n. one.1 n ∙ on)

module _ (c : Calls) (d₁ : Demand1 c) (d₂ : Demand2 c) (t : Table) (held : AnyTable t) where
  -- the accepted events, and the table, are those of the functions that the contracts name
  abbrev Same : List Call → Type 0
  Same ks = ((s : State) → History c t ks s → History the_calls t ks s) × (table_after c t ks ≡ table_after the_calls t ks)

  -- the table is where the events are
  with_table : (ks : List Call) → AnyCalls ks → ((s : State) → History c t ks s → History the_calls t ks s) → Same ks
  with_table ks any f = let w = (d₂ t held ks any).1 in let k = after demand_2_met held any (f _ w.history) in
      (f, one_table w.by_rules (table_after c t ks) (table_after the_calls t ks) w.memory k.memory w.sound k.sound w.shows k.shows)

  -- a record after the same calls gets the same number
  same_next : (ks : List Call) → AnyCalls ks → Same ks → (e : Record) → AnyRecord e → number_of c t ks e ≡ number_of the_calls t ks e
  same_next ks any w e b = (any_step c d₁ (table_after c t ks) e (d₂ t held ks any).1.memory b).0 ∙ ap (λ (u : Table). (the_calls.step u e).answer.number) w.1

  same : (ks : List Call) → AnyCalls ks → Same ks
  same [] any = with_table [] any go
    where
      go : (s : State) → History c t [] s → History the_calls t [] s
      go s none_yet = none_yet
  same (event e ∷ ks) any = with_table (event e ∷ ks) any (go (same ks any.1))
    where
      go : Same ks → (s : State) → History c t (event e ∷ ks) s → History the_calls t (event e ∷ ks) s
      go w s (accepted {s = s₀} h z v) = accepted (w.0 s₀ h) (sym (same_next ks any.1 w e any.0) ∙ z) v
      go w s (refused h n) = refused (w.0 s h) (λ z. n (same_next ks any.1 w e any.0 ∙ z))
  same (ask q ∷ ks) any = with_table (ask q ∷ ks) any (go (same ks any.1))
    where
      go : Same ks → (s : State) → History c t (ask q ∷ ks) s → History the_calls t (ask q ∷ ks) s
      go w s (asked h) = asked (w.0 s h)

  module _ (ks : List Call) (any : AnyCalls ks) where
    abbrev T : Table
    T = table_after c t ks

    abbrev T' : Table
    T' = table_after the_calls t ks

    -- what demand 2 says of the state that the calls lead to, of both
    s : State
    s = (d₂ t held ks any).0

    here : After c t ks s
    unfolding s
    here = (d₂ t held ks any).1

    there : After the_calls t ks s
    there = after demand_2_met held any ((same ks any).0 s here.history)

    -- the count, by the newest event or because the record was refused
    same_count : (e : Record) (b : AnyRecord e) {S : State} → History c t (event e ∷ ks) S → (c.step T e).answer.count ≡ (the_calls.step T' e).answer.count
    same_count e b (accepted {s = s₀} {ev = ev} h z w) =
        let k = after d₂ held any h in let k' = after demand_2_met held any ((same ks any).0 s₀ h) in let next = same_next ks any (same ks any) e b in
        counts_one (after d₂ held (b, any) (accepted h z w)).by_rules (k.counts e b z ev w) (k'.counts e b (sym next ∙ z) ev w)
    same_count e b (refused h n) = ap (λ (l : Left Answer). l.answer.count) ((any_step c d₁ T e here.memory b).1 n) ∙ ap (λ (u : Table). (the_calls.step u e).answer.count) (same ks any).1

    same_step : (e : Record) → AnyRecord e → c.step T e ≡ the_calls.step T' e
    same_step e b = let w = (d₂ t held (event e ∷ ks) (b, any)).1 in let S = (d₂ t held (event e ∷ ks) (b, any)).0 in let k = same (event e ∷ ks) (b, any) in
        λ i. record {
          answer = record {
            number = same_next ks any (same ks any) e b i;
            running = one_running w.by_rules (c.step T e).answer.running (the_calls.step T' e).answer.running (here.answer_names e b S w.history) (there.answer_names e b S (k.0 S w.history)) i;
            count = same_count e b w.history i;
          };
          table = k.1 i;
        }

    same_runner : c.running T ≡ the_calls.running T'
    same_runner = λ i. record {
      answer = one_running_answer here.by_rules (c.running T).answer (the_calls.running T').answer here.running_query there.running_query i;
      table = (running_keeps (d₁.running T here.memory) ∙ (same ks any).1) i;
    }

    same_thread : (th : ℕ) → th ≤ 255 → c.thread T th ≡ the_calls.thread T' th
    same_thread th h = let a = d₁.thread T th here.memory h in let tells = thread_tells a in
        decided (λ x. x.number) (thread_as here.memory th (c.thread T th) a) (ap (λ (u : Table). the_calls.thread u th) (same ks any).1) (tells.0 ∙ (same ks any).1)
        (λ z. let l = (here.shows.live_are th).0 (tells.1 z) in one_thread_answer here.by_rules th (c.thread T th).answer (the_calls.thread T' th).answer (here.thread_query th l) (there.thread_query th l))

    same_resource : (cs : ℕ) → cs ≤ 255 → c.resource T cs ≡ the_calls.resource T' cs
    same_resource cs h = let a = d₁.resource T cs here.memory h in let tells = resource_tells a in
        decided (λ x. x.number) (resource_as here.memory cs (c.resource T cs) a) (ap (λ (u : Table). the_calls.resource u cs) (same ks any).1) (tells.0 ∙ (same ks any).1)
        (λ z. let l = tells.1 z in one_resource_answer here.by_rules cs (c.resource T cs).answer (the_calls.resource T' cs).answer (here.resource_query cs l) (there.resource_query cs l))

-- whatever meets the demands does, from the empty table on, what the contracts say
pub nothing_free : (c : Calls) → Demand1 c → Demand2 c → (t : Table) → AnyTable t → (ks : List Call) → AnyCalls ks → AsNamed c t ks
nothing_free c d₁ d₂ t held ks any = record {
  table = (same c d₁ d₂ t held ks any).1;
  step = same_step c d₁ d₂ t held ks any;
  running = same_runner c d₁ d₂ t held ks any;
  thread = same_thread c d₁ d₂ t held ks any;
  resource = same_resource c d₁ d₂ t held ks any;
}

-- Demand 2 alone decides which well-formed records are accepted, up to event 65,535: where two meet it and the same events came before, they accept the same.
pub accepts_the_same : (c c' : Calls) → Demand2 c → Demand2 c' → (t : Table) → AnyTable t → (ks : List Call) → AnyCalls ks → (s : State) → History c t ks s → History c' t ks s →
    (e : Record) → AnyRecord e → WellFormed e → length s < 65535 → (number_of c t ks e ≡ 0) ↔ (number_of c' t ks e ≡ 0)
accepts_the_same c c' d d' t held ks any s h h' e b formed short =
    let w = (after d held any h).admits e b formed short in
    let w' = (after d' held any h').admits e b formed short in
    let ev = w.0.0 in let writes = w.0.1 in
    ((λ z. (w'.1 ev writes).1 ((w.1 ev writes).0 z)), λ z. (w.1 ev writes).1 ((w'.1 ev writes).0 z))
