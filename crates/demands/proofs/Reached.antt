-- What any calls lead to, from the empty table on. Assumes nothing.
use mathlib.Core.Path.{◌≡◌, refl, sym, ap, subst, fun_ext, ◌∙◌}
use mathlib.Core.Option.{some}
use mathlib.Core.List.{List, [], ◌∷◌}
use native.Mathlib.Decide.{ℕ_discrete}
use Rattle.protocol.specs.Events.{Event, State}
use Rattle.protocol.specs.Rules.{start, after}
use Rattle.table.specs.declared.Table.{Table}
use Rattle.table.specs.Table.{empty}
use Rattle.table.proofs.Sound.Empty.{nobody, no_queue, empty_sound}
use Rattle.refusals.specs.declared.Record.{Record}
use Rattle.refusals.specs.Refusals.{refusals, lowest}
use Rattle.refusals.proofs.Given.Exactly.{exactly, given_none}
use Rattle.refusals.proofs.Given.Passed.{kind_known}
use Rattle.events.specs.Events.{settled, changed, event_of}
use Rattle.events.specs.Code.Permits.{Permits}
use Rattle.events.proofs.Accepted.Permitted.{early, permitted}
use Rattle.events.proofs.Kept.Stays.{stays_right}
use Rattle.locks.specs.declared.Done.{Done}
use Rattle.locks.specs.Answers.{accepted as done, answer_of}
use Rattle.locks.proofs.Answered.{let_through}
use Rattle.demands.specs.Memory.{AnyTable, AnyRecord}
use Rattle.demands.specs.Calls.{Calls}
use Rattle.demands.specs.Stated.{AsStated}
use Rattle.demands.specs.Runs.{Query, running, thread, resource, Call, event, ask, AnyCall, AnyCalls, table_after, number_of, Writes, History, none_yet, accepted, refused, asked}
use Rattle.demands.proofs.Agrees.{Reached, good}
use Rattle.demands.proofs.InMemory.{right_any}
use Rattle.demands.proofs.Numbers.{stated_number, kept}
use Rattle.demands.proofs.Chosen.{writes_one, named_writes}
use Rattle.demands.proofs.Carried.{carried}
use Rattle.demands.proofs.Rules.{permits_steps}

-- the empty table, before any event
pub start_reached : Reached empty []
start_reached = record {
  right = (record { live_size = refl; priority_size = refl; time_size = refl; current_priority_size = refl; current_time_size = refl; queue_size = refl; length_size = refl; requests_size = refl; releases_size = refl }, empty_sound);
  agrees = record { clock = refl; live = λ th. ((λ l. absurd (nobody th l)), absurd); own = λ th l. absurd l; queues = fun_ext no_queue; totals = λ th l. absurd l };
  by_rules = start;
}

-- a record that is not refused leads on, by the event that it names
pub accepted_reached : {t : Table} {s : State} → Reached t s → (e : Record) → AnyRecord e → lowest (refusals t e) ≡ 0 →
    (ev : Event) × (event_of t e ≡ some ev) × Permits t ev × Writes s e ev × Reached (settled (changed t ev)) (ev ∷ s)
accepted_reached {t} r e any z =
    let shape = r.right.0 in
    let p = permitted t e shape z any.argument in
    let known = kind_known (given_none t e (lowest (refusals t e)) (exactly t e shape) z) in
    (p.0, p.1, p.2, named_writes r known p.1, record { right = stays_right t r.right (early t e shape z) p.2; agrees = carried r.agrees (good r) p.2; by_rules = after r.by_rules (permits_steps r p.2) })

-- a table that is left as it was is reached as it was
kept_reached : {t u : Table} {s : State} → u ≡ t → Reached t s → Reached u s
kept_reached {s = s} same = subst (λ (x : Table). Reached x s) (sym same)

module _ (c : Calls) (is : AsStated c) (t₀ : Table) (any_t₀ : AnyTable t₀) where
  -- one record more
  one_more : (ks : List Call) (s : State) → History c t₀ ks s → Reached (table_after c t₀ ks) s → (e : Record) → AnyRecord e → (s' : State) × History c t₀ (event e ∷ ks) s' × Reached (table_after c t₀ (event e ∷ ks)) s'
  unfolding done
  one_more ks s h r e any = go (ℕ_discrete (lowest (refusals t e)) 0)
    where
      t : Table
      t = table_after c t₀ ks

      memory : AnyTable t
      memory = right_any t r.right

      number : number_of c t₀ ks e ≡ lowest (refusals t e)
      number = stated_number c is t e memory any

      left : (c.step t e).table ≡ (answer_of t e).table
      left = (is.step t e memory any).1

      go : Dec (lowest (refusals t e) ≡ 0) → (s' : State) × History c t₀ (event e ∷ ks) s' × Reached (c.step t e).table s'
      go (yes z) = let w = accepted_reached r e any z in (w.0 ∷ s, accepted h (number ∙ z) w.3, kept_reached (left ∙ ap (λ (d : Done). d.table) (let_through t e z w.1)) w.4)
      go (no n) = (s, refused h (λ z. n (sym number ∙ z)), kept_reached (left ∙ kept t e n) r)

  -- one query more
  one_query : (ks : List Call) (s : State) → Reached (table_after c t₀ ks) s → (q : Query) → AnyCall (ask q) → Reached (table_after c t₀ (ask q ∷ ks)) s
  one_query ks s r running any = kept_reached (is.running (table_after c t₀ ks) (right_any _ r.right)).1 r
  one_query ks s r (thread th) any = kept_reached (is.thread (table_after c t₀ ks) th (right_any _ r.right) any).1 r
  one_query ks s r (resource cs) any = kept_reached (is.resource (table_after c t₀ ks) cs (right_any _ r.right) any).1 r

  -- any calls
  pub reached : (ks : List Call) → AnyCalls ks → (s : State) × History c t₀ ks s × Reached (table_after c t₀ ks) s
  reached [] any = ([], none_yet, kept_reached (is.empty t₀ any_t₀) start_reached)
  reached (event e ∷ ks) any = let w = reached ks any.1 in one_more ks w.0 w.1 w.2 e any.0
  reached (ask q ∷ ks) any = let w = reached ks any.1 in (w.0, asked w.1, one_query ks w.0 w.2 q any.0)

  -- the accepted events are determined
  pub history_one : (ks : List Call) → AnyCalls ks → {s s' : State} → History c t₀ ks s → History c t₀ ks s' → s' ≡ s
  history_one [] any none_yet none_yet = refl
  history_one (event e ∷ ks) any (accepted {s = s} {ev = ev} h z w) (accepted {s = s'} {ev = ev'} h' z' w') =
      let r = reached ks any.1 in
      let p : s ≡ r.0 = history_one ks any.1 r.1 h in
      let p' : s' ≡ r.0 = history_one ks any.1 r.1 h' in
      let q : ev' ≡ ev = writes_one r.2 (rw p' at w') (rw p at w) in
      cc
  history_one (event e ∷ ks) any (accepted h z w) (refused h' n) = absurd (n z)
  history_one (event e ∷ ks) any (refused h n) (accepted h' z w) = absurd (n z)
  history_one (event e ∷ ks) any (refused h n) (refused h' n') = history_one ks any.1 h h'
  history_one (ask q ∷ ks) any (asked h) (asked h') = history_one ks any.1 h h'
