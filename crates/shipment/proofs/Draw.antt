-- The draw task's theorem, from protocol's theorem for any choice of the next holder: specs/Draw has the statement. Assumes nothing.
use Prim.Native.Nat.{ℕ, ◌<◌}
use mathlib.Core.Path.{◌≡◌, refl, sym, ap, subst, ◌∙◌}
use mathlib.Core.Bool.{cond}
use mathlib.Core.Logic.{◌≢◌, inl, inr, by_cases}
use mathlib.Core.List.{List, [], ◌∷◌, ◌++◌, append-nil}
use native.Mathlib.Decide.{ℕ_discrete}
use native.Mathlib.Omega.{arith}
use borrow.Author.Tests.{eq-eqb, ne_eqb}
use lib.Dec.{eqb}
use Rattle.protocol.specs.Sets.{◌∈◌, set, Names}
use Rattle.protocol.specs.Events.{Thread, Priority, Event, Create, Exit, Set, P, «V», State, threads, priority, last_set, prec, ◌≼◌}
use Rattle.protocol.specs.Schedule.{Cprec, running}
use Rattle.protocol.specs.Demand3.{Moment, HoldsOrWaits, Spares}
use Rattle.protocol.proofs.Demand3.{Premises, first, first_sentence, second_sentence, lemma_3}
use Rattle.protocol.proofs.Theorems.{one_runs, one_cprec}
use Rattle.table.specs.declared.Table.{Table}
use Rattle.table.specs.Table.{stored}
use Rattle.demands.specs.Memory.{AnyTable}
use Rattle.demands.specs.Calls.{Calls}
use Rattle.demands.specs.Stated.{AsStated}
use Rattle.demands.specs.Demand2.{After}
use Rattle.shipment.specs.Calls.{Terminal, AsTold}
use Rattle.shipment.specs.Shipped.{Act, AnyActs, table_since, fixed_tasks, Shipped, started}
use Rattle.shipment.specs.Ships.{calls_of}
use Rattle.shipment.specs.Draw.{Since, Below250, DrawFirst}
use Rattle.shipment.proofs.Tasks.{fixed_live, all_free, others_below}
use Rattle.shipment.proofs.AsCalls.{same_table}
use Rattle.shipment.proofs.Ships.{after_acts, shows_since}

-- who is given a priority has it, the others keep theirs
given : (v prio before u : ℕ) → u ≢ 0 → (v ≢ 0 → prio < 250) → before < 250 → cond (eqb v u) prio before < 250
given v prio before u n low kept = by_cases (ℕ_discrete v u)
    (λ e. rw (eq-eqb v u e) (low (λ z. n (sym e ∙ z))))
    (λ d. rw (ne_eqb v u d) kept)

module _ (c : Calls) (is : AsStated c) (k : Terminal) (told : AsTold k) {t : Table} {acts acts' : List Act} {s s' : List Event} (p : Since c k t acts acts' s s') where
  -- the draw's own precedence is the highest
  highest : (u : Thread) → u ∈ threads s → prec u s ≼ prec 0 s
  highest u l = by_cases (ℕ_discrete u 0)
      (λ e. inl (ap (λ (x : Thread). prec x s) e))
      (λ n. inr (inl (omega (arith, p.others_below u l n, p.at_250))))

  draws_prec : prec 0 s ≡ (250, last_set 0 s)
  draws_prec = ap (λ (x : Priority). (x, last_set 0 s)) p.at_250

  -- so what protocol's theorem asks for is there
  premises : Premises s 0 s'
  premises = record {
    by_rules = (after_acts c is k told t p.memory (acts' ++ acts) p.bytes p.later).by_rules;
    live = p.live;
    highest = highest;
    spared = λ e i. subst (λ (x : Priority). Spares 0 x e) (sym p.at_250) (p.spared e i);
  }

  -- any other that runs
  runs_as_said : (u : Thread) → u ∈ running (s' ++ s) → u ≢ 0 → (u ∈ threads s) × ((m : State) → Moment s s' m → HoldsOrWaits m u) × Cprec (s' ++ s) u (250, last_set 0 s) × (stored (table_since c k t (acts' ++ acts)) u ≡ (250, last_set 0 s))
  runs_as_said u run ne =
      let w = first_sentence s 0 s' premises u run ne in
      let m : Cprec (s' ++ s) u (250, last_set 0 s) = subst (Cprec (s' ++ s) u) draws_prec w.2 in
      let shown = (shows_since c is k told t p.memory (acts' ++ acts) p.bytes p.later).current_is u run.among.0 in
      (w.0, w.1, m, one_cprec (s' ++ s) premises.by_rules u (stored (table_since c k t (acts' ++ acts)) u) (250, last_set 0 s) shown m)

-- From the start on
module _ (c : Calls) (is : AsStated c) (k : Terminal) (told : AsTold k) (t : Table) (held : AnyTable t) (acts : List Act) (s : List Event) (any : AnyActs acts) (past : Shipped c k t acts (s ++ fixed_tasks)) (spared : (e : Event) → e ∈ set s → Spares 0 250 e) where
  -- the moment is the start's
  since_start : Since c k t [] acts fixed_tasks s
  since_start = record {
    memory = held;
    bytes = rw (append-nil acts) any;
    moment = started;
    later = rw (append-nil acts) past;
    live = fixed_live 0 (omega arith);
    at_250 = refl;
    others_below = λ u l n. others_below u n;
    spared = spared;
  }

  -- somebody runs, and any other would have held or waited then, where nobody did
  draw_runs : 0 ∈ running (s ++ fixed_tasks)
  draw_runs =
      let w = lemma_3 fixed_tasks 0 s (premises c is k told since_start) in by_cases (ℕ_discrete w.0 0)
      (λ e. subst (λ (u : Thread). u ∈ running (s ++ fixed_tasks)) e w.1)
      (λ n. absurd (all_free w.0 ((runs_as_said c is k told since_start w.0 w.1 n).1 fixed_tasks (first fixed_tasks s))))

  -- and the query names who runs
  query_names_0 : (c.running (table_since c k t acts)).answer.running ≡ 0
  query_names_0 = rw (same_table c is t held k told acts any) (go here.running_query.1)
    where
      here : After c t (calls_of acts) (s ++ fixed_tasks)
      here = after_acts c is k told t held acts any past

      go : {r : ℕ} → Names 32 (running (s ++ fixed_tasks)) r → r ≡ 0
      go {r} (inl w) = one_runs (s ++ fixed_tasks) here.by_rules r 0 w.1 draw_runs
      go (inr w) = absurd (w.1 0 draw_runs)

-- functions that do what the contracts say meet it
pub draw_first : (c : Calls) → AsStated c → (k : Terminal) → AsTold k → DrawFirst c k
draw_first c is k told = record {
  who_runs = λ t acts acts' s s' p. runs_as_said c is k told p;
  none_later = λ t acts acts' s s' p u ne dead run. dead (runs_as_said c is k told p u run ne).0;
  none_free = λ t acts acts' s s' p u ne m moment free run. free ((runs_as_said c is k told p u run ne).1 m moment);
  how_many = λ t acts acts' s s' p. second_sentence s 0 s' (premises c is k told p);
  from_the_start = λ t acts s held any past spared. (draw_runs c is k told t held acts s any past spared, query_names_0 c is k told t held acts s any past spared);
}

-- as long as no event since the start gives another task than the draw 250 or more, all others stay below
pub stay_below : (s : List Event) → ((e : Event) → e ∈ set s → Below250 e) → (u : Thread) → u ≢ 0 → priority u (s ++ fixed_tasks) < 250
stay_below [] low u n = others_below u n
stay_below (Create v prio ∷ s) low u n = given v prio (priority u (s ++ fixed_tasks)) u n (low (Create v prio) (inl refl)) (stay_below s (λ e i. low e (inr i)) u n)
stay_below (Exit v ∷ s) low u n = stay_below s (λ e i. low e (inr i)) u n
stay_below (Set v prio ∷ s) low u n = given v prio (priority u (s ++ fixed_tasks)) u n (low (Set v prio) (inl refl)) (stay_below s (λ e i. low e (inr i)) u n)
stay_below (P v cs ∷ s) low u n = stay_below s (λ e i. low e (inr i)) u n
stay_below («V» v cs next ∷ s) low u n = stay_below s (λ e i. low e (inr i)) u n
