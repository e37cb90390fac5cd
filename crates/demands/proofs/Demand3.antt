-- Demand 3, from demand 2 and protocol's theorem for any choice of the next holder: specs/Demand3 has the statement. Assumes nothing.
use Prim.Native.Nat.{ℕ, ◌<◌}
use mathlib.Core.Path.{◌≡◌, ap, subst}
use mathlib.Core.Logic.{inl, inr}
use mathlib.Core.List.{List, [], ◌∷◌, ◌++◌, map}
use native.Mathlib.Omega.{arith}
use Rattle.protocol.specs.Sets.{◌∈◌, Names, Number}
use Rattle.protocol.specs.Events.{Thread, Event, State, prec}
use Rattle.protocol.specs.Schedule.{running}
use Rattle.protocol.specs.Demand3.{others}
use Rattle.protocol.proofs.Demand3.{Premises, first_sentence, second_sentence, others_number}
use Rattle.protocol.proofs.Theorems.{one_cprec}
use Rattle.table.specs.declared.Table.{Table}
use Rattle.table.specs.Table.{stored}
use Rattle.demands.specs.Memory.{AnyTable}
use Rattle.demands.specs.Calls.{Calls}
use Rattle.demands.specs.Stated.{AsStated}
use Rattle.demands.specs.Runs.{Query, Call, event, ask, AnyCalls, table_after, History, accepted, refused, asked}
use Rattle.demands.specs.Demand2.{After, Demand2}
use Rattle.demands.specs.Demand3.{Since, RunsAfter, by_query, by_answer, Demand3}
use Rattle.demands.proofs.Demand2.{demand_2, after}

-- the events accepted since stand before those of the moment
added : (c : Calls) (t : Table) (ks ks' : List Call) {s : State} → ((S : State) → History c t ks S → S ≡ s) → {S : State} → History c t (ks' ++ ks) S → (s' : List Event) × (S ≡ s' ++ s)
added c t ks [] only {S} k = ([], only S k)
added c t ks (event e ∷ ks') only (accepted {ev = ev} k z w) = let r = added c t ks ks' only k in (ev ∷ r.0, ap (◌∷◌ ev) r.1)
added c t ks (event e ∷ ks') only (refused k n) = added c t ks ks' only k
added c t ks (ask q ∷ ks') only (asked k) = added c t ks ks' only k

any_before : (ks ks' : List Call) → AnyCalls (ks' ++ ks) → AnyCalls ks
any_before ks [] any = any
any_before ks (k ∷ ks') any = any_before ks ks' any.1

-- queries add no event
before_asking : (c : Calls) (t : Table) {ks : List Call} (qs : List Query) {s : State} → History c t (map ask qs ++ ks) s → History c t ks s
before_asking c t [] h = h
before_asking c t (q ∷ qs) (asked h) = before_asking c t qs h

-- who is named as running, and is one of the 32, runs
who_named : (s : State) {r th : ℕ} → th < 32 → r ≡ th → Names 32 (running s) r → th ∈ running s
who_named s low q (inl w) = subst (λ (x : Thread). x ∈ running s) q w.1
who_named s low q (inr w) = absurd (omega (arith, w.0))

module _ (c : Calls) (d : Demand2 c) (t : Table) (held : AnyTable t) where
  -- who runs after the calls is the paper's running thread
  named_runs : {ks : List Call} {s : State} {th : Thread} → AnyCalls ks → History c t ks s → RunsAfter c t ks th → th ∈ running s
  named_runs {s = s} any h (by_query low q) = who_named s (omega arith) q (after d held any h).running_query.1
  named_runs {s = s} any h (by_answer qs e ks low q) =
      let b = any_before (event e ∷ ks) (map ask qs) any in who_named s (omega arith) q ((d t held ks b.1).1.answer_names e b.0 s (before_asking c t qs h))

  -- whatever the calls, the events accepted since are added to those before: so there are the s and s' of specs/Demand3
  pub events_since : (ks ks' : List Call) (s : State) → AnyCalls (ks' ++ ks) → History c t ks s → (s' : List Event) × History c t (ks' ++ ks) (s' ++ s)
  events_since ks ks' s any h =
      let w = d t held (ks' ++ ks) any in
      let r = added c t ks ks' (after d held (any_before ks ks' any) h).only w.1.history in
      (r.0, subst (History c t (ks' ++ ks)) r.1 w.1.history)

module _ (c : Calls) (d : Demand2 c) {t : Table} {th : Thread} {ks ks' : List Call} {s s' : List Event} (p : Since c t th ks ks' s s') where
  now : After c t (ks' ++ ks) (s' ++ s)
  now = after d p.memory p.bytes p.later

  -- what protocol's theorem asks for
  premises : Premises s th s'
  premises = record { by_rules = now.by_rules; live = p.live; highest = p.highest; spared = p.spared }

-- at every moment there is the number n of the others that hold or wait
pub some_number : (c : Calls) → Demand2 c → (t : Table) → AnyTable t → (th : Thread) (ks : List Call) (s : State) → AnyCalls ks → History c t ks s → (n : ℕ) × Number (others s th) n
some_number c d t held th ks s any h = others_number s th (after d held any h).by_rules

-- what meets demand 2 meets it
from_demand_2 : (c : Calls) → Demand2 c → Demand3 c
from_demand_2 c d = record {
  who_runs = λ t th ks ks' s s' p th' q ne.
      let run = named_runs c d t p.memory p.bytes p.later q in
      let w = first_sentence s th s' (premises c d p) th' run ne in
      (w.0, w.1, w.2, one_cprec (s' ++ s) (now c d p).by_rules th' (stored (table_after c t (ks' ++ ks)) th') (prec th s) ((now c d p).shows.current_is th' run.among.0) w.2);
  how_many = λ t th ks ks' s s' p. second_sentence s th s' (premises c d p);
}

-- and so do functions that do what the contracts say
pub demand_3 : (c : Calls) → AsStated c → Demand3 c
demand_3 c is = from_demand_2 c (demand_2 c is)
