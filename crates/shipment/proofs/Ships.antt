-- The terminal's calls are calls of the lock table: specs/Ships has the statement. Assumes nothing.
use Rattle.std.specs.Prelude.{Option}
use Prim.Native.Nat.{ℕ, ◌≤◌, ◌<◌}
use mathlib.Core.Path.{◌≡◌, refl, sym, ap, subst, ◌∙◌}
use mathlib.Core.Logic.{◌↔◌, by_cases}
use mathlib.Core.List.{List, [], ◌∷◌, ◌++◌}
use native.Mathlib.Decide.{dec_lt}
use native.Mathlib.Omega.{arith}
use lib.ListN.{length}
use Rattle.protocol.specs.Sets.{◌∈◌, Names}
use Rattle.protocol.specs.Events.{Event, Create, State, threads, Priority}
use Rattle.table.specs.declared.Table.{Table}
use Rattle.table.specs.Table as table
use Rattle.table.specs.Sound.{Sound}
use Rattle.locks.specs.declared.Answer.{Answer}
use Rattle.terminal.specs.Spare.{priority_of}
use Rattle.demands.specs.Memory.{AnyTable}
use Rattle.demands.specs.Calls.{Left, Calls}
use Rattle.demands.specs.Runs.{event, ask, table_after}
use Rattle.demands.specs.Stated.{AsStated}
use Rattle.demands.specs.Demand2.{After}
use Rattle.demands.specs.Told.{Shows}
use Rattle.demands.proofs.Agrees.{Reached}
use Rattle.demands.proofs.Same.{names_running}
use Rattle.demands.proofs.Reached.{reached, history_one}
use Rattle.demands.proofs.Demand2.{demand_2, after}
use Rattle.shipment.specs.Calls.{Terminal, adds, AnyWanted, AsTold}
use Rattle.shipment.specs.Shipped.{Act, call, add, AnyActs, table_since, Shipped, accepted, refused, asked, added, turned_away}
use Rattle.shipment.specs.Fixed as fixed
use Rattle.shipment.specs.Fixed.{SpareFixed}
use Rattle.shipment.specs.Ships.{calls_of, Ships, Demand2Since}
use Rattle.shipment.proofs.AsCalls.{bytes_of, same_table, as_history, as_shipped}
use Rattle.shipment.proofs.Fixed.{demand_1_since}

module _ (c : Calls) (is : AsStated c) (k : Terminal) (told : AsTold k) (t : Table) (held : AnyTable t) where
  module _ (acts : List Act) (any : AnyActs acts) {s : State} (past : Shipped c k t acts s) where
    -- what is so after the calls that the acts are
    pub after_acts : After c t (calls_of acts) s
    after_acts = after (demand_2 c is) held (bytes_of acts any) (as_history c is t held k told acts any past)

    abbrev u : Table
    u = table_since c k t acts

    pub memory_since : AnyTable u
    memory_since = subst AnyTable (sym (same_table c is t held k told acts any)) after_acts.memory

    pub shows_since : Shows u s
    shows_since = subst (λ (x : Table). Shows x s) (sym (same_table c is t held k told acts any)) after_acts.shows

    sound_since : Sound u
    sound_since = subst Sound (sym (same_table c is t held k told acts any)) after_acts.sound

    module _ (id : ℕ) (w : Option Priority) (h : id ≤ 255) (p : AnyWanted w) where
      fixed_here : SpareFixed u id w (adds k u id w)
      fixed_here = (demand_1_since k told).spare u id w memory_since h p

      -- what is admitted, in the state's words
      abbrev Admitted : Type 0
      Admitted = (16 ≤ id) × (id ≤ 31) × (¬ (id ∈ threads s)) × (length s < 65535)

      admission : {l : Left Answer} → SpareFixed u id w l → (l.answer.number ≡ 0) ↔ Admitted
      admission (fixed.SpareFixed.not_sound n) = absurd (n sound_since)
      admission (fixed.SpareFixed.not_spare sound n names) = ((λ z. absurd (omega arith)), λ x. absurd (n (x.0, x.1)))
      admission (fixed.SpareFixed.clock_ended sound in_range q names) = ((λ z. absurd (omega arith)), λ x. absurd (omega (arith, x.3, shows_since.clock_is)))
      admission (fixed.SpareFixed.live_already sound in_range q l names) = ((λ z. absurd (omega arith)), λ x. absurd (x.2 ((shows_since.live_are id).0 l)))
      admission (fixed.SpareFixed.added sound in_range q dead new sound' memory names) = ((λ z. (in_range.0, in_range.1, (λ l. dead ((shows_since.live_are id).1 l)), early)), λ x. refl)
        where
          early : length s < 65535
          early = let low = memory_since.clock in by_cases (dec_lt (length s) 65535) (λ y. y) (λ n. absurd (q (omega (arith, shows_since.clock_is))))

      -- the answer names the running thread of the table afterwards
      named_after : {l : Left Answer} → SpareFixed u id w l → Names 32 (table.running l.table) l.answer.running
      named_after (fixed.SpareFixed.not_sound n) = absurd (n sound_since)
      named_after (fixed.SpareFixed.not_spare sound n names) = names
      named_after (fixed.SpareFixed.clock_ended sound in_range q names) = names
      named_after (fixed.SpareFixed.live_already sound in_range q l names) = names
      named_after (fixed.SpareFixed.added sound in_range q dead new sound' memory names) = names

  -- what any acts lead to
  reached_since : (acts : List Act) → AnyActs acts → {s : State} → Shipped c k t acts s → Reached (table_since c k t acts) s
  reached_since acts any {s} past =
      let w = reached c is t held (calls_of acts) (bytes_of acts any) in
      subst (λ (x : Table). Reached x s) (sym (same_table c is t held k told acts any))
      (subst (Reached (table_after c t (calls_of acts))) (sym (history_one c is t held (calls_of acts) (bytes_of acts any) w.1 (as_history c is t held k told acts any past))) w.2)

  ships : (acts : List Act) → AnyActs acts → {s : State} → Shipped c k t acts s → Ships c k t acts s
  ships acts any {s} past = record {
    shipped = past;
    only = λ s' past'. (after_acts acts any past).only s' (as_history c is t held k told acts any past');
    table_is = same_table c is t held k told acts any;
    after = after_acts acts any past;
    admits = λ id w h p. admission acts any past id w h p (fixed_here acts any past id w h p);
    answer_names = λ id w h p s' past'. names_running (reached_since (add id w ∷ acts) ((h, p), any) past') _ (named_after acts any past id w h p (fixed_here acts any past id w h p));
  }

-- functions that do what the contracts say meet it
pub demand_2_since : (c : Calls) → AsStated c → (k : Terminal) → AsTold k → Demand2Since c k
demand_2_since c is k told t held acts any =
    let w = demand_2 c is t held (calls_of acts) (bytes_of acts any) in
    (w.0, ships c is k told t held acts any (as_shipped c is t held k told acts any w.1.history))

-- The events accepted since stand before those of a moment: so there are the s and s' of specs/Draw, whatever the acts.
module _ (c : Calls) (k : Terminal) (d : Demand2Since c k) (t : Table) (held : AnyTable t) where
  pub events_added : (acts acts' : List Act) → AnyActs (acts' ++ acts) → {s S : State} → Shipped c k t acts s → Shipped c k t (acts' ++ acts) S → (s' : List Event) × (S ≡ s' ++ s)
  events_added acts [] any {s} {S} past now = let w = (d t held acts any).1 in ([], w.only S now ∙ sym (w.only s past))
  events_added acts (call (event e) ∷ acts') any past (accepted {ev = ev} now z v) = let r = events_added acts acts' any.1 past now in (ev ∷ r.0, ap (◌∷◌ ev) r.1)
  events_added acts (call (event e) ∷ acts') any past (refused now n) = events_added acts acts' any.1 past now
  events_added acts (call (ask q) ∷ acts') any past (asked now) = events_added acts acts' any.1 past now
  events_added acts (add id w ∷ acts') any past (added now z) = let r = events_added acts acts' any.1 past now in (Create id (priority_of w) ∷ r.0, ap (◌∷◌ (Create id (priority_of w))) r.1)
  events_added acts (add id w ∷ acts') any past (turned_away now n) = events_added acts acts' any.1 past now

  pub events_since : (acts acts' : List Act) → AnyActs (acts' ++ acts) → {s : State} → Shipped c k t acts s → (s' : List Event) × Shipped c k t (acts' ++ acts) (s' ++ s)
  events_since acts acts' any past =
      let w = d t held (acts' ++ acts) any in
      let r = events_added acts acts' any past w.1.shipped in
      (r.0, subst (Shipped c k t (acts' ++ acts)) r.1 w.1.shipped)
