-- The terminal's calls are calls of the lock table: the same tables, and the same events. Assumes nothing.
use Rattle.std.specs.Prelude.{Option, Some, None}
use Prim.Native.Nat.{ℕ, zero, suc, ◌≤◌, ◌<◌}
use mathlib.Core.Path.{◌≡◌, refl, sym, ap, subst, ◌∙◌}
use mathlib.Core.Bool.{Bool, true, false, cond}
use mathlib.Core.Logic.{◌≢◌}
use mathlib.Core.List.{List, [], ◌∷◌}
use native.Mathlib.Omega.{arith}
use lib.Dec.{leb}
use Rattle.protocol.specs.Events.{Event, Create, State, Priority}
use Rattle.table.specs.declared.Table.{Table}
use Rattle.table.specs.Table.{at}
use Rattle.table.specs.Compute.{all_below, is_sound}
use Rattle.table.proofs.Tests.Reflect.{tells_le, tells_below}
use Rattle.refusals.specs.declared.Record.{Record}
use Rattle.locks.specs.declared.Answer.{Answer}
use Rattle.locks.specs.Answers.{refused, answer_of}
use Rattle.terminal.specs.Tasks.{priorities, is_spare, creation}
use Rattle.terminal.specs.Start.{created_to}
use Rattle.terminal.specs.Spare.{default, priority_of, addition, spare_answer}
use Rattle.terminal.proofs.Started.{accepted_to}
use Rattle.terminal.proofs.Spared.{as_create, as_turned_away}
use Rattle.demands.specs.Memory.{AnyTable, AnyRecord}
use Rattle.demands.specs.Calls.{Left, Calls}
use Rattle.demands.specs.Runs as runs
use Rattle.demands.specs.Runs.{running, thread, resource, Call, event, ask, AnyCalls, table_after, number_of, Writes, create, exit, set_anew, request, release, History, none_yet}
use Rattle.demands.specs.Stated.{AsStated}
use Rattle.demands.proofs.Numbers.{left_is}
use Rattle.demands.proofs.Demand1.{left_of}
use Rattle.demands.proofs.Reached.{history_one}
use Rattle.demands.proofs.Demand2.{demand_2}
use Rattle.shipment.specs.Calls.{Terminal, adds, AnyWanted, AsTold}
use Rattle.shipment.specs.Shipped.{Act, call, add, AnyActs, table_since, Shipped, started, accepted, refused as not_accepted, asked, added, turned_away}
use Rattle.shipment.specs.Ships.{calls_to, as_call, calls_of}
use Rattle.shipment.proofs.Tasks.{tasks_to}

-- all that is passed is bytes

priority_byte : (i : ℕ) → i < 16 → at priorities i ≤ 255
unfolding all_below
priority_byte = (tells_below 16 (λ i. leb (at priorities i) 255) _ (λ i h. tells_le (at priorities i) 255)).0 refl

creation_bytes : (id priority : ℕ) → id ≤ 255 → priority ≤ 255 → AnyRecord (creation id priority)
creation_bytes id priority h p = record { kind = omega arith; thread = h; argument = p; zero = omega arith }

bytes_to : (n : ℕ) → n < 16 → AnyCalls (calls_to n)
bytes_to zero h = (creation_bytes 0 _ (omega arith) (priority_byte 0 h), tt)
bytes_to (suc n) h = (creation_bytes (suc n) _ (omega arith) (priority_byte (suc n) h), bytes_to n (omega arith))

pub addition_bytes : (id : ℕ) (w : Option Priority) → id ≤ 255 → AnyWanted w → AnyRecord (addition id w)
addition_bytes id None h p = creation_bytes id default h (omega arith)
addition_bytes id (Some priority) h p = creation_bytes id priority h p

one_more : (ks : List Call) → AnyCalls ks → (id : ℕ) (w : Option Priority) → id ≤ 255 → AnyWanted w → AnyCalls (as_call (add id w) ∷ ks)
one_more ks any id w h p = go (is_spare id) refl
  where
    go : (b : Bool) → is_spare id ≡ b → AnyCalls (as_call (add id w) ∷ ks)
    go true s = rw s (addition_bytes id w h p, any)
    go false s = rw s (tt, any)

pub bytes_of : (acts : List Act) → AnyActs acts → AnyCalls (calls_of acts)
bytes_of [] any = bytes_to 15 (omega arith)
bytes_of (call x ∷ acts) any = (any.0, bytes_of acts any.1)
bytes_of (add id w ∷ acts) any = one_more (calls_of acts) (bytes_of acts any.1) id w any.0.0 any.0.1

module _ (c : Calls) (is : AsStated c) where
  -- what a step leaves
  step_is : (u : Table) (e : Record) → AnyTable u → AnyRecord e → c.step u e ≡ left_of (answer_of u e)
  step_is u e a b = left_is (c.step u e) (is.step u e a b)

  module _ (k : Terminal) (told : AsTold k) (u : Table) (memory : AnyTable u) (id : ℕ) (w : Option Priority) (h : id ≤ 255) (p : AnyWanted w) where
    -- what adding a spare task leaves: the same as the step with its Create,
    pub adds_is : adds k u id w ≡ left_of (spare_answer u id w)
    adds_is = left_is (adds k u id w) (told.spare u id w memory h p)

    pub as_step : is_spare id ≡ true → adds k u id w ≡ c.step u (addition id w)
    as_step s = adds_is ∙ ap left_of (as_create u id w s) ∙ sym (step_is u (addition id w) memory (addition_bytes id w h p))

    -- or, with an id that is no spare task's, a refusal
    pub as_refusal : is_spare id ≡ false → adds k u id w ≡ left_of (refused u (cond (is_sound u) 17 1))
    as_refusal s = adds_is ∙ ap left_of (as_turned_away u id w s)

    -- which has another number than 0
    pub refusal_number : is_spare id ≡ false → (adds k u id w).answer.number ≢ 0
    unfolding refused
    refusal_number s z = go (is_sound u) (sym (ap (λ (l : Left Answer). l.answer.number) (as_refusal s)) ∙ z)
      where
        go : (b : Bool) → cond {A = ℕ} b 17 1 ≢ 0
        go true e = omega arith
        go false e = omega arith

  module _ (t : Table) (held : AnyTable t) where
    memory_after : (ks : List Call) → AnyCalls ks → AnyTable (table_after c t ks)
    memory_after ks any = (demand_2 c is t held ks any).1.memory

    -- task n is created on a table u, which is v; then what is left is that of specs/Start of `terminal`
    create_one : (n : ℕ) → n < 16 → (u : Table) {v : Table} → AnyTable u → u ≡ v → answer_of v (creation n (at priorities n)) ≡ created_to n → c.step u (creation n (at priorities n)) ≡ left_of (created_to n)
    create_one n h u memory q to = let e = creation n (at priorities n) in
        step_is u e memory (creation_bytes n (at priorities n) (omega arith) (priority_byte n h)) ∙ ap (λ (x : Table). left_of (answer_of x e)) q ∙ ap left_of to

    -- so the steps of a start leave these tables,
    table_to : (n : ℕ) → n < 16 → table_after c t (calls_to n) ≡ (created_to n).table
    unfolding created_to
    table_to zero h = ap (λ (l : Left Answer). l.table) (create_one zero h (c.empty t) (memory_after [] tt) (is.empty t held) refl)
    table_to (suc n) h = ap (λ (l : Left Answer). l.table) (create_one (suc n) h (table_after c t (calls_to n)) (memory_after (calls_to n) (bytes_to n (omega arith))) (table_to n (omega arith)) refl)

    -- and each is accepted
    history_to : (n : ℕ) → n < 16 → History c t (calls_to n) (tasks_to n)
    unfolding created_to
    history_to zero h = runs.History.accepted none_yet
        (ap (λ (l : Left Answer). l.answer.number) (create_one zero h (c.empty t) (memory_after [] tt) (is.empty t held) refl) ∙ accepted_to zero h) (create refl)
    history_to (suc n) h = runs.History.accepted (history_to n (omega arith))
        (ap (λ (l : Left Answer). l.answer.number) (create_one (suc n) h (table_after c t (calls_to n)) (memory_after (calls_to n) (bytes_to n (omega arith))) (table_to n (omega arith)) refl) ∙ accepted_to (suc n) h) (create refl)

    module _ (k : Terminal) (told : AsTold k) where
      -- A spare task is added after calls ks, to the table u that they left.
      module _ (ks : List Call) (any : AnyCalls ks) (u : Table) (left : u ≡ table_after c t ks) (id : ℕ) (w : Option Priority) (h : id ≤ 255) (p : AnyWanted w) where
        memory : AnyTable u
        memory = subst AnyTable (sym left) (memory_after ks any)

        added_table : (adds k u id w).table ≡ table_after c t (as_call (add id w) ∷ ks)
        unfolding refused
        added_table = go (is_spare id) refl
          where
            go : (b : Bool) → is_spare id ≡ b → (adds k u id w).table ≡ table_after c t (as_call (add id w) ∷ ks)
            go true s = rw s (ap (λ (l : Left Answer). l.table) (as_step k told u memory id w h p s) ∙ ap (λ (x : Table). (c.step x (addition id w)).table) left)
            go false s = rw s (ap (λ (l : Left Answer). l.table) (as_refusal k told u memory id w h p s) ∙ left ∙ sym (is.running (table_after c t ks) (memory_after ks any)).1)

        -- its number is the step's
        added_number : is_spare id ≡ true → (adds k u id w).answer.number ≡ number_of c t ks (addition id w)
        added_number s = ap (λ (l : Left Answer). l.answer.number) (as_step k told u memory id w h p s) ∙ ap (λ (x : Table). (c.step x (addition id w)).answer.number) left

        -- so it is an event of the calls where it is one of the acts, and the other way round
        added_history : {s : State} → History c t ks s → (adds k u id w).answer.number ≡ 0 → History c t (as_call (add id w) ∷ ks) (Create id (priority_of w) ∷ s)
        added_history {s} past z = go (is_spare id) refl
          where
            go : (b : Bool) → is_spare id ≡ b → History c t (as_call (add id w) ∷ ks) (Create id (priority_of w) ∷ s)
            go true q = rw q (runs.History.accepted past (sym (added_number q) ∙ z) (create refl))
            go false q = absurd (refusal_number k told u memory id w h p q z)

        away_history : {s : State} → History c t ks s → (adds k u id w).answer.number ≢ 0 → History c t (as_call (add id w) ∷ ks) s
        away_history {s} past n = go (is_spare id) refl
          where
            go : (b : Bool) → is_spare id ≡ b → History c t (as_call (add id w) ∷ ks) s
            go true q = rw q (runs.History.refused past (λ z. n (added_number q ∙ z)))
            go false q = rw q (runs.History.asked past)

        from_history : {acts : List Act} → table_since c k t acts ≡ u → ((s : State) → History c t ks s → Shipped c k t acts s) → {s : State} → History c t (as_call (add id w) ∷ ks) s → Shipped c k t (add id w ∷ acts) s
        from_history {acts} same before {s} past = go (is_spare id) refl
          where
            event_is : {s₀ : State} {ev : Event} → Writes s₀ (addition id w) ev → ev ≡ Create id (priority_of w)
            event_is (create _) = refl
            event_is (exit e) = absurd (omega arith)
            event_is (set_anew e) = absurd (omega arith)
            event_is (request e) = absurd (omega arith)
            event_is (release e _) = absurd (omega arith)

            number : (adds k (table_since c k t acts) id w).answer.number ≡ (adds k u id w).answer.number
            number = ap (λ (x : Table). (adds k x id w).answer.number) same

            stepped : is_spare id ≡ true → {s : State} → History c t (event (addition id w) ∷ ks) s → Shipped c k t (add id w ∷ acts) s
            stepped q (runs.History.accepted {s = s₀} {ev = ev} past z v) = subst (λ (x : Event). Shipped c k t (add id w ∷ acts) (x ∷ s₀)) (sym (event_is v)) (added (before _ past) (number ∙ added_number q ∙ z))
            stepped q (runs.History.refused past n) = turned_away (before _ past) (λ z. n (sym (added_number q) ∙ sym number ∙ z))

            queried : is_spare id ≡ false → {s : State} → History c t (ask running ∷ ks) s → Shipped c k t (add id w ∷ acts) s
            queried q (runs.History.asked past) = turned_away (before _ past) (λ z. refusal_number k told u memory id w h p q (sym number ∙ z))

            go : (b : Bool) → is_spare id ≡ b → Shipped c k t (add id w ∷ acts) s
            go true q = stepped q (rw q at past)
            go false q = queried q (rw q at past)

      -- after any acts the table is that of the calls
      pub same_table : (acts : List Act) → AnyActs acts → table_since c k t acts ≡ table_after c t (calls_of acts)
      same_table [] any = (told.start t held).1 ∙ sym (table_to 15 (omega arith))
      same_table (call (event e) ∷ acts) any = ap (λ (u : Table). (c.step u e).table) (same_table acts any.1)
      same_table (call (ask running) ∷ acts) any = ap (λ (u : Table). (c.running u).table) (same_table acts any.1)
      same_table (call (ask (thread th)) ∷ acts) any = ap (λ (u : Table). (c.thread u th).table) (same_table acts any.1)
      same_table (call (ask (resource cs)) ∷ acts) any = ap (λ (u : Table). (c.resource u cs).table) (same_table acts any.1)
      same_table (add id w ∷ acts) any = added_table (calls_of acts) (bytes_of acts any.1) (table_since c k t acts) (same_table acts any.1) id w any.0.0 any.0.1

      -- a record after the acts gets the number that it gets after the calls
      same_number : (acts : List Act) → AnyActs acts → (e : Record) → (c.step (table_since c k t acts) e).answer.number ≡ number_of c t (calls_of acts) e
      same_number acts any e = ap (λ (u : Table). (c.step u e).answer.number) (same_table acts any)

      -- and the accepted events are those of the calls
      pub as_history : (acts : List Act) → AnyActs acts → {s : State} → Shipped c k t acts s → History c t (calls_of acts) s
      as_history [] any started = history_to 15 (omega arith)
      as_history (call (event e) ∷ acts) any (accepted past z v) = runs.History.accepted (as_history acts any.1 past) (sym (same_number acts any.1 e) ∙ z) v
      as_history (call (event e) ∷ acts) any (not_accepted past n) = runs.History.refused (as_history acts any.1 past) (λ z. n (same_number acts any.1 e ∙ z))
      as_history (call (ask q) ∷ acts) any (asked past) = runs.History.asked (as_history acts any.1 past)
      as_history (add id w ∷ acts) any (added past z) = added_history (calls_of acts) (bytes_of acts any.1) (table_since c k t acts) (same_table acts any.1) id w any.0.0 any.0.1 (as_history acts any.1 past) z
      as_history (add id w ∷ acts) any (turned_away past n) = away_history (calls_of acts) (bytes_of acts any.1) (table_since c k t acts) (same_table acts any.1) id w any.0.0 any.0.1 (as_history acts any.1 past) n

      pub as_shipped : (acts : List Act) → AnyActs acts → {s : State} → History c t (calls_of acts) s → Shipped c k t acts s
      as_shipped [] any past = subst (Shipped c k t []) (history_one c is t held (calls_to 15) (bytes_to 15 (omega arith)) past (history_to 15 (omega arith))) started
      as_shipped (call (event e) ∷ acts) any (runs.History.accepted past z v) = accepted (as_shipped acts any.1 past) (same_number acts any.1 e ∙ z) v
      as_shipped (call (event e) ∷ acts) any (runs.History.refused past n) = not_accepted (as_shipped acts any.1 past) (λ z. n (sym (same_number acts any.1 e) ∙ z))
      as_shipped (call (ask q) ∷ acts) any (runs.History.asked past) = asked (as_shipped acts any.1 past)
      as_shipped (add id w ∷ acts) any past = from_history (calls_of acts) (bytes_of acts any.1) (table_since c k t acts) (same_table acts any.1) id w any.0.0 any.0.1 refl (λ s₀ h. as_shipped acts any.1 h) past
