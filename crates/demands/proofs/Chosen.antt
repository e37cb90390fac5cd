-- The table's choice of the next holder is document 02's in the paper's terms, and the event of a record in a state is the one that the
-- record names in a table that agrees with it. Assumes nothing.
use Prim.Native.Nat.{ℕ, ◌≤◌}
use mathlib.Core.Path.{◌≡◌, refl, ap, subst, ◌∙◌}
use mathlib.Core.Option.{Option, none, some}
use mathlib.Core.Logic.{◌↔◌}
use native.Mathlib.Decide.{ℕ_discrete}
use native.Mathlib.Omega.{arith}
use Rattle.protocol.specs.Graph.{Waits as WaitsIn}
use Rattle.protocol.specs.Events.{Event, «V», State}
use Rattle.protocol.specs.Schedule.{Waits, Cprec}
use Rattle.protocol.specs.Rules.{Valid}
use Rattle.protocol.proofs.Lists.{Follows}
use Rattle.protocol.proofs.Theorems.{one_heir}
use Rattle.table.specs.declared.Table.{Table}
use Rattle.table.specs.Table as table
use Rattle.table.specs.Table.{queues}
use Rattle.refusals.specs.declared.Record.{Record}
use Rattle.events.specs.Events.{heir, event_of}
use Rattle.events.proofs.Heir.{heir_follows, heir_topmost}
use Rattle.events.proofs.Accepted.Named.{names_create, names_exit, names_set, names_request, names_release}
use Rattle.demands.specs.Runs.{Chosen, Writes, create, exit, set_anew, request, release}
use Rattle.demands.proofs.Agrees.{Reached, good, ordered, same_queues}
use Rattle.demands.proofs.Same.{highest_map, same_cprec}

-- the heir in the table is the one that document 02 chooses in the state
heir_chosen : {t : Table} {s : State} → Reached t s → (cs : ℕ) → Chosen s cs (heir t (queues t cs))
heir_chosen {t} {s} r cs = go (heir t (queues t cs)) refl (heir_follows t (queues t cs) (r.right.1.bare.queues_right.differ cs))
  where
    waiting : (u : ℕ) → table.Waits t u cs ↔ Waits s u cs
    waiting u = same_queues r (λ q. WaitsIn q u cs)

    go : (next : Option ℕ) → heir t (queues t cs) ≡ next → Follows (queues t cs) next → Chosen s cs next
    go none e f = λ u w. f u ((waiting u).1 w)
    go (some b) e f = highest_map (table.Cprec t) (Cprec s) (λ u. table.Waits t u cs) (λ u. Waits s u cs) waiting
        (λ u w. same_cprec r u ((ordered r).entries cs u ((waiting u).0 w).0)) b (heir_topmost t (good r) cs b e)

-- there is one choice
chosen_one : {s : State} → Valid s → (cs : ℕ) (a b : Option ℕ) → Chosen s cs a → Chosen s cs b → a ≡ b
chosen_one v cs none none p q = refl
chosen_one v cs none (some b) p q = absurd (p b q.among)
chosen_one v cs (some a) none p q = absurd (q a p.among)
chosen_one {s} v cs (some a) (some b) p q = ap some (one_heir s v cs a b p q)

module _ {t : Table} {s : State} (r : Reached t s) {e : Record} where
  -- a record of one of the five kinds has an event
  pub some_event : (1 ≤ e.kind) × (e.kind ≤ 5) → (ev : Event) × Writes s e ev
  some_event known = go (ℕ_discrete e.kind 1) (ℕ_discrete e.kind 2) (ℕ_discrete e.kind 3) (ℕ_discrete e.kind 4)
    where
      go : Dec (e.kind ≡ 1) → Dec (e.kind ≡ 2) → Dec (e.kind ≡ 3) → Dec (e.kind ≡ 4) → (ev : Event) × Writes s e ev
      go (yes k) d2 d3 d4 = (_, create k)
      go (no n1) (yes k) d3 d4 = (_, exit k)
      go (no n1) (no n2) (yes k) d4 = (_, set_anew k)
      go (no n1) (no n2) (no n3) (yes k) = (_, request k)
      go (no n1) (no n2) (no n3) (no n4) = (_, release {next = heir t (queues t e.argument)} (omega arith) (heir_chosen r e.argument))

  -- the event is the one that the record names
  pub writes_named : {ev : Event} → Writes s e ev → event_of t e ≡ some ev
  unfolding event_of
  writes_named (create k) = names_create e _ k
  writes_named (exit k) = names_exit e _ k
  writes_named (set_anew k) = names_set e _ k
  writes_named (request k) = names_request e _ k
  writes_named (release {next = next} k c) =
      names_release e _ k ∙ ap (λ (n : Option ℕ). some («V» e.thread e.argument n)) (chosen_one r.by_rules e.argument (heir t (queues t e.argument)) next (heir_chosen r e.argument) c)

  -- so there is no other
  pub writes_one : {ev ev' : Event} → Writes s e ev → Writes s e ev' → ev ≡ ev'
  writes_one v w = cc (writes_named v, writes_named w)

  -- and what it names is its event
  pub named_writes : (1 ≤ e.kind) × (e.kind ≤ 5) → {ev : Event} → event_of t e ≡ some ev → Writes s e ev
  named_writes known named = let w = some_event known in subst (Writes s e) (cc (named, writes_named w.1)) w.1
