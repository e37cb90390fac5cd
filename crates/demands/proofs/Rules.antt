-- The table permits an event exactly when the paper's rules admit it, and so a well-formed record is accepted exactly when they admit its event. Assumes nothing.
use Prim.Native.Nat.{ℕ, ◌≤◌, ◌<◌}
use mathlib.Core.Path.{◌≡◌, subst}
use mathlib.Core.Option.{Option, none, some}
use mathlib.Core.Logic.{◌≢◌, inl, ◌↔◌}
use native.Mathlib.Omega.{arith}
use Rattle.protocol.specs.Sets.{◌∈◌}
use Rattle.protocol.specs.Events.{Thread, Resource, Event, Create, «V», State}
use Rattle.protocol.specs.Graph.{T, C, RAG as RAGOf, ◌⁺, Holds as HoldsIn}
use Rattle.protocol.specs.Schedule.{Holds, RAG}
use Rattle.protocol.specs.Rules.{MayFollow, Step, create as create_step, exit as exit_step, set as set_step, request as request_step, release as release_step}
use Rattle.protocol.proofs.Lists.{Follows}
use Rattle.table.specs.declared.Table.{Table}
use Rattle.table.specs.Table as table
use Rattle.table.specs.Table.{live, queues}
use Rattle.refusals.specs.declared.Record.{Record}
use Rattle.refusals.specs.Refusals.{refusals, lowest}
use Rattle.refusals.specs.Applies.{Applies, not_sound, ill_formed, clock_ended, live_already, not_live, not_running, chained, not_held, holding}
use Rattle.refusals.proofs.Given.Formed.{formed_thread, formed_resource}
use Rattle.refusals.proofs.Given.Exactly.{given_passes}
use Rattle.events.specs.Events.{event_of}
use Rattle.events.specs.Code.Permits.{Permits, create, exit, set, request, release}
use Rattle.events.proofs.Accepted.Named.{names_create, names_exit, names_request, names_release}
use Rattle.events.proofs.Accepted.Permitted.{permitted}
use Rattle.events.proofs.Kept.Queues.{request_joins}
use Rattle.events.proofs.Kept.Stays.{exits_out}
use Rattle.demands.specs.Runs.{Writes, create as of_create, exit as of_exit, set_anew as of_set, request as of_request, release as of_release, WellFormed}
use Rattle.demands.proofs.Agrees.{Reached, good, same_queues}
use Rattle.demands.proofs.Same.{same_running}
use Rattle.demands.proofs.Chosen.{writes_named}

-- what a permitted Create and a permitted V say
created_new : {t : Table} {th prio : ℕ} → Permits t (Create th prio) → ¬ (th ∈ live t)
created_new (create low small new) = new

released_held : {t : Table} {th cs : ℕ} {next : Option ℕ} → Permits t («V» th cs next) → table.Holds t th cs
released_held (release runs held f) = held

-- every permitted event but Create is one of the running thread
caller_runs : {t : Table} {s : State} {e : Record} {ev : Event} → Writes s e ev → Permits t ev → e.kind ≢ 1 → e.thread ∈ table.running t
caller_runs (of_create k) p n = absurd (n k)
caller_runs (of_exit k) (exit runs bare) n = runs
caller_runs (of_set k) (set runs small) n = runs
caller_runs (of_request k) (request runs low chainless) n = runs
caller_runs (of_release k c) (release runs held f) n = runs

module _ {t : Table} {s : State} (r : Reached t s) where
  -- who holds, what leads where and who may follow is the same in both
  same_holds : (th : Thread) (cs : Resource) → table.Holds t th cs ↔ Holds s th cs
  same_holds th cs = same_queues r (λ q. HoldsIn q th cs)

  same_chain : (cs : Resource) (th : Thread) → (RAGOf (queues t) ⁺) (C cs) (T th) ↔ (RAG s ⁺) (C cs) (T th)
  same_chain cs th = same_queues r (λ q. (RAGOf q ⁺) (C cs) (T th))

  same_follow : (cs : Resource) (next : Option Thread) → Follows (queues t cs) next ↔ MayFollow s cs next
  same_follow cs none = same_queues r (λ q. Follows (q cs) none)
  same_follow cs (some th) = same_queues r (λ q. Follows (q cs) (some th))

  -- the rules admit what the table permits
  pub permits_steps : {ev : Event} → Permits t ev → Step s ev
  permits_steps (create {th} low small new) = create_step (λ l. new ((r.agrees.live th).1 l))
  permits_steps (exit {th} runs bare) = exit_step ((same_running r th).0 runs) (λ cs h. bare cs ((same_holds th cs).1 h))
  permits_steps (set {th} runs small) = set_step ((same_running r th).0 runs)
  permits_steps (request {th} {cs} runs low chainless) = request_step ((same_running r th).0 runs) (λ w. chainless ((same_chain cs th).1 w))
  permits_steps (release {th} {cs} {next} runs held f) = release_step ((same_running r th).0 runs) ((same_holds th cs).0 held) ((same_follow cs next).0 f)

  module _ {e : Record} (formed : WellFormed e) (small : e.argument ≤ 255) where
    -- the table permits what the rules admit, if it is the event of a well-formed record: the table's limits are the record's
    steps_permits : {ev : Event} → Writes s e ev → Step s ev → Permits t ev
    steps_permits (of_create k) (create_step {th} new) = create (formed_thread formed) small (λ l. new ((r.agrees.live th).0 l))
    steps_permits (of_exit k) (exit_step {th} runs bare) = exit ((same_running r th).1 runs) (λ cs h. bare cs ((same_holds th cs).0 h))
    steps_permits (of_set k) (set_step {th} runs) = set ((same_running r th).1 runs) small
    steps_permits (of_request k) (request_step {th} {cs} runs chainless) = request ((same_running r th).1 runs) (formed_resource formed (inl k)) (λ w. chainless ((same_chain cs th).0 w))
    steps_permits (of_release k c) (release_step {th} {cs} {next} runs held f) = release ((same_running r th).1 runs) ((same_holds th cs).1 held) ((same_follow cs next).1 f)

    -- a record whose event the table permits meets no refusal
    unrefused : t.clock < 65535 → {ev : Event} → Writes s e ev → Permits t ev → (m : ℕ) → ¬ Applies t e m
    unfolding event_of
    unrefused early w p = go
      where
        -- the event, where the record's kind is given
        named : {x : Event} → event_of t e ≡ some x → Permits t x
        named q = subst (Permits t) (cc (q, writes_named r w)) p

        go : (m : ℕ) → ¬ Applies t e m
        go m (not_sound n) = n r.right.1
        go m (ill_formed i) = formed m i
        go m (clock_ended k) = omega arith
        go m (live_already k l) = created_new (named (names_create e _ k)) l
        go m (not_live k n) = n (caller_runs w p k).among.0
        go m (not_running k l n) = n (caller_runs w p k)
        go m (chained k c) = (request_joins t (good r) (named (names_request e _ k))).chainless c
        go m (not_held k n) = n (released_held (named (names_release e _ k)))
        go m (holding cs k h) = exits_out t (named (names_exit e _ k)) cs h.0

    -- so it is accepted exactly when the rules admit its event
    pub accepted_exactly : t.clock < 65535 → {ev : Event} → Writes s e ev → (lowest (refusals t e) ≡ 0) ↔ Step s ev
    accepted_exactly early w = (
      λ z. let p = permitted t e r.right.0 z small in subst (Step s) (cc (p.1, writes_named r w)) (permits_steps p.2),
      λ st. given_passes t e r.right.0 (unrefused early w (steps_permits w st)),
    )
