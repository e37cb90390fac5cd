-- Each kind of accepted record: what is left, once its thread has its slot back and the clock is one further, is the record's. Assumes nothing.
use Prim.Native.Nat.{ℕ, ◌+◌, ◌≤◌}
use mathlib.Core.Path.{◌≡◌, sym}
use mathlib.Core.Option as paper
use mathlib.Core.List.{List, [], ◌∷◌, ◌++◌}
use mathlib.Core.Logic.{by_cases}
use native.Mathlib.Decide.{ℕ_discrete}
use lib.ListN.{set as put, length-set}
use lib.Seq.{ext_get_or, get_or-set_same, get_or-set_other}
use Rattle.std.specs.declared.option.Option.{Option}
use Rattle.protocol.specs.Events.{Event, Create, Exit, Set, P, «V»}
use Rattle.protocol.specs.Schedule.{release as leave}
use Rattle.table.specs.declared.Table.{Table}
use Rattle.table.specs.declared.Rows.{Rows}
use Rattle.table.specs.declared.Slot.{Slot}
use Rattle.table.specs.declared.workings.Workings.{Workings}
use Rattle.table.specs.Table.{at, slot, dead_slot, queues}
use Rattle.table.specs.Slots.{fresh_slot, set_slot, requested_slot, released_slot, with_slot}
use Rattle.refusals.specs.declared.Record.{Record}
use Rattle.refusals.specs.declared.kinds.Kind.{Kind}
use Rattle.refusals.specs.declared.kinds.Kind.TheVariants as kinds
use Rattle.events.specs.Events.{later, one_request_more, one_release_more, with_queue, changed, named}
use Rattle.events.specs.Code.Work.{Begun, DoneWith}
use Rattle.events.proofs.Accepted.Named.{names_create, names_exit, names_set, names_request, names_release}
use Rattle.release.specs.declared.heir.Next.{Next}
use Rattle.release.specs.Heir.{next_at}
use Rattle.apply.specs.Accepted.{Accepted, Applied}
use Rattle.apply.proofs.kinds.Ready.{number_is, create_begun, exit_begun, set_begun, request_begun, release_begun}

-- what stands at a place may be written there once more
same_again : (xs : List ℕ) (i : ℕ) → put xs i (at xs i) ≡ xs
same_again xs i = ext_get_or 0 (put xs i (at xs i)) xs (length-set xs i (at xs i)) (λ j h. by_cases (ℕ_discrete j i)
    (λ e. rw e (get_or-set_same xs i (at xs i) 0 (rw (e, length-set xs i (at xs i)) at h)))
    (λ n. get_or-set_other xs i j (at xs i) 0 n))

-- the table with these queues, one event later
abbrev with_rows : Table → Rows → Table
with_rows t rows = record {
  clock = t.clock + 1;
  live = t.live;
  priority = t.priority;
  time = t.time;
  current_priority = t.current_priority;
  current_time = t.current_time;
  rows = rows;
  requests = t.requests;
  releases = t.releases;
}

-- and with this slot for th: the code's table at the end of an event, but for the current precedences
abbrev left : Table → ℕ → Slot → Rows → Table
left t th s rows = with_slot (with_rows t rows) th s

-- of a P and a V, whose definitions write a total and no slot
module _ (t : Table) (th cs : ℕ) (q : List ℕ) where
  request_left : later (with_queue (one_request_more t th) cs q) ≡ left t th (requested_slot (slot t th)) (with_queue (one_request_more t th) cs q).rows
  unfolding with_queue with_slot
  request_left = rw (same_again t.live th, same_again t.priority th, same_again t.time th, same_again t.releases th)

  release_left : later (with_queue (one_release_more t th) cs q) ≡ left t th (released_slot (slot t th)) (with_queue (one_release_more t th) cs q).rows
  unfolding with_queue with_slot
  release_left = rw (same_again t.live th, same_again t.priority th, same_again t.time th, same_again t.requests th)

module _ {t : Table} {e : Record} {kind : Kind} {waits holders owns currents : List ℕ} {next : Option Next} (a : Accepted t e kind waits holders owns currents next) where
  abbrev follower : paper.Option ℕ
  follower = next_at t.rows.queue e.argument next

  -- the table, what goes along and the count, where the code has the slot and the count as a pair, are the record's
  abbrev Left : Table → Workings → Slot × ℕ → Type 0
  Left x w p = Applied t e follower x w.graph.holders w.graph.waits w.current p.1

  -- the table comes by way of u
  module _ {x u : Table} {p : Slot × ℕ} {w v : Workings} {rows : Rows} {s : Slot} {n : ℕ} (wrote : x ≡ with_slot u e.thread p.0) (queued : u ≡ with_rows t rows) (worked : w ≡ v) (is : p ≡ (s, n)) where
    applied : {ev : Event} → named e follower ≡ paper.some ev → Begun t ev t.rows.queue t.rows.length holders waits owns currents → DoneWith t ev rows.queue rows.length v.graph.holders v.graph.waits v.current n →
        changed t ev ≡ left t e.thread s (changed t ev).rows → Left x w p
    unfolding with_slot
    applied {ev} names b d made = rw (wrote, queued, worked, is) (record {
      event = ev;
      named_is = names;
      permitted = b.permitted;
      made = rw (d.queue_is, d.lengths_are) (sym made);
      tracks = d.tracks;
      counted = d.counted;
    })

    pub create_applied : e.argument ≤ 255 → (k : kind ≡ kinds.Create) → s ≡ fresh_slot e.argument t.clock → DoneWith t (Create e.thread e.argument) rows.queue rows.length v.graph.holders v.graph.waits v.current n → Left x w p
    unfolding changed with_slot
    create_applied small k q d = applied (names_create e follower (number_is a k)) (create_begun a small k) d (rw q)

    pub exit_applied : (k : kind ≡ kinds.Exit) → s ≡ dead_slot → DoneWith t (Exit e.thread) rows.queue rows.length v.graph.holders v.graph.waits v.current n → Left x w p
    unfolding changed with_slot
    exit_applied k q d = applied (names_exit e follower (number_is a k)) (exit_begun a k) d (rw q)

    pub set_applied : e.argument ≤ 255 → (k : kind ≡ kinds.Set) → s ≡ set_slot (slot t e.thread) e.argument t.clock → DoneWith t (Set e.thread e.argument) rows.queue rows.length v.graph.holders v.graph.waits v.current n → Left x w p
    unfolding changed with_slot
    set_applied small k q d = applied (names_set e follower (number_is a k)) (set_begun a small k) d (rw q)

    pub request_applied : (k : kind ≡ kinds.P) → s ≡ requested_slot (slot t e.thread) → DoneWith t (P e.thread e.argument) rows.queue rows.length v.graph.holders v.graph.waits v.current n → Left x w p
    unfolding changed
    request_applied k q d = applied (names_request e follower (number_is a k)) (request_begun a k) d (rw q (request_left t e.thread e.argument (queues t e.argument ++ (e.thread ∷ []))))

    pub release_applied : (k : kind ≡ kinds.V) → s ≡ released_slot (slot t e.thread) → DoneWith t («V» e.thread e.argument follower) rows.queue rows.length v.graph.holders v.graph.waits v.current n → Left x w p
    unfolding changed
    release_applied k q d = applied (names_release e follower (number_is a k)) (release_begun a k) d (rw q (release_left t e.thread e.argument (leave (queues t e.argument) follower)))
