-- An accepted event on a sound table gives a sound one. Assumes nothing.
use Prim.Native.Nat.{ℕ, ◌<◌}
use mathlib.Core.List.{List, [], ◌∷◌, ◌++◌}
use mathlib.Core.Logic.{⊎_elim}
use Rattle.protocol.specs.Sets.{◌∈◌, set as members}
use Rattle.protocol.specs.Events.{Event, Exit}
use Rattle.protocol.specs.Schedule.{release as leave}
use Rattle.protocol.proofs.Lists.{in_cases}
use Rattle.table.specs.declared.Table.{Table}
use Rattle.table.specs.declared.Slot.{Slot}
use Rattle.table.specs.Table.{queues}
use Rattle.table.specs.Sound.{Sound}
use Rattle.table.specs.Code.Shape.{Shape}
use Rattle.table.proofs.Sound.Read.{sound_good}
use Rattle.table.proofs.Values.Values.{Good, bare_good, thread_low}
use Rattle.events.specs.Events.{settled, later, with_slot, with_totals, with_queue, changed}
use Rattle.events.specs.Code.Permits.{Permits, create, exit, set, request, release}
use Rattle.events.proofs.Kept.Shapes.{later_shape, slot_shape}
use Rattle.events.proofs.Kept.Slots.{SlotFits, slot_bare, create_fits, set_fits, exit_fits}
use Rattle.events.proofs.Kept.Queues.{QueueFits, fits_shape, later_bare, queue_bare, request_fits, release_fits, release_low}
use Rattle.events.proofs.Kept.Totals.{changed_totals}
use Rattle.events.proofs.Kept.Settled.{settled_shape, settled_sound}

-- a sound table whose arrays have their sizes
abbrev pub Right : Table → Type 0
Right t = Shape t × Sound t

-- who exits stands in no queue
pub exits_out : (t : Table) {th : ℕ} → Permits t (Exit th) → (cs : ℕ) → ¬ (th ∈ members (queues t cs))
exits_out t {th} (exit runs empty_handed) cs i = ⊎_elim {C = ⊥} (empty_handed cs) (runs.among.1 cs) (in_cases (queues t cs) th i)

module _ (t : Table) (g : Good t) (early : t.clock < 65535) where
  -- one slot, or one queue, is written
  pub slot_good : (th : ℕ) (n : Slot) → th < 32 → SlotFits t th n → Good (later (with_slot t th n))
  slot_good th n low f = bare_good (later (with_slot t th n)) (later_shape (slot_shape t th n g.shape)) (slot_bare t th n g.shape low g.bare f early)

  pub queue_good : (cs : ℕ) (q : List ℕ) {requests releases : List ℕ} → cs < 16 → QueueFits t cs q requests releases → Good (later (with_queue (with_totals t requests releases) cs q))
  unfolding with_queue
  queue_good cs q low f = bare_good _ (later_shape (fits_shape t cs q g.shape low f)) (later_bare (queue_bare t cs q g.shape g.bare low f) early)

  -- a permitted event keeps all rules of a sound table but those on the stored current precedences
  pub changed_good : {ev : Event} → Permits t ev → Good (changed t ev)
  unfolding changed
  changed_good (create {th} {prio} low small new) = slot_good th _ low (create_fits t th prio small)
  changed_good (exit {th} runs empty_handed) = slot_good th _ (thread_low t g th runs.among.0) (exit_fits t th (exits_out t (exit runs empty_handed)))
  changed_good (set {th} {prio} runs small) = slot_good th _ (thread_low t g th runs.among.0) (set_fits t th prio small runs.among.0)
  changed_good (request {th} {cs} runs low chainless) = queue_good cs (queues t cs ++ (th ∷ [])) low (request_fits t g (request runs low chainless))
  changed_good (release {th} {cs} {next} runs head follows) = queue_good cs (leave (queues t cs) next) (release_low t g {next = next} (release runs head follows)) (release_fits t g (release runs head follows))

-- an accepted event on a sound table gives a sound one
pub stays_right : (t : Table) → Right t → t.clock < 65535 → {ev : Event} → Permits t ev → Right (settled (changed t ev))
stays_right t (shape, sound) early {ev} p = let g = changed_good t (sound_good t shape sound) early p in (settled_shape (changed t ev) g.shape, settled_sound (changed t ev) g (changed_totals t (sound_good t shape sound) sound.totals p))
