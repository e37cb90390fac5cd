-- Document 01, "The count of re-evaluations", in the paper's words. Assumes nothing.
use Rattle.std.specs.Prelude.{ℕ, suc, ◌≡◌, ◌≢◌, [], ◌∷◌}
use Rattle.std.proofs.Math.Option.{none, some}
use Rattle.protocol.specs.Events.{Thread, Priority, Resource, Event, Create, Exit, Set, P, «V», State, Precedence}
use Rattle.protocol.specs.Schedule.{wq, Holds, Waits, Cprec}

-- the walk from th up, from holder to holder, at the event ev in the state s: it comes to n threads, th included
pub data Walk (s : State) (ev : Event) : Thread → ℕ → Type 0 where
  -- it stops at the first thread whose current precedence stays the same, that thread included,
  same : {th : Thread} (m : Precedence) → Cprec s th m → Cprec (ev ∷ s) th m → Walk s ev th 1
  -- or after a thread that waits for nothing
  last : {th : Thread} → ((cs : Resource) → ¬ Waits (ev ∷ s) th cs) → Walk s ev th 1
  -- else, where it became another, it goes on to the holder of what the thread waits for
  on : {th h : Thread} (m m' : Precedence) (cs : Resource) {n : ℕ} → Cprec s th m → Cprec (ev ∷ s) th m' → m ≢ m' → Waits (ev ∷ s) th cs → Holds (ev ∷ s) h cs → Walk s ev h n → Walk s ev th (suc n)

-- how many threads an event that is accepted in the state s has worked out afresh
pub data Counts (s : State) : Event → ℕ → Type 0 where
  -- Create: 1. Exit: 0. Set: 1.
  create : {th : Thread} {prio : Priority} → Counts s (Create th prio) 1
  exit : {th : Thread} → Counts s (Exit th) 0
  set_anew : {th : Thread} {prio : Priority} → Counts s (Set th prio) 1
  -- P of a free resource: 0; of a taken one: those of the walk, starting at its holder
  free : {th : Thread} {cs : Resource} → wq s cs ≡ [] → Counts s (P th cs) 0
  taken : {th h : Thread} {cs : Resource} {n : ℕ} → Holds s h cs → Walk s (P th cs) h n → Counts s (P th cs) n
  -- V with nobody waiting: 0; with a successor: 2, the releaser and the successor. An accepted V names one exactly when somebody waits.
  alone : {th : Thread} {cs : Resource} → Counts s («V» th cs none) 0
  follows : {th next : Thread} {cs : Resource} → Counts s («V» th cs (some next)) 2
