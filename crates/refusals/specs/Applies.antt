-- Which refusals apply to a record, and the one that is given: the lowest. Assumes nothing.
use Rattle.std.specs.Prelude.{ℕ, ◌≤◌, ◌<◌, ◌≡◌, ◌≢◌, ◌⊎◌}
use Rattle.protocol.specs.Sets.{◌∈◌}
use Rattle.protocol.specs.Events.{Resource}
use Rattle.protocol.specs.Graph.{T, C, RAG, ◌⁺}
use Rattle.table.specs.declared.Table.{Table}
use Rattle.table.specs.Table.{live, queues, Holds, running}
use Rattle.table.specs.Sound.{Sound}
use Rattle.refusals.specs.declared.Record.{Record}

-- by the record alone
pub data IllFormed (e : Record) : ℕ → Type 0 where
  -- 2: kind is not 1 to 5
  no_kind : ¬ ((1 ≤ e.kind) × (e.kind ≤ 5)) → IllFormed e 2
  -- 3: thread above 31
  no_thread : 31 < e.thread → IllFormed e 3
  -- 4: P or V with a resource above 15; Exit with an argument other than 0; fourth byte not 0
  no_resource : (e.kind ≡ 4) ⊎ (e.kind ≡ 5) → 15 < e.argument → IllFormed e 4
  exit_argument : e.kind ≡ 2 → e.argument ≢ 0 → IllFormed e 4
  fourth_byte : e.zero ≢ 0 → IllFormed e 4

pub data Applies (t : Table) (e : Record) : ℕ → Type 0 where
  -- 1: the table isn't sound
  not_sound : ¬ Sound t → Applies t e 1
  -- 2 to 4, by the record alone
  ill_formed : {n : ℕ} → IllFormed e n → Applies t e n
  -- 5: the clock is 65,535
  clock_ended : t.clock ≡ 65535 → Applies t e 5
  -- 6: Create of a live thread
  live_already : e.kind ≡ 1 → e.thread ∈ live t → Applies t e 6
  -- 7: another event of a thread that isn't live
  not_live : e.kind ≢ 1 → ¬ (e.thread ∈ live t) → Applies t e 7
  -- 8: another event of a live thread that isn't running
  not_running : e.kind ≢ 1 → e.thread ∈ live t → ¬ (e.thread ∈ running t) → Applies t e 8
  -- 9: P where a chain leads from the resource to the requester; holding it already is such a chain
  chained : e.kind ≡ 4 → (RAG (queues t) ⁺) (C e.argument) (T e.thread) → Applies t e 9
  -- 10: V of a resource that the thread doesn't hold
  not_held : e.kind ≡ 5 → ¬ Holds t e.thread e.argument → Applies t e 10
  -- 11: Exit while holding any resource
  holding : (cs : Resource) → e.kind ≡ 2 → Holds t e.thread cs → Applies t e 11

-- the number that is given: the lowest that applies, 0 if none does
abbrev pub Given : Table → Record → ℕ → Type 0
Given t e n = ((n ≡ 0) × ((m : ℕ) → ¬ Applies t e m)) ⊎ (Applies t e n × ((m : ℕ) → m < n → ¬ Applies t e m))
