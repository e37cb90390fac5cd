-- What holds of an event that no refusal meets. Assumes nothing.
use Prim.Native.Nat.{ℕ, ◌≤◌, ◌<◌}
use mathlib.Core.Path.{◌≡◌}
use mathlib.Core.Logic.Dec
use mathlib.Core.Logic.{◌≢◌, ◌⊎◌}
use native.Mathlib.Omega.{arith}
use Rattle.protocol.specs.Sets.{◌∈◌}
use Rattle.protocol.specs.Graph.{T, C, RAG, ◌⁺}
use Rattle.table.specs.declared.Table.{Table}
use Rattle.table.specs.Table.{live, queues, Holds, running}
use Rattle.table.specs.Sound.{Sound}
use Rattle.table.specs.Code.Shape.{Shape}
use Rattle.table.proofs.Tests.Computed.{tells_live}
use Rattle.table.proofs.Tests.Decided.{tells_sound}
use Rattle.table.proofs.Sound.Read.{sound_good}
use Rattle.table.proofs.Values.Values.{Good}
use Rattle.refusals.specs.declared.Record.{Record}
use Rattle.refusals.specs.Applies.{IllFormed, Applies, not_sound, ill_formed, clock_ended, live_already, not_live, not_running, chained, not_held, holding}
use Rattle.refusals.proofs.Tests.Tells.{decides, unless, tells_running, tells_holds}
use Rattle.refusals.proofs.Given.Formed.{formed_kind, formed_thread, formed_resource}

-- from each refusal's absence what it says
module _ {t : Table} {e : Record} (none : (m : ℕ) → ¬ Applies t e m) where
  -- 2 to 4: the record is well formed
  is_formed : (n : ℕ) → ¬ IllFormed e n
  is_formed n i = none n (ill_formed i)

  pub kind_known : (1 ≤ e.kind) × (e.kind ≤ 5)
  kind_known = formed_kind is_formed

  pub thread_small : e.thread < 32
  thread_small = formed_thread is_formed

  pub resource_small : (e.kind ≡ 4) ⊎ (e.kind ≡ 5) → e.argument < 16
  resource_small = formed_resource is_formed

  -- 6: who is created isn't live
  pub is_new : e.kind ≡ 1 → ¬ (e.thread ∈ live t)
  is_new k l = none 6 (live_already k l)

  -- 9: P: no chain leads from the resource to the requester
  pub is_chainless : e.kind ≡ 4 → ¬ (RAG (queues t) ⁺) (C e.argument) (T e.thread)
  is_chainless k w = none 9 (chained k w)

  -- 11: who exits holds nothing
  pub is_empty_handed : e.kind ≡ 2 → (cs : ℕ) → ¬ Holds t e.thread cs
  is_empty_handed k cs h = none 11 (holding cs k h)

  module _ (shape : Shape t) where
    -- 1: the table is sound
    pub table_sound : Sound t
    table_sound = (Dec.not-not (decides (tells_sound t shape))).0 (λ n. none 1 (not_sound n))

    good : Good t
    good = sound_good t shape table_sound

    -- 5: the clock hasn't come to its end
    pub clock_early : t.clock < 65535
    clock_early = let n : t.clock ≢ 65535 = (λ k. none 5 (clock_ended k)) in omega (arith, table_sound.bare.clock)

    -- 7 and 8: every event but Create is one of the running thread
    pub is_running : e.kind ≢ 1 → e.thread ∈ running t
    is_running = unless (decides (tells_running t good e.thread thread_small)) (λ w. none 8 (not_running w.0 (alive w.0) w.1))
      where
        alive : e.kind ≢ 1 → e.thread ∈ live t
        alive = unless (decides (tells_live t e.thread)) (λ w. none 7 (not_live w.0 w.1))

    -- 10: V is done by the holder
    pub is_holding : e.kind ≡ 5 → Holds t e.thread e.argument
    is_holding = unless (decides (tells_holds t good e.thread e.argument thread_small)) (λ w. none 10 (not_held w.0 w.1))
