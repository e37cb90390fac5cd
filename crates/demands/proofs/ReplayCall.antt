-- The call that reads a log back, by itself: one result for each log, and demand 1. Assumes nothing.
use Prim.Native.Nat.{ℕ, ◌≤◌}
use mathlib.Core.Path.{◌≡◌, refl, sym, ◌∙◌}
use mathlib.Core.Logic.{◌≢◌, inl, inr, ⊎_elim}
use mathlib.Core.List.{List}
use native.Mathlib.Omega.{arith}
use Rattle.table.specs.declared.Table.{Table}
use Rattle.table.specs.Table.{empty}
use Rattle.table.specs.Sound.{Sound}
use Rattle.refusals.specs.declared.Record.{Record}
use Rattle.refusals.specs.Applies as why
use Rattle.refusals.specs.Applies.{Applies, IllFormed}
use Rattle.locks.specs.declared.Answer.{Answer}
use Rattle.replay.specs.declared.Replayed.{Replayed}
use Rattle.replay.specs.Read.{event_in, Gives}
use Rattle.replay.proofs.Answers.{gives_one}
use Rattle.replay.proofs.Always.{the_read, gives_always}
use Rattle.replay.proofs.Records.{Ends, at_its_end, by_block, by_event, reads_end}
use Rattle.demands.specs.Calls.{Left}
use Rattle.demands.specs.Fixed as fixed
use Rattle.demands.specs.Fixed.{StepFixed}
use Rattle.demands.specs.Kept.{AnyLog}
use Rattle.demands.specs.Replay.{ReplayCall, ReplayStated, ReplayFixed, ReadTold, ReadBack}
use Rattle.demands.proofs.TheCalls.{the_calls, as_stated, demand_1_met}
use Rattle.demands.proofs.LogCall.{the_log, log_stated}
use Rattle.demands.proofs.Wrong.{memory}
use Rattle.demands.proofs.Replay.{any_event, read_told, read_back}

-- No two results satisfy the contract for one log,
pub replay_one : (log : List ℕ) (a b : Replayed) → Gives log a → Gives log b → a ≡ b
replay_one log a b = gives_one

-- and one does, for every log.
abbrev pub the_replay : ReplayCall
the_replay = the_read

pub replay_stated : ReplayStated the_replay
replay_stated log holds = gives_always log

-- The numbers of an event that is refused on a sound table
ill_formed_low : {e : Record} {n : ℕ} → IllFormed e n → (2 ≤ n) × (n ≤ 11)
ill_formed_low (why.no_kind _) = (omega arith, omega arith)
ill_formed_low (why.no_thread _) = (omega arith, omega arith)
ill_formed_low (why.no_resource _ _) = (omega arith, omega arith)
ill_formed_low (why.exit_argument _ _) = (omega arith, omega arith)
ill_formed_low (why.fourth_byte _) = (omega arith, omega arith)

applies_low : {t : Table} {e : Record} {n : ℕ} → Sound t → Applies t e n → (2 ≤ n) × (n ≤ 11)
applies_low s (why.not_sound b) = absurd (b s)
applies_low s (why.ill_formed i) = ill_formed_low i
applies_low s (why.clock_ended _) = (omega arith, omega arith)
applies_low s (why.live_already _ _) = (omega arith, omega arith)
applies_low s (why.not_live _ _) = (omega arith, omega arith)
applies_low s (why.not_running _ _ _) = (omega arith, omega arith)
applies_low s (why.chained _ _) = (omega arith, omega arith)
applies_low s (why.not_held _ _) = (omega arith, omega arith)
applies_low s (why.holding _ _ _) = (omega arith, omega arith)

own_number : {t : Table} {e : Record} {left : Left Answer} → Sound t → StepFixed t e left → left.answer.number ≢ 0 → (2 ≤ left.answer.number) × (left.answer.number ≤ 11)
own_number s (fixed.StepFixed.not_sound b) n = absurd (b s)
own_number s (fixed.StepFixed.refused _ given _) n = ⊎_elim (λ z. absurd (n z.0)) (λ a. applies_low s a.0) given
own_number s (fixed.StepFixed.accepted _ _ _ _ _ _) n = absurd (n refl)

-- Demand 1 of this call: the table that was read is sound, so where an event stops it, its number is one of 2 to 11
pub replay_demand_1 : (p : ReplayCall) → ReplayStated p → (log : List ℕ) → AnyLog log → ReplayFixed (p log)
replay_demand_1 p is log holds = go (reads_end holds.bytes told.reads)
  where
    told : ReadTold the_calls empty log (p log)
    told = read_told the_calls as_stated empty memory log (p log) holds (is log holds)

    go : Ends (p log).table (p log).number → ReplayFixed (p log)
    go (at_its_end z) = inl z
    go (by_block low high) = inr (inr (low, high))
    go (by_event r f e n) =
        let sound = rw told.table_is at told.after.sound in
        let held = rw told.table_is at told.after.memory in
        let low = own_number sound (demand_1_met.step (p log).table (event_in r) held (any_event r f)) (λ z. n (sym e ∙ z)) in
        inr (inl (omega (arith, e, low.0), omega (arith, e, low.1)))

-- What is kept is read back by the functions that the contracts name, with no premise at all.
pub read_back_met : ReadBack the_calls the_log the_replay
read_back_met = read_back the_calls the_log the_replay as_stated log_stated replay_stated
