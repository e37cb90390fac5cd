-- Document 02, K1: "The bench wants every accepted event on a card." A kernel that keeps its accepted events in a log: after each step that answers 0 it lends its buffer to `locktable_log`, with
-- the number of records so far, which is the table's clock before that step, and with the same record. Assumes nothing.
use Rattle.std.specs.Prelude.{ℕ, ◌*◌, ◌≤◌, ◌<◌, ◌≡◌, cond, ◌⊎◌, List, [], ◌∷◌, ◌++◌, eqb, length, drop}
use Rattle.table.specs.declared.Table.{Table}
use Rattle.refusals.specs.declared.Record.{Record}
use Rattle.event_log.specs.Bytes.{Bytes}
use Rattle.event_log.specs.Card.{blocks_for, log_of}
use Rattle.event_log.specs.Keep.{Keeps}
use Rattle.locktable.specs.Four.{four_of}
use Rattle.demands.specs.Memory.{AnyTable, AnyRecord}
use Rattle.demands.specs.Calls.{Calls}
use Rattle.demands.specs.Runs.{Call, event, ask, AnyCalls, table_after, number_of}

-- what the log's call leaves: its answer, and what the buffer that was lent to it holds afterwards
pub record Wrote : Type 0 where
  pub number : ℕ
  pub log : List ℕ

-- a function in the place of the log's call: it takes what the lent buffer holds, the number of records so far and a record
abbrev pub LogCall : Type 0
LogCall = List ℕ → ℕ → Record → Wrote

-- any log: whatever bytes a lent buffer can hold; it is shorter than 2 ^ 63
pub record AnyLog (log : List ℕ) : Type 0 where
  pub bytes : Bytes log
  pub fits : length log < 9223372036854775808

-- what the call's contract says of a buffer, a number and a record, and of what is left
abbrev pub LogSays : List ℕ → ℕ → Record → Wrote → Type 0
LogSays log n e w = Keeps log n (four_of e) w.number w.log

-- the function does what the contract says, for any log, number and record
abbrev pub LogStated : LogCall → Type 0
LogStated k = (log : List ℕ) (n : ℕ) (e : Record) → AnyLog log → n < 4294967296 → AnyRecord e → LogSays log n e (k log n e)

-- Demand 1 of this call: it refuses with a number fixed beforehand, and "a refused call changes no byte", here of the buffer
abbrev pub LogFixed : List ℕ → Wrote → Type 0
LogFixed log w = (w.number ≡ 0) ⊎ (((w.number ≡ 5) ⊎ ((w.number ≡ 13) ⊎ (w.number ≡ 14))) × (w.log ≡ log))

-- the records that were accepted, the oldest first
abbrev pub records : Calls → Table → List Call → List (List ℕ)
records c t [] = []
records c t (event e ∷ ks) = cond (eqb (number_of c t ks e) 0) (records c t ks ++ (four_of e ∷ [])) (records c t ks)
records c t (ask q ∷ ks) = records c t ks

-- what the kernel's buffer holds after the calls, if it held `fresh` to begin with
abbrev pub log_after : Calls → LogCall → Table → List ℕ → List Call → List ℕ
log_after c k t fresh [] = fresh
log_after c k t fresh (event e ∷ ks) = cond (eqb (number_of c t ks e) 0) (k (log_after c k t fresh ks) (table_after c t ks).clock e).log (log_after c k t fresh ks)
log_after c k t fresh (ask q ∷ ks) = log_after c k t fresh ks

-- Every accepted event is kept: after any calls, whatever table and buffer the kernel began with, a buffer with room for the records begins with their log, and behind that it holds what it held.
pub record EveryEventKept (c : Calls) (k : LogCall) : Type 0 where
  -- the records are as many as the clock says
  pub counted : (t : Table) (ks : List Call) → AnyTable t → AnyCalls ks → (table_after c t ks).clock ≡ length (records c t ks)
  pub kept : (t : Table) (fresh : List ℕ) (ks : List Call) → AnyTable t → AnyLog fresh → AnyCalls ks → 512 * blocks_for (length (records c t ks)) ≤ length fresh
      → log_after c k t fresh ks ≡ log_of (records c t ks) ++ drop (length (log_of (records c t ks))) fresh
  -- and the call for an event that is accepted next answers 0 exactly if there is room for that one too, else 13
  pub answered : (t : Table) (fresh : List ℕ) (ks : List Call) (e : Record) → AnyTable t → AnyLog fresh → AnyCalls (event e ∷ ks) → 512 * blocks_for (length (records c t ks)) ≤ length fresh
      → number_of c t ks e ≡ 0 → let a = (k (log_after c k t fresh ks) (table_after c t ks).clock e).number in
      ((a ≡ 0) × (512 * blocks_for (length (records c t (event e ∷ ks))) ≤ length fresh)) ⊎ ((a ≡ 13) × (length fresh < 512 * blocks_for (length (records c t (event e ∷ ks)))))
