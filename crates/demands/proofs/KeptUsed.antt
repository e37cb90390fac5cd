-- How much `EveryEventKept` says: where there is room it leaves one buffer, and a log's call that writes nothing does not meet it. Assumes nothing.
use Prim.Native.Nat.{ℕ, ◌*◌, ◌≤◌}
use mathlib.Core.Path.{◌≡◌, refl, sym, ap, ◌∙◌}
use mathlib.Core.List.{List, [], ◌∷◌, ◌++◌}
use native.Mathlib.Omega.{arith}
use borrow.Author.Tests.{eq-eqb}
use lib.ListN.{length, get_or, drop}
use Rattle.table.specs.declared.Table.{Table}
use Rattle.table.specs.Table.{empty}
use Rattle.refusals.specs.declared.Record.{Record}
use Rattle.event_log.specs.Bytes.{low_first, join}
use Rattle.event_log.specs.Block.{front, block}
use Rattle.event_log.specs.Card.{blocks_for, blocks, log_of}
use Rattle.locktable.specs.Four.{four_of}
use Rattle.demands.specs.Memory.{AnyTable}
use Rattle.demands.specs.Calls.{Calls}
use Rattle.demands.specs.Runs.{Call, event, AnyCalls, number_of}
use Rattle.demands.specs.Demand2.{Demand2}
use Rattle.demands.specs.Kept.{AnyLog, LogCall, records, log_after, EveryEventKept}
use Rattle.demands.proofs.LogCall.{noise, noise_any}
use Rattle.demands.proofs.Wrong.{creates, memory, any, first_accepted}

-- Whatever keeps every event leaves the same buffer.
pub one_log : (c : Calls) (k k' : LogCall) → EveryEventKept c k → EveryEventKept c k' → (t : Table) (fresh : List ℕ) (ks : List Call) → AnyTable t → AnyLog fresh → AnyCalls ks
    → 512 * blocks_for (length (records c t ks)) ≤ length fresh → log_after c k t fresh ks ≡ log_after c k' t fresh ks
one_log c k k' w w' t fresh ks held holds calls room = w.kept t fresh ks held holds calls room ∙ sym (w'.kept t fresh ks held holds calls room)

-- the log of one record says so at its fifth byte
one_counted : (r rest : List ℕ) → get_or (log_of (r ∷ []) ++ rest) 4 0 ≡ 1
unfolding low_first join front block blocks log_of
one_counted r rest = refl

-- Functions that meet demand 2 accept a first Create, and 512 bytes have room for it: a call that leaves them as they were does not keep it.
pub not_kept : (c : Calls) (k : LogCall) → Demand2 c → ((log : List ℕ) (n : ℕ) (e : Record) → (k log n e).log ≡ log) → ¬ EveryEventKept c k
not_kept c k d idle w =
    let e = creates 0 in
    let z = first_accepted c d 0 (omega arith) in
    let kept = w.kept empty noise (event e ∷ []) memory noise_any (any 0 (omega arith), tt) (rw (eq-eqb (number_of c empty [] e) 0 z) (omega arith)) in
    let one = rw (eq-eqb (number_of c empty [] e) 0 z) at kept in
    let byte = ap (λ (l : List ℕ). get_or l 4 0) (sym (idle noise _ e) ∙ one) in
    absurd (omega (arith, byte, one_counted (four_of e) (drop (length (log_of (four_of e ∷ []))) noise)))
