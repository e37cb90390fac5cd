-- How much `ReadBack` says: where a buffer has just room for what was accepted, one result is left, and a reader that applies nothing does not meet it. Assumes nothing.
use Prim.Native.Nat.{ℕ, ◌*◌, ◌≤◌}
use mathlib.Core.Path.{◌≡◌, sym, ap, ◌∙◌}
use mathlib.Core.List.{List, [], ◌∷◌}
use native.Mathlib.Omega.{arith}
use borrow.Author.Tests.{eq-eqb}
use lib.ListN.{length, take}
use Rattle.table.specs.declared.Table.{Table}
use Rattle.table.specs.Table.{empty}
use Rattle.event_log.specs.Card.{blocks_for}
use Rattle.replay.specs.declared.Replayed.{Replayed}
use Rattle.demands.specs.Memory.{AnyTable}
use Rattle.demands.specs.Calls.{Calls}
use Rattle.demands.specs.Runs.{Call, event, AnyCalls, number_of}
use Rattle.demands.specs.Demand2.{Demand2}
use Rattle.demands.specs.Kept.{AnyLog, LogCall, records, log_after}
use Rattle.demands.specs.Replay.{ReplayCall, ReadBack}
use Rattle.demands.proofs.LogCall.{noise, noise_any}
use Rattle.demands.proofs.Wrong.{creates, memory, any, first_accepted}

-- Whatever reads back what was kept gives the same.
pub one_back : (c : Calls) (k : LogCall) (p p' : ReplayCall) → ReadBack c k p → ReadBack c k p' → (t : Table) (fresh : List ℕ) (ks : List Call) → AnyTable t → AnyLog fresh → AnyCalls ks
    → 512 * blocks_for (length (records c t ks)) ≤ length fresh → let log = take (512 * blocks_for (length (records c t ks))) (log_after c k t fresh ks) in p log ≡ p' log
one_back c k p p' w w' t fresh ks held holds calls room = w.written t fresh ks held holds calls room ∙ sym (w'.written t fresh ks held holds calls room)

-- Functions that meet demand 2 accept a first Create, and 512 bytes have just room for it: a reader that says that nothing was applied does not read it back.
pub not_read : (c : Calls) (k : LogCall) (p : ReplayCall) → Demand2 c → ((log : List ℕ) → (p log).records ≡ 0) → ¬ ReadBack c k p
not_read c k p d idle w =
    let e = creates 0 in
    let one = eq-eqb (number_of c empty [] e) 0 (first_accepted c d 0 (omega arith)) in
    let back = w.written empty noise (event e ∷ []) memory noise_any (any 0 (omega arith), tt) (rw one (omega arith)) in
    let none : 0 ≡ length (records c empty (event e ∷ [])) = sym (idle _) ∙ ap (λ (r : Replayed). r.records) back in
    absurd (omega (arith, rw one at none))
