-- Every accepted event is kept in the log. Assumes nothing.
use Prim.Native.Nat.{ℕ, ◌+◌, ◌*◌, ◌≤◌, ◌<◌}
use mathlib.Core.Path.{◌≡◌, refl, sym, ap, subst, ◌∙◌}
use mathlib.Core.Bool.{Bool, true, false, cond}
use mathlib.Core.Logic.{◌≢◌, ◌⊎◌, inl, inr, ⊎_elim, by_cases}
use mathlib.Core.List.{List, [], ◌∷◌, ◌++◌}
use native.Mathlib.Decide.{ℕ_discrete}
use native.Mathlib.Omega.{arith}
use borrow.Author.Tests.{eq-eqb, ne_eqb}
use lib.Dec.{eqb}
use lib.ListN.{length, drop, length-append}
use Rattle.protocol.specs.Events.{State}
use Rattle.table.specs.declared.Table.{Table}
use Rattle.refusals.specs.declared.Record.{Record}
use Rattle.event_log.specs.Bytes.{Fours}
use Rattle.event_log.specs.Card.{blocks_for, log_of}
use Rattle.event_log.specs.Keep.{Keeps}
use Rattle.event_log.proofs.Numbers.{bytes_append, bytes_drop}
use Rattle.event_log.proofs.Groups.{four_bytes, fours_append}
use Rattle.event_log.proofs.Places.{bytes_log}
use Rattle.event_log.proofs.Written.{only_short}
use Rattle.event_log.proofs.Fresh.{KeptAll, none, more, kept_all, all_same_size}
use Rattle.locktable.specs.Four.{four_of}
use Rattle.demands.specs.Memory.{AnyTable}
use Rattle.demands.specs.Calls.{Calls}
use Rattle.demands.specs.Runs.{Call, event, ask, AnyCalls, table_after, number_of, History, none_yet, accepted, refused, asked}
use Rattle.demands.specs.Demand2.{Demand2}
use Rattle.demands.specs.Kept.{AnyLog, Wrote, LogCall, LogStated, records, log_after, EveryEventKept}
use Rattle.demands.proofs.TheCalls.{the_calls, demand_2_met}
use Rattle.demands.proofs.LogCall.{the_log, log_stated}

-- the records with an event that is accepted, and with one that is refused
pub more_records : (c : Calls) (t : Table) (ks : List Call) (e : Record) → number_of c t ks e ≡ 0 → records c t (event e ∷ ks) ≡ records c t ks ++ (four_of e ∷ [])
more_records c t ks e z = rw (eq-eqb (number_of c t ks e) 0 z) refl

pub same_records : (c : Calls) (t : Table) (ks : List Call) (e : Record) → number_of c t ks e ≢ 0 → records c t (event e ∷ ks) ≡ records c t ks
same_records c t ks e n = rw (ne_eqb (number_of c t ks e) 0 n) refl

-- they are as many as the accepted events of the paper
many : {c : Calls} {t : Table} {ks : List Call} {s : State} → History c t ks s → length (records c t ks) ≡ length s
many none_yet = refl
many {c} {t} (accepted {ks} {e = e} h z w) = ap length (more_records c t ks e z) ∙ (length-append (records c t ks) (four_of e ∷ []) ∙ omega (arith, many h))
many {c} {t} (refused {ks} {e = e} h n) = ap length (same_records c t ks e n) ∙ many h
many (asked h) = many h

-- and of four bytes each
pub fours : (c : Calls) (t : Table) (ks : List Call) → AnyCalls ks → Fours (records c t ks)
fours c t [] any = tt
fours c t (event e ∷ ks) any = go (eqb (number_of c t ks e) 0) (fours c t ks any.1)
  where
    go : (b : Bool) → Fours (records c t ks) → Fours (cond b (records c t ks ++ (four_of e ∷ [])) (records c t ks))
    go true f = fours_append (records c t ks) (four_of e ∷ []) f (four_bytes e.kind e.thread e.argument e.zero (omega (arith, any.0.kind)) (omega (arith, any.0.thread)) (omega (arith, any.0.argument)) (omega (arith, any.0.zero)), tt)
    go false f = f
fours c t (ask q ∷ ks) any = fours c t ks any.1

module _ (c : Calls) (k : LogCall) (d₂ : Demand2 c) (is : LogStated k) where
  counted : (t : Table) (ks : List Call) → AnyTable t → AnyCalls ks → (table_after c t ks).clock ≡ length (records c t ks)
  counted t ks held any = let w = (d₂ t held ks any).1 in w.shows.clock_is ∙ sym (many w.history)

  module _ (t : Table) (fresh : List ℕ) (held : AnyTable t) (holds : AnyLog fresh) where
    -- an event is accepted while there are fewer than 65,535
    early : (ks : List Call) (e : Record) → AnyCalls (event e ∷ ks) → number_of c t ks e ≡ 0 → length (records c t ks) < 65535
    early ks e any z =
        let now = counted t (event e ∷ ks) held any in
        let more = ap length (more_records c t ks e z) ∙ length-append (records c t ks) (four_of e ∷ []) in
        omega (arith, now, more, (d₂ t held (event e ∷ ks) any).1.memory.clock)

    -- where the records so far are kept, the call for one more
    module _ (ks : List Call) (e : Record) (any : AnyCalls (event e ∷ ks)) (z : number_of c t ks e ≡ 0) (all : KeptAll fresh (records c t ks) (log_after c k t fresh ks)) where
      abbrev rs : List (List ℕ)
      rs = records c t ks

      abbrev log : List ℕ
      log = log_after c k t fresh ks

      abbrev rest : List ℕ
      rest = drop (length (log_of rs)) fresh

      abbrev wrote : Wrote
      wrote = k log (table_after c t ks).clock e

      so_far : Fours rs
      so_far = fours c t ks any.1

      now : log ≡ log_of rs ++ rest
      now = kept_all so_far all

      keeps : Keeps log (length rs) (four_of e) wrote.number wrote.log
      keeps =
          let clock = counted t ks held any.1 in
          let in_memory : AnyLog log = record {
            bytes = rw now (bytes_append (log_of rs) rest (bytes_log rs so_far) (bytes_drop (length (log_of rs)) fresh holds.bytes));
            fits = rw (all_same_size so_far all) holds.fits;
          } in
          subst (λ (n : ℕ). Keeps log n (four_of e) wrote.number wrote.log) clock (is log (table_after c t ks).clock e in_memory (omega (arith, clock, early ks e any z)) any.0)

      -- it answers 0 exactly if there is room, else 13
      told : ((wrote.number ≡ 0) × (512 * blocks_for (length (records c t (event e ∷ ks))) ≤ length fresh)) ⊎ ((wrote.number ≡ 13) × (length fresh < 512 * blocks_for (length (records c t (event e ∷ ks)))))
      told =
          let size : length (log_of rs ++ rest) ≡ length fresh = ap length (sym now) ∙ all_same_size so_far all in
          let more : length (records c t (event e ∷ ks)) ≡ length rs + 1 = ap length (more_records c t ks e z) ∙ length-append rs (four_of e ∷ []) in
          let low = early ks e any z in
          ⊎_elim (λ w. inl (w.0, omega (arith, w.2))) (⊎_elim (λ w. inr (w.0, omega (arith, w.2))) (λ w. absurd (omega (arith, w.1)))) (only_short rs (four_of e) rest wrote.log wrote.number so_far (rw now at keeps))

    -- so all are kept, if there is room
    all_kept : (ks : List Call) → AnyCalls ks → 512 * blocks_for (length (records c t ks)) ≤ length fresh → KeptAll fresh (records c t ks) (log_after c k t fresh ks)
    all_kept [] any room = none
    all_kept (event e ∷ ks) any room = by_cases (ℕ_discrete (number_of c t ks e) 0)
        (λ z. let more_than = ap length (more_records c t ks e z) ∙ length-append (records c t ks) (four_of e ∷ []) in
        let all = all_kept ks any.1 (omega (arith, more_than)) in
        let kept_too = ⊎_elim (λ w. w.0) (λ w. absurd (omega (arith, w.1))) (told ks e any z all) in
        rw (eq-eqb (number_of c t ks e) 0 z) (more all (rw kept_too at (keeps ks e any z all))))
        (λ n. rw (ne_eqb (number_of c t ks e) 0 n) (all_kept ks any.1 (rw (same_records c t ks e n) at room)))
    all_kept (ask q ∷ ks) any room = all_kept ks any.1 room

-- Functions that meet demand 2, with a log's call that does what its contract says, keep every accepted event.
pub every_event_kept : (c : Calls) (k : LogCall) → Demand2 c → LogStated k → EveryEventKept c k
every_event_kept c k d₂ is = record {
  counted = counted c k d₂ is;
  kept = λ t fresh ks held holds any room. kept_all (fours c t ks any) (all_kept c k d₂ is t fresh held holds ks any room);
  answered = λ t fresh ks e held holds any room z. told c k d₂ is t fresh held holds ks e any z (all_kept c k d₂ is t fresh held holds ks any.1 room);
}

-- So do the functions that the contracts name, with no premise at all.
pub every_event_kept_met : EveryEventKept the_calls the_log
every_event_kept_met = every_event_kept the_calls the_log demand_2_met log_stated
