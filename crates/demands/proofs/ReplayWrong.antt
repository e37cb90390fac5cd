-- What the contract of the call that reads a log back rules out. Assumes nothing.
use Prim.Native.Nat.{ℕ, ◌+◌, ◌%◌}
use mathlib.Core.Path.{◌≡◌, refl, ap, ◌∙◌}
use mathlib.Core.Logic.{◌≢◌}
use mathlib.Core.List.{List, [], ◌∷◌}
use native.Mathlib.Omega.{arith}
use lib.ListN.{length, set, get_or, length-set}
use Rattle.table.specs.declared.Table.{Table}
use Rattle.table.specs.Table.{empty}
use Rattle.event_log.specs.Bytes.{Bytes, Fours}
use Rattle.event_log.specs.Card.{log_of}
use Rattle.event_log.proofs.Numbers.{bytes_set}
use Rattle.event_log.proofs.Groups.{four_bytes}
use Rattle.event_log.proofs.Places.{length_log, bytes_log}
use Rattle.locks.specs.Answers.{answer_of}
use Rattle.locks.proofs.Clock.{counts_up}
use Rattle.locktable.specs.Four.{four_of}
use Rattle.replay.specs.declared.Replayed.{Replayed}
use Rattle.replay.specs.Read.{at_end, Reads, from_start}
use Rattle.replay.specs.Leads.{none, one_more}
use Rattle.replay.proofs.Answers.{gives_one}
use Rattle.replay.proofs.Written.{log_read}
use Rattle.replay.proofs.Damaged.{StopsThere, one_byte_stops}
use Rattle.demands.specs.Kept.{AnyLog}
use Rattle.demands.specs.Replay.{ReplayCall, ReplayStated}
use Rattle.demands.proofs.TheCalls.{the_calls, demand_2_met}
use Rattle.demands.proofs.Wrong.{creates, any, first_accepted}

-- The log of a first Create is read to its end,
abbrev one : List (List ℕ)
one = four_of (creates 0) ∷ []

one_four : Fours one
one_four = let b = any 0 (omega arith) in (four_bytes (creates 0).kind (creates 0).thread (creates 0).argument (creates 0).zero (omega (arith, b.kind)) (omega (arith, b.thread)) (omega (arith, b.argument)) (omega (arith, b.zero)), tt)

size : length (log_of one) ≡ 512
size = length_log one one_four

bytes : Bytes (log_of one)
bytes = bytes_log one one_four

is_accepted : (answer_of empty (creates 0)).answer.number ≡ 0
is_accepted = first_accepted the_calls demand_2_met 0 (omega arith)

is_read : Reads (log_of one) one (answer_of empty (creates 0)).table 0
is_read = log_read one_four (one_more is_accepted none)

-- and with another byte in the place of its check's first it is stopped with 14.
abbrev other_byte : ℕ
other_byte = (get_or (log_of one) 508 0 + 1) % 256

abbrev damaged : List ℕ
damaged = set (log_of one) 508 other_byte

is_stopped : StopsThere (log_of one) 508 other_byte
is_stopped = one_byte_stops 508 other_byte is_read (omega (arith, size)) (λ e. absurd (omega (arith, bytes 508, e)))

-- So these are results that are left: for no bytes,
pub none_read : (p : ReplayCall) → ReplayStated p → p [] ≡ record { table = empty; records = 0; number = 0 }
none_read p is =
    let lent : AnyLog [] = record { bytes = λ i. omega arith; fits = omega arith } in
    gives_one (is [] lent) (record { done = []; reads = from_start (omega arith, omega arith) (at_end (omega arith)); counted = refl })

-- for one record,
one_read : (p : ReplayCall) → ReplayStated p → p (log_of one) ≡ record { table = (answer_of empty (creates 0)).table; records = 1; number = 0 }
one_read p is = gives_one (is (log_of one) (record { bytes = bytes; fits = omega (arith, size) })) (record { done = one; reads = is_read; counted = refl })

-- and for the damaged one.
damaged_read : (p : ReplayCall) → ReplayStated p → (p damaged).number ≡ 14
damaged_read p is =
    let lent : AnyLog damaged = record { bytes = bytes_set (log_of one) 508 other_byte bytes (omega arith); fits = rw length-set (omega (arith, size)) } in
    ap (λ (r : Replayed). r.number) (gives_one (is damaged lent) (record { done = is_stopped.done; reads = is_stopped.stopped; counted = refl }))

-- A reader that never answers 0 does not do what the contract says,
pub not_refusing : (p : ReplayCall) → ((log : List ℕ) → (p log).number ≢ 0) → ¬ ReplayStated p
not_refusing p refuses is = refuses [] (ap (λ (r : Replayed). r.number) (none_read p is))

-- nor one that always gives the empty table,
pub not_blank : (p : ReplayCall) → ((log : List ℕ) → (p log).table ≡ empty) → ¬ ReplayStated p
not_blank p blank is =
    let clock = ap (λ (r : Replayed). r.table.clock) (one_read p is) ∙ counts_up empty (creates 0) is_accepted in
    absurd (omega (arith, clock, ap (λ (t : Table). t.clock) (blank (log_of one))))

-- nor one that doesn't look at a block's check.
pub not_unchecked : (p : ReplayCall) → ((log : List ℕ) (v : ℕ) → (p (set log 508 v)).number ≡ (p log).number) → ¬ ReplayStated p
not_unchecked p unchecked is = absurd (omega (arith, damaged_read p is, unchecked (log_of one) other_byte, ap (λ (r : Replayed). r.number) (one_read p is)))
