-- The log's call by itself: one result for each input, demand 1, and what its contract rules out. Assumes nothing.
use Prim.Native.Nat.{ℕ, ◌<◌}
use mathlib.Core.Path.{◌≡◌, refl, sym, ap, ◌∙◌}
use mathlib.Core.Logic.{◌≢◌, inl, inr, by_cases}
use mathlib.Core.List.{List, [], ◌∷◌, ◌++◌}
use native.Mathlib.Decide.{dec_lt}
use native.Mathlib.Omega.{arith}
use lib.ListN.{length, get_or, replicate, get_or-replicate, get_or-eq_default}
use Rattle.refusals.specs.declared.Record.{Record}
use Rattle.event_log.specs.Bytes.{Bytes}
use Rattle.event_log.specs.Card.{log_of}
use Rattle.event_log.specs.Keep.{Keeps, ended, short, other, kept}
use Rattle.event_log.proofs.Answers.{keeps_one}
use Rattle.event_log.proofs.Always.{always}
use Rattle.event_log.proofs.Examples.{one_record, first_kept}
use Rattle.locktable.specs.Four.{four_of}
use Rattle.demands.specs.Memory.{AnyRecord}
use Rattle.demands.specs.Kept.{AnyLog, Wrote, LogCall, LogSays, LogStated, LogFixed}

-- No two results satisfy the contract of the log's call for one input,
pub log_one : (log : List ℕ) (n : ℕ) (e : Record) (a b : Wrote) → LogSays log n e a → LogSays log n e b → a ≡ b
log_one log n e a b p q = let one = keeps_one p q in λ i. record { number = one.0 i; log = one.1 i }

-- and one does, for every input.
abbrev pub the_log : LogCall
the_log log n e = let a = always log n (four_of e) in record { number = a.number; log = a.left }

pub log_stated : LogStated the_log
log_stated log n e holds low any = (always log n (four_of e)).keeps

-- Demand 1 of this call
pub log_demand_1 : (k : LogCall) → LogStated k → (log : List ℕ) (n : ℕ) (e : Record) → AnyLog log → n < 4294967296 → AnyRecord e → LogFixed log (k log n e)
log_demand_1 k is log n e holds low any = go (is log n e holds low any)
  where
    go : {a : ℕ} {l : List ℕ} → Keeps log n (four_of e) a l → LogFixed log (record { number = a; log = l })
    go (ended _) = inr (inl refl, refl)
    go (short _ _) = inr (inr (inl refl), refl)
    go (other _ _ _) = inr (inr (inr refl), refl)
    go (kept _ _ _) = inl refl

-- A buffer for the longest log is one that can be lent.
pub longest_lent : (log : List ℕ) → Bytes log → length log ≡ 268800 → AnyLog log
longest_lent log bytes size = record { bytes = bytes; fits = omega arith }

-- What the contract rules out, at 512 bytes of 255 and document 01's first event: there one result is left.
abbrev pub noise : List ℕ
noise = replicate 512 255

abbrev first : Record
first = record { kind = 1; thread = 1; argument = 10; zero = 0 }

noise_bytes : Bytes noise
noise_bytes i = by_cases (dec_lt i 512) (λ h. rw (get_or-replicate {A = ℕ} 512 i 255 0 h) (omega arith)) (λ n. rw (get_or-eq_default noise 0 {n = i} (omega arith)) (omega arith))

pub noise_any : AnyLog noise
noise_any = record { bytes = noise_bytes; fits = omega arith }

the_one : (k : LogCall) → LogStated k → k noise 0 first ≡ record { number = 0; log = log_of (four_of first ∷ []) }
the_one k is = log_one noise 0 first (k noise 0 first) _ (is noise 0 first noise_any (omega arith) (record { kind = omega arith; thread = omega arith; argument = omega arith; zero = omega arith })) first_kept

-- its log, byte for byte
byte : (i : ℕ) {xs : List ℕ} → xs ≡ log_of (four_of first ∷ []) → get_or xs i 0 ≡ get_or ((0 ∷ 0 ∷ 0 ∷ 0 ∷ 1 ∷ 0 ∷ 0 ∷ 0 ∷ 1 ∷ 1 ∷ 10 ∷ 0 ∷ []) ++ (replicate 496 0 ++ (134 ∷ 0 ∷ 0 ∷ 0 ∷ []))) i 0
byte i e = ap (λ (l : List ℕ). get_or l i 0) (e ∙ one_record)

-- A writer that never answers 0 does not do what the contract says,
pub not_refusing : (k : LogCall) → ((log : List ℕ) (n : ℕ) (e : Record) → (k log n e).number ≢ 0) → ¬ LogStated k
not_refusing k refuses is = refuses noise 0 first (ap (λ (w : Wrote). w.number) (the_one k is))

-- nor one that leaves the buffer as it was,
pub not_idle : (k : LogCall) → ((log : List ℕ) (n : ℕ) (e : Record) → (k log n e).log ≡ log) → ¬ LogStated k
not_idle k idle is = let same : noise ≡ log_of (four_of first ∷ []) = sym (idle noise 0 first) ∙ ap (λ (w : Wrote). w.log) (the_one k is) in
    absurd (omega (arith, byte 0 same))

-- nor one whose blocks have no check.
pub not_unchecked : (k : LogCall) → ((log : List ℕ) (n : ℕ) (e : Record) → get_or (k log n e).log 508 0 ≡ 0) → ¬ LogStated k
not_unchecked k unchecked is = absurd (omega (arith, unchecked noise 0 first, byte 508 (ap (λ (w : Wrote). w.log) (the_one k is))))
