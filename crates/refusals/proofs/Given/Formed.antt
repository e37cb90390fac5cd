-- The refusals by the record alone are those of `IllFormed`, and what holds of a record that is none of these. Assumes nothing.
use Prim.Native.Nat.{ℕ, ◌≤◌, ◌<◌}
use mathlib.Core.Path.{◌≡◌}
use mathlib.Core.Logic.Dec
use mathlib.Core.Logic.{◌≢◌, ◌⊎◌, inl, inr, ⊎_elim, ◌↔◌}
use native.Mathlib.Decide.{dec_le}
use native.Mathlib.Omega.{arith}
use Rattle.table.proofs.Tests.Reflect.{tells_lt, tells_le, tells_both, tells_not}
use Rattle.refusals.specs.declared.Record.{Record}
use Rattle.refusals.specs.Refusals.{lowest, by_record}
use Rattle.refusals.specs.Applies.{IllFormed, no_kind, no_thread, no_resource, exit_argument, fourth_byte}
use Rattle.refusals.proofs.Tests.Tells.{retell, tells_malformed}
use Rattle.refusals.proofs.Given.Lowest.{Tested, LowestOf, lowest_cases}
use Rattle.refusals.proofs.Given.Parts.{record_numbered}

module _ (e : Record) where
  -- what each number says

  says_2 : IllFormed e 2 → ¬ ((1 ≤ e.kind) × (e.kind ≤ 5))
  says_2 (no_kind n) = n

  says_3 : IllFormed e 3 → 31 < e.thread
  says_3 (no_thread h) = h

  says_4 : IllFormed e 4 → (((e.kind ≡ 4) ⊎ (e.kind ≡ 5)) × (15 < e.argument)) ⊎ (((e.kind ≡ 2) × (e.argument ≢ 0)) ⊎ (e.zero ≢ 0))
  says_4 (no_resource k h) = inl (k, h)
  says_4 (exit_argument k n) = inr (inl (k, n))
  says_4 (fourth_byte n) = inr (inr n)

  -- no number but 2 to 4 applies
  pub from_2_to_4 : (n : ℕ) → IllFormed e n → (1 < n) × (n ≤ 4)
  from_2_to_4 n (no_kind _) = (omega arith, omega arith)
  from_2_to_4 n (no_thread _) = (omega arith, omega arith)
  from_2_to_4 n (no_resource _ _) = (omega arith, omega arith)
  from_2_to_4 n (exit_argument _ _) = (omega arith, omega arith)
  from_2_to_4 n (fourth_byte _) = (omega arith, omega arith)

  tests : Tested (IllFormed e) (by_record e)
  unfolding by_record
  tests = (
    retell (tells_not (tells_both (tells_le 1 e.kind) (tells_le e.kind 5))) no_kind says_2,
    (
      retell (tells_lt 31 e.thread) no_thread says_3,
      (
        retell (tells_malformed e) (⊎_elim (λ w. no_resource w.0 w.1) (⊎_elim (λ w. exit_argument w.0 w.1) fourth_byte)) says_4,
        tt,
      ),
    ),
  )

  -- the number is 0 and the record is well formed, or the lowest of 2 to 4 that applies
  pub record_cases : LowestOf (IllFormed e) 1 3 (lowest (by_record e))
  unfolding by_record
  record_cases = lowest_cases (IllFormed e) (by_record e) 1 (record_numbered e) tests

  pub well_formed : (lowest (by_record e) ≡ 0) ↔ ((n : ℕ) → ¬ IllFormed e n)
  well_formed = ⊎_elim
      (λ w. ((λ z n i. w.1 n (from_2_to_4 n i).0 (omega (arith, (from_2_to_4 n i).1)) i), λ none. w.0))
      (λ w. ((λ z. absurd (omega (arith, w.0))), λ none. absurd (none (lowest (by_record e)) w.2)))
      record_cases

-- what holds of a record that is well formed
module _ {e : Record} (formed : (n : ℕ) → ¬ IllFormed e n) where
  pub formed_kind : (1 ≤ e.kind) × (e.kind ≤ 5)
  formed_kind = (Dec.not-not (Dec.and (dec_le 1 e.kind) (dec_le e.kind 5))).0 (λ n. formed 2 (no_kind n))

  pub formed_thread : e.thread < 32
  formed_thread = let n : ¬ (31 < e.thread) = (λ h. formed 3 (no_thread h)) in omega arith

  pub formed_resource : (e.kind ≡ 4) ⊎ (e.kind ≡ 5) → e.argument < 16
  formed_resource k = let n : ¬ (15 < e.argument) = (λ h. formed 4 (no_resource k h)) in omega arith
