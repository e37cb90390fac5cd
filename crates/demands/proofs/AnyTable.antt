-- On any table at all, reached or not, demand 1 decides each number, each refusal and the whole answer of the running query; a sound table stays sound, and who runs is named. Assumes nothing.
use Prim.Native.Nat.{ℕ, ◌≤◌}
use mathlib.Core.Path.{◌≡◌, refl}
use mathlib.Core.Logic.{◌≢◌, ◌⊎◌, inl, inr, ⊎_elim}
use mathlib.Core.List.{List, [], ◌∷◌}
use native.Mathlib.Omega.{arith}
use Rattle.protocol.specs.Sets.{◌∈◌, set, Names}
use Rattle.table.specs.declared.Table.{Table}
use Rattle.table.specs.Table.{running}
use Rattle.table.specs.Sound.{Sound}
use Rattle.refusals.specs.declared.Record.{Record}
use Rattle.refusals.specs.Refusals.{lowest, by_record}
use Rattle.refusals.specs.Applies.{IllFormed}
use Rattle.refusals.proofs.Given.Formed.{record_cases, well_formed}
use Rattle.locks.specs.declared.Answer.{Answer}
use Rattle.demands.specs.Memory.{AnyTable, AnyRecord}
use Rattle.demands.specs.Calls.{Left, Calls}
use Rattle.demands.specs.Runs.{WellFormed}
use Rattle.demands.specs.Fixed as fixed
use Rattle.demands.specs.Fixed.{StepFixed}
use Rattle.demands.specs.Demand1.{Demand1}
use Rattle.demands.proofs.TheCalls.{the_calls}
use Rattle.demands.proofs.OneNumber.{One, step_as, running_as}

module _ (c : Calls) (d : Demand1 c) where
  -- a record gets the number that the contracts say, and where that is a refusal all is left as they say
  pub same_step : (t : Table) (e : Record) → AnyTable t → AnyRecord e → One (λ x. x.number) (c.step t e) (the_calls.step t e)
  same_step t e a b = step_as a e (c.step t e) (d.step t e a b)

  -- who runs is answered as they say
  pub same_running : (t : Table) → AnyTable t → c.running t ≡ the_calls.running t
  same_running t a = running_as a (c.running t) (d.running t a)

  -- on a sound table, whatever the record, the answer names the running thread of the table that is left, and that table is sound
  still_sound : {t : Table} {e : Record} {l : Left Answer} → Sound t → AnyTable t → StepFixed t e l → Names 32 (running l.table) l.answer.running × Sound l.table × AnyTable l.table
  still_sound s a (fixed.StepFixed.not_sound n) = absurd (n s)
  still_sound s a (fixed.StepFixed.refused s' g r) = (r, s, a)
  still_sound s a (fixed.StepFixed.accepted s' g u m r k) = (r, u, m)

  pub names_runner : (t : Table) (e : Record) → AnyTable t → AnyRecord e → Sound t → Names 32 (running (c.step t e).table) (c.step t e).answer.running
  names_runner t e a b s = (still_sound s a (d.step t e a b)).0

  -- the table after the records, the newest first
  abbrev after_all : List Record → Table → Table
  after_all [] t = t
  after_all (e ∷ es) t = (c.step (after_all es t) e).table

  -- a sound table, reached or not, stays sound however many records follow each other
  pub sound_ever_after : (es : List Record) → ((e : Record) → e ∈ set es → AnyRecord e) → (t : Table) → AnyTable t → Sound t → Sound (after_all es t) × AnyTable (after_all es t)
  sound_ever_after [] bytes t a s = (s, a)
  sound_ever_after (e ∷ es) bytes t a s = let w = sound_ever_after es (λ x i. bytes x (inr i)) t a s in let k = still_sound w.0 w.1 (d.step (after_all es t) e w.1 (bytes e (inl refl))) in (k.1, k.2)

-- no count is above 16
pub counts_to_16 : {t : Table} {e : Record} {l : Left Answer} → StepFixed t e l → l.answer.count ≤ 16
counts_to_16 (fixed.StepFixed.not_sound n) = omega arith
counts_to_16 (fixed.StepFixed.refused s g r) = omega arith
counts_to_16 (fixed.StepFixed.accepted s g u m r k) = k

-- a refusal counts 0
pub refusal_counts_0 : {t : Table} {e : Record} {l : Left Answer} → StepFixed t e l → l.answer.number ≢ 0 → l.answer.count ≡ 0
refusal_counts_0 (fixed.StepFixed.not_sound n) k = refl
refusal_counts_0 (fixed.StepFixed.refused s g r) k = refl
refusal_counts_0 (fixed.StepFixed.accepted s g u m r k) n = absurd (n refl)

-- every record is well-formed, or 2, 3 or 4 catches it
pub formed_or_caught : (e : Record) → WellFormed e ⊎ ((n : ℕ) × IllFormed e n)
formed_or_caught e = ⊎_elim (λ w. inl ((well_formed e).0 w.0)) (λ w. inr (lowest (by_record e), w.2)) (record_cases e)
