-- What the terminal's calls leave on any table: specs/Fixed has the statement. Assumes nothing.
use Rattle.std.specs.Prelude.{Option}
use Prim.Native.Nat.{ℕ, suc, ◌≤◌, ◌<◌}
use mathlib.Core.Path.{◌≡◌, refl, sym, ap, subst, ◌∙◌}
use mathlib.Core.Bool.{Bool, true, false, cond}
use mathlib.Core.Logic.{◌⊎◌, inl, inr, ⊎_elim}
use native.Mathlib.Omega.{arith}
use Rattle.protocol.specs.Sets.{◌∈◌}
use Rattle.protocol.specs.Events.{Thread, Priority}
use Rattle.table.specs.declared.Table.{Table}
use Rattle.table.specs.Table.{slot, live}
use Rattle.table.specs.Slots.{fresh_slot}
use Rattle.table.specs.Sound.{Sound}
use Rattle.table.specs.Code.Shape.{Shape}
use Rattle.table.specs.Compute.{is_sound}
use Rattle.table.proofs.Tests.Reflect.{Tells, tells_le, tells_both}
use Rattle.table.proofs.Tests.Decided.{tells_sound}
use Rattle.table.proofs.Sound.Read.{sound_good, runs}
use Rattle.refusals.specs.Refusals.{refusals, lowest}
use Rattle.refusals.specs.Applies.{no_kind, no_thread, no_resource, exit_argument, fourth_byte, Applies, not_sound, ill_formed, clock_ended, live_already, not_live, not_running, chained, not_held, holding, Given}
use Rattle.refusals.proofs.Tests.Tells.{tells_false}
use Rattle.events.specs.Events.{settled, changed, named, event_of}
use Rattle.events.specs.Count.{count}
use Rattle.events.proofs.Kept.Slots.{slot_there}
use Rattle.locks.specs.declared.Answer.{Answer}
use Rattle.locks.specs.Answers.{accepted, refused, carried_out, answer_of}
use Rattle.terminal.specs.Tasks.{is_spare}
use Rattle.terminal.specs.Spare.{priority_of, addition, spare_answer}
use Rattle.terminal.proofs.Started.{started_is}
use Rattle.terminal.proofs.Spared.{as_create, as_turned_away}
use Rattle.demands.specs.Memory.{AnyTable}
use Rattle.demands.specs.Calls.{Left}
use Rattle.demands.specs.Fixed as step
use Rattle.demands.specs.Fixed.{StepFixed}
use Rattle.demands.proofs.InMemory.{any_shape}
use Rattle.demands.proofs.Numbers.{left_is, number_is}
use Rattle.demands.proofs.Demand1.{left_of}
use Rattle.demands.proofs.TheCalls.{demand_1_met}
use Rattle.shipment.specs.Calls.{Terminal, adds, AnyWanted, AsTold}
use Rattle.shipment.specs.Fixed as fixed
use Rattle.shipment.specs.Fixed.{SpareFixed, Demand1Since}
use Rattle.shipment.proofs.AsCalls.{addition_bytes}

-- the test of an id tells whether it is a spare task's
pub tells_spare : (id : Thread) → Tells (is_spare id) ((16 ≤ id) × (id ≤ 31))
tells_spare id = tells_both (tells_le 16 id) (tells_le id 31)

module _ (t : Table) (id : Thread) (w : Option Priority) where
  -- of Create's own refusals only 5 and 6 can apply to a spare task on a sound table
  only_5_and_6 : Sound t → id ≤ 31 → (n : ℕ) → Applies t (addition id w) n → ((n ≡ 5) × (t.clock ≡ 65535)) ⊎ ((n ≡ 6) × (id ∈ live t))
  only_5_and_6 s h n (not_sound u) = absurd (u s)
  only_5_and_6 s h n (ill_formed (no_kind k)) = absurd (k (omega arith, omega arith))
  only_5_and_6 s h n (ill_formed (no_thread k)) = absurd (omega arith)
  only_5_and_6 s h n (ill_formed (no_resource (inl k) _)) = absurd (omega arith)
  only_5_and_6 s h n (ill_formed (no_resource (inr k) _)) = absurd (omega arith)
  only_5_and_6 s h n (ill_formed (exit_argument k _)) = absurd (omega arith)
  only_5_and_6 s h n (ill_formed (fourth_byte k)) = absurd (k refl)
  only_5_and_6 s h n (clock_ended k) = inl (refl, k)
  only_5_and_6 s h n (live_already k l) = inr (refl, l)
  only_5_and_6 s h n (not_live k _) = absurd (k refl)
  only_5_and_6 s h n (not_running k _ _) = absurd (k refl)
  only_5_and_6 s h n (chained k _) = absurd (omega arith)
  only_5_and_6 s h n (not_held k _) = absurd (omega arith)
  only_5_and_6 s h n (holding _ k _) = absurd (omega arith)

  -- an accepted Create counts 1, and the task is live with its priority, set now
  as_created : Shape t → id ≤ 31 → (answer_of t (addition id w)).answer.number ≡ 0 → ((answer_of t (addition id w)).answer.count ≡ 1) × (slot (answer_of t (addition id w)).table id ≡ fresh_slot (priority_of w) t.clock)
  unfolding answer_of carried_out event_of named accepted count settled changed
  as_created shape h z = let q : lowest (refusals t (addition id w)) ≡ 0 = sym (number_is t (addition id w)) ∙ z in rw q (refl, slot_there t id (fresh_slot (priority_of w) t.clock) shape (omega arith))

  -- what the step leaves of a spare task's Create
  by_step : {l : Left Answer} → (16 ≤ id) × (id ≤ 31) → StepFixed t (addition id w) l → (l.answer.number ≡ 0 → (l.answer.count ≡ 1) × (slot l.table id ≡ fresh_slot (priority_of w) t.clock)) → SpareFixed t id w l
  by_step h (step.StepFixed.not_sound n) one = fixed.SpareFixed.not_sound n
  by_step h (step.StepFixed.refused {n = n} {r = r} s given names) one = go given
    where
      number : (m : ℕ) → suc n ≡ m → SpareFixed t id w (record { answer = record { number = m; running = r; count = 0 }; table = t }) → SpareFixed t id w (record { answer = record { number = suc n; running = r; count = 0 }; table = t })
      number m q = subst (λ (x : ℕ). SpareFixed t id w (record { answer = record { number = x; running = r; count = 0 }; table = t })) (sym q)

      of_two : ((m : ℕ) → m < suc n → ¬ Applies t (addition id w) m) → ((suc n ≡ 5) × (t.clock ≡ 65535)) ⊎ ((suc n ≡ 6) × (id ∈ live t)) → SpareFixed t id w (record { answer = record { number = suc n; running = r; count = 0 }; table = t })
      of_two lower (inl k) = number 5 k.0 (fixed.SpareFixed.clock_ended s h k.1 names)
      of_two lower (inr k) = number 6 k.0 (fixed.SpareFixed.live_already s h (λ q. lower 5 (omega (arith, k.0)) (clock_ended q)) k.1 names)

      go : Given t (addition id w) (suc n) → SpareFixed t id w (record { answer = record { number = suc n; running = r; count = 0 }; table = t })
      go (inl k) = absurd (omega (arith, k.0))
      go (inr k) = of_two k.1 (only_5_and_6 s h.1 (suc n) k.0)
  by_step h (step.StepFixed.accepted {u = u} {r = r} {k = k} s given sound memory names few) one =
      subst (λ (x : ℕ). SpareFixed t id w (record { answer = record { number = 0; running = r; count = x }; table = u })) (sym (one refl).0)
      (fixed.SpareFixed.added s h (λ q. none 5 (clock_ended q)) (λ l. none 6 (live_already refl l)) (one refl).1 sound memory names)
    where
      none : (m : ℕ) → ¬ Applies t (addition id w) m
      none = go given
        where
          go : Given t (addition id w) 0 → (m : ℕ) → ¬ Applies t (addition id w) m
          go (inl k) m a = k.1 m a
          go (inr k) m a = ⊎_elim (λ q. omega (arith, q.0)) (λ q. omega (arith, q.0)) (only_5_and_6 s h.1 0 k.0)

  -- with another id
  by_test : Shape t → ¬ ((16 ≤ id) × (id ≤ 31)) → SpareFixed t id w (left_of (refused t (cond (is_sound t) 17 1)))
  unfolding refused
  by_test shape n = go (is_sound t) refl
    where
      go : (b : Bool) → is_sound t ≡ b → SpareFixed t id w (left_of (refused t (cond (is_sound t) 17 1)))
      go true e = let s = (tells_sound t shape).0 e in rw e (fixed.SpareFixed.not_spare s n (runs t (sound_good t shape s)))
      go false e = rw e (fixed.SpareFixed.not_sound (tells_false (tells_sound t shape) e))

  pub spare_answers : AnyTable t → id ≤ 255 → AnyWanted w → SpareFixed t id w (left_of (spare_answer t id w))
  spare_answers a h p = go (is_spare id) refl
    where
      go : (b : Bool) → is_spare id ≡ b → SpareFixed t id w (left_of (spare_answer t id w))
      go true s = rw (as_create t id w s) (by_step ((tells_spare id).0 s) (demand_1_met.step t (addition id w) a (addition_bytes id w h p)) (as_created (any_shape a) ((tells_spare id).0 s).1))
      go false s = rw (as_turned_away t id w s) (by_test (any_shape a) (tells_false (tells_spare id) s))

-- functions that do what the contracts say meet it
pub demand_1_since : (k : Terminal) → AsTold k → Demand1Since k
demand_1_since k told = record {
  start = λ t a. left_is (k.start t) (told.start t a) ∙ ap left_of started_is;
  spare = λ t id w a h p. subst (SpareFixed t id w) (sym (left_is (adds k t id w) (told.spare t id w a h p))) (spare_answers t id w a h p);
}
