-- Demand 1: specs/Demand1 has the statement. Assumes nothing.
use Prim.Native.Nat.{ℕ, zero, suc, ◌≤◌, ◌<◌}
use mathlib.Core.Path.{◌≡◌, refl, sym, subst}
use mathlib.Core.Bool.{Bool, true, false}
use native.Mathlib.Decide.{ℕ_discrete, dec_lt}
use native.Mathlib.Omega.{arith}
use Rattle.protocol.specs.Sets.{◌∈◌}
use Rattle.protocol.specs.Events.{Thread, Resource}
use Rattle.table.specs.declared.Table.{Table}
use Rattle.table.specs.Table.{at, live}
use Rattle.table.specs.Sound.{Sound}
use Rattle.table.specs.Code.Shape.{Shape}
use Rattle.table.specs.Compute.{is_sound, runner}
use Rattle.table.proofs.Tests.Decided.{tells_sound}
use Rattle.table.proofs.Sound.Read.{sound_good, runs}
use Rattle.refusals.specs.declared.Record.{Record}
use Rattle.refusals.specs.Refusals.{refusals, lowest}
use Rattle.refusals.specs.Applies.{Given}
use Rattle.refusals.proofs.Tests.Tells.{tells_false}
use Rattle.refusals.proofs.Given.Exactly.{exactly}
use Rattle.events.specs.Events.{settled, changed}
use Rattle.events.proofs.Accepted.Permitted.{early, permitted}
use Rattle.events.proofs.Kept.Stays.{Right, stays_right}
use Rattle.events.proofs.Walk.Sixteen.{counted_sixteen}
use Rattle.queries.specs.Queries.{running_answer, thread_told, thread_answer, resource_told, resource_answer}
use Rattle.locks.specs.declared.Answer.{Answer}
use Rattle.locks.specs.declared.Done.{Done}
use Rattle.locks.specs.Answers.{accepted, answer_of}
use Rattle.locks.proofs.Answered.{not_sound, turned_down, let_through}
use Rattle.demands.specs.Calls.{Left, Calls}
use Rattle.demands.specs.Fixed as fixed
use Rattle.demands.specs.Fixed.{StepFixed, RunningFixed, ThreadFixed, ResourceFixed}
use Rattle.demands.specs.Demand1.{Demand1}
use Rattle.demands.specs.Stated.{AsStated}
use Rattle.demands.proofs.InMemory.{right_any, any_shape}
use Rattle.demands.proofs.Numbers.{left_is}
use Rattle.demands.proofs.Queries.{running_is, thread_is, thread_dead, thread_absent, resource_is, resource_absent, running_unsound, thread_unsound, resource_unsound}

-- what the step by value gives, as what a call leaves
abbrev pub left_of : Done → Left Answer
left_of d = record { answer = d.answer; table = d.table }

module _ (t : Table) (s : Shape t) where
  -- what holds of a table that isn't sound and of one that is holds of any
  by_soundness : (A : Type 0) → (is_sound t ≡ false → ¬ Sound t → A) → (Right t → A) → A
  by_soundness A unsound sound = go (is_sound t) refl
    where
      go : (b : Bool) → is_sound t ≡ b → A
      go true e = sound (s, (tells_sound t s).0 e)
      go false e = unsound e (tells_false (tells_sound t s) e)

  -- the step: on a sound table the event is carried out or turned down
  step_answers : (e : Record) → e.argument ≤ 255 → StepFixed t e (left_of (answer_of t e))
  unfolding accepted
  step_answers e small = by_soundness (StepFixed t e (left_of (answer_of t e))) (λ f n. rw (not_sound t e f) (fixed.StepFixed.not_sound n)) (λ r. go r (lowest (refusals t e)) refl (exactly t e s))
    where
      go : (r : Right t) (n : ℕ) → lowest (refusals t e) ≡ n → Given t e (lowest (refusals t e)) → StepFixed t e (left_of (answer_of t e))
      go r zero z given =
          let p = permitted t e s z small in
          let right = stays_right t r (early t e s z) p.2 in
          let after = settled (changed t p.0) in
          subst (λ (d : Done). StepFixed t e (left_of d)) (sym (let_through t e z p.1))
          (fixed.StepFixed.accepted r.1 (subst (Given t e) z given) right.1 (right_any after right) (runs after (sound_good after right.0 right.1)) (counted_sixteen t (sound_good t s r.1) (early t e s z) p.2))
      go r (suc n) z given =
          subst (λ (d : Done). StepFixed t e (left_of d)) (sym (turned_down t e (suc n) (runner t) s r.1 (sym z) (λ k. absurd (omega arith)) refl))
          (fixed.StepFixed.refused r.1 (subst (Given t e) z given) (runs t (sound_good t s r.1)))

  running_answers : RunningFixed t (record { answer = running_answer t; table = t })
  running_answers = by_soundness (RunningFixed t (record { answer = running_answer t; table = t }))
      (λ f n. rw (running_unsound t f) (fixed.RunningFixed.not_sound n))
      (λ r. rw (running_is t r) (fixed.RunningFixed.told r.1 (runs t (sound_good t s r.1))))

  thread_answers : (th : Thread) → ThreadFixed t th (record { answer = thread_answer t th; table = t })
  unfolding thread_told
  thread_answers th = by_soundness (ThreadFixed t th (record { answer = thread_answer t th; table = t })) (λ f n. rw (thread_unsound t th f) (fixed.ThreadFixed.not_sound n)) (λ r. go r (dec_lt th 32) (ℕ_discrete (at t.live th) 1))
    where
      go : Right t → Dec (th < 32) → Dec (th ∈ live t) → ThreadFixed t th (record { answer = thread_answer t th; table = t })
      go r (no n) l = rw (thread_absent t r th (omega arith)) (fixed.ThreadFixed.no_thread r.1 (omega arith))
      go r (yes h) (no n) = rw (thread_dead t r th h n) (fixed.ThreadFixed.not_live r.1 h n)
      go r (yes h) (yes l) = rw (thread_is t r th l) (fixed.ThreadFixed.told r.1 l refl)

  resource_answers : (cs : Resource) → ResourceFixed t cs (record { answer = resource_answer t cs; table = t })
  unfolding resource_told
  resource_answers cs = by_soundness (ResourceFixed t cs (record { answer = resource_answer t cs; table = t })) (λ f n. rw (resource_unsound t cs f) (fixed.ResourceFixed.not_sound n)) (λ r. go r (dec_lt cs 16))
    where
      go : Right t → Dec (cs < 16) → ResourceFixed t cs (record { answer = resource_answer t cs; table = t })
      go r (no n) = rw (resource_absent t r cs (omega arith)) (fixed.ResourceFixed.no_resource r.1 (omega arith))
      go r (yes h) = rw (resource_is t r cs h) (fixed.ResourceFixed.told r.1 h refl)

-- functions that do what the contracts say meet it
pub demand_1 : (c : Calls) → AsStated c → Demand1 c
demand_1 c is = record {
  empty = is.empty;
  step = λ t e a b. subst (StepFixed t e) (sym (left_is (c.step t e) (is.step t e a b))) (step_answers t (any_shape a) e b.argument);
  running = λ t a. subst (RunningFixed t) (sym (left_is (c.running t) (is.running t a))) (running_answers t (any_shape a));
  thread = λ t th a h. subst (ThreadFixed t th) (sym (left_is (c.thread t th) (is.thread t th a h))) (thread_answers t (any_shape a) th);
  resource = λ t cs a h. subst (ResourceFixed t cs) (sym (left_is (c.resource t cs) (is.resource t cs a h))) (resource_answers t (any_shape a) cs);
}
