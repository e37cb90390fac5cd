-- What specs/Fixed says decides for each table and argument the number, and all that a refusal leaves: they are those of the functions that the contracts name. Assumes nothing.
use Prim.Native.Nat.{ℕ, suc, ◌<◌}
use mathlib.Core.Path.{◌≡◌, refl, sym, ap, ◌∙◌}
use mathlib.Core.Bool.{false}
use mathlib.Core.Logic.{◌≢◌}
use native.Mathlib.Omega.{arith}
use borrow.Author.Tests.{not-true}
use Rattle.protocol.specs.Sets.{◌∈◌, Names}
use Rattle.table.specs.declared.Table.{Table}
use Rattle.table.specs.Table.{live, running}
use Rattle.table.specs.Sound.{Sound}
use Rattle.table.specs.Code.Shape.{Shape}
use Rattle.table.specs.Compute.{is_sound, runner}
use Rattle.table.proofs.Tests.Decided.{tells_sound}
use Rattle.table.proofs.Tests.Reflect.{tells_not}
use Rattle.table.proofs.Sound.Read.{sound_good, runs, one_runner}
use Rattle.refusals.specs.declared.Record.{Record}
use Rattle.refusals.specs.Refusals.{refusals, lowest}
use Rattle.refusals.specs.Applies.{Given}
use Rattle.refusals.proofs.Given.Exactly.{exactly, given_one}
use Rattle.queries.specs.declared.RunningAnswer.{RunningAnswer}
use Rattle.queries.specs.declared.ThreadAnswer.{ThreadAnswer}
use Rattle.queries.specs.declared.ResourceAnswer.{ResourceAnswer}
use Rattle.queries.specs.Queries.{thread_told, resource_told}
use Rattle.locks.specs.declared.Answer.{Answer}
use Rattle.locks.proofs.Answered.{not_sound, turned_down}
use Rattle.demands.specs.Memory.{AnyTable}
use Rattle.demands.specs.Calls.{Left}
use Rattle.demands.specs.Fixed as fixed
use Rattle.demands.specs.Fixed.{StepFixed, RunningFixed, ThreadFixed, ResourceFixed}
use Rattle.demands.proofs.InMemory.{any_shape}
use Rattle.demands.proofs.Numbers.{number_is}
use Rattle.demands.proofs.Queries.{running_is, thread_is, thread_dead, thread_absent, resource_is, resource_absent, running_unsound, thread_unsound, resource_unsound}
use Rattle.demands.proofs.Demand1.{left_of}
use Rattle.demands.proofs.TheCalls.{the_calls}

-- two answers have one number, and where that is a refusal the same is left
abbrev pub One : {A : Type 0} → (A → ℕ) → Left A → Left A → Type 0
One number a b = (number a.answer ≡ number b.answer) × (number a.answer ≢ 0 → a ≡ b)

-- so it is where the same is left, and where neither refuses
same : {A : Type 0} (number : A → ℕ) {a b : Left A} → a ≡ b → One number a b
same {A} number e = (ap (λ (l : Left A). number l.answer) e, λ _. e)

neither : {A : Type 0} (number : A → ℕ) {a b : Left A} → number a.answer ≡ 0 → number b.answer ≡ 0 → One number a b
neither number p q = (p ∙ sym q, λ n. absurd (n p))

-- the same answer, and the same table
answered : {A : Type 0} (u : Table) {x y : A} → x ≡ y → ◌≡◌ {A = Left A} (record { answer = x; table = u }) (record { answer = y; table = u })
answered u e = λ i. record { answer = e i; table = u }

module _ {t : Table} (any : AnyTable t) where
  shape : Shape t
  shape = any_shape any

  -- a table that isn't sound is not let through the test
  unsound : ¬ Sound t → is_sound t ≡ false
  unsound n = not-true (is_sound t) ((tells_not (tells_sound t shape)).1 n)

  -- on a sound one the number is the one that is worked out, and so is who runs
  numbered : (e : Record) (n : ℕ) → Given t e n → n ≡ lowest (refusals t e)
  numbered e n g = given_one t e n (lowest (refusals t e)) g (exactly t e shape)

  run_by : Sound t → (r : ℕ) → Names 32 (running t) r → r ≡ runner t
  run_by s r named = let g = sound_good t shape s in one_runner t g r (runner t) named (runs t g)

  pub step_as : (e : Record) (l : Left Answer) → StepFixed t e l → One (λ x. x.number) l (the_calls.step t e)
  step_as e l (fixed.StepFixed.not_sound n) = same (λ x. x.number) (ap left_of (sym (not_sound t e (unsound n))))
  step_as e l (fixed.StepFixed.refused {n = n} {r = r} s g named) = same (λ x. x.number) (ap left_of (sym (turned_down t e (suc n) r shape s (numbered e (suc n) g) (λ z. absurd (omega arith)) (run_by s r named))))
  step_as e l (fixed.StepFixed.accepted s g u m r k) = neither (λ x. x.number) refl (number_is t e ∙ sym (numbered e 0 g))

  -- the running query tells just this: all of it is decided
  pub running_as : (l : Left RunningAnswer) → RunningFixed t l → l ≡ the_calls.running t
  running_as l (fixed.RunningFixed.not_sound n) = answered t (sym (running_unsound t (unsound n)))
  running_as l (fixed.RunningFixed.told {r = r} s named) = answered t (ap (λ (x : ℕ). record { number = 0; running = x }) (run_by s r named) ∙ sym (running_is t (shape, s)))

  pub thread_as : (th : ℕ) (l : Left ThreadAnswer) → ThreadFixed t th l → One (λ x. x.number) l (the_calls.thread t th)
  unfolding thread_told
  thread_as th l (fixed.ThreadFixed.not_sound n) = same (λ x. x.number) (answered t (sym (thread_unsound t th (unsound n))))
  thread_as th l (fixed.ThreadFixed.no_thread s h) = same (λ x. x.number) (answered t (sym (thread_absent t (shape, s) th (omega arith))))
  thread_as th l (fixed.ThreadFixed.not_live s h d) = same (λ x. x.number) (answered t (sym (thread_dead t (shape, s) th (omega arith) d)))
  thread_as th l (fixed.ThreadFixed.told {a = a} s k z) = let zero : a.number ≡ 0 = z in neither (λ x. x.number) zero (ap (λ (a : ThreadAnswer). a.number) (thread_is t (shape, s) th k))

  pub resource_as : (cs : ℕ) (l : Left ResourceAnswer) → ResourceFixed t cs l → One (λ x. x.number) l (the_calls.resource t cs)
  unfolding resource_told
  resource_as cs l (fixed.ResourceFixed.not_sound n) = same (λ x. x.number) (answered t (sym (resource_unsound t cs (unsound n))))
  resource_as cs l (fixed.ResourceFixed.no_resource s h) = same (λ x. x.number) (answered t (sym (resource_absent t (shape, s) cs (omega arith))))
  resource_as cs l (fixed.ResourceFixed.told {a = a} s k z) = let zero : a.number ≡ 0 = z in neither (λ x. x.number) zero (ap (λ (a : ResourceAnswer). a.number) (resource_is t (shape, s) cs (omega arith)))

-- So no two have two numbers, or two refusals.
pub one_number : {A : Type 0} (number : A → ℕ) {a b l : Left A} → One number a l → One number b l → One number a b
one_number number p q = (p.0 ∙ sym q.0, λ n. p.1 n ∙ sym (q.1 (λ z. n (p.0 ∙ sym q.0 ∙ z))))

-- A query leaves the table, and one that tells is about a live thread, or one of the resources.
pub running_keeps : {t : Table} {l : Left RunningAnswer} → RunningFixed t l → l.table ≡ t
running_keeps (fixed.RunningFixed.not_sound n) = refl
running_keeps (fixed.RunningFixed.told s r) = refl

pub thread_tells : {t : Table} {th : ℕ} {l : Left ThreadAnswer} → ThreadFixed t th l → (l.table ≡ t) × (l.answer.number ≡ 0 → th ∈ live t)
thread_tells (fixed.ThreadFixed.not_sound n) = (refl, λ z. absurd (omega (arith, z)))
thread_tells (fixed.ThreadFixed.no_thread s h) = (refl, λ z. absurd (omega (arith, z)))
thread_tells (fixed.ThreadFixed.not_live s h d) = (refl, λ z. absurd (omega (arith, z)))
thread_tells (fixed.ThreadFixed.told s l q) = (refl, λ z. l)

pub resource_tells : {t : Table} {cs : ℕ} {l : Left ResourceAnswer} → ResourceFixed t cs l → (l.table ≡ t) × (l.answer.number ≡ 0 → cs < 16)
resource_tells (fixed.ResourceFixed.not_sound n) = (refl, λ z. absurd (omega (arith, z)))
resource_tells (fixed.ResourceFixed.no_resource s h) = (refl, λ z. absurd (omega (arith, z)))
resource_tells (fixed.ResourceFixed.told s l q) = (refl, λ z. l)
