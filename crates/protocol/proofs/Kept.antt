-- What every valid state keeps: set times lie before now and differ, queues hold live threads, and there is no circle.
-- Assumes nothing.
use Prim.Native.Nat.{ℕ, suc, ◌<◌}
use mathlib.Core.Path.{◌≡◌, sym, ap, ◌∙◌}
use mathlib.Core.Bool.{cond}
use mathlib.Core.Option.{Option, none, some}
use mathlib.Core.List.{◌∷◌}
use mathlib.Core.Logic.{◌≢◌, inl, inr, ⊎_elim}
use native.Mathlib.Omega.{arith}
use lib.Dec.{eqb}
use lib.ListN.{length}
use Rattle.protocol.specs.Sets.{SetOf, ◌∈◌, set}
use Rattle.protocol.specs.Events.{Event, Create, Exit, Set, P, «V», State, threads, last_set, Precedence, prec}
use Rattle.protocol.specs.Schedule.{wq, Waits, Holds, running}
use Rattle.protocol.specs.Rules.{MayFollow, Step, create, exit, set as set_step, request, release, Valid, start, after}
use Rattle.protocol.proofs.Lists.{Follows, if-equal, in_cases}
use Rattle.protocol.proofs.Forest.{Forest, bare_forest, Joins, join_forest, join_in, Passes, pass_forest, pass_in}

pub record Kept (s : State) : Type 0 where
  pub timed : (t : ℕ) → t ∈ threads s → last_set t s < length s
  pub differ : (t u : ℕ) → t ∈ threads s → u ∈ threads s → last_set t s ≡ last_set u s → t ≡ u
  pub entries : (r t : ℕ) → t ∈ set (wq s r) → t ∈ threads s
  pub forest : Forest (wq s)

pub prec_differs : {s : State} → Kept s → (t u : ℕ) → t ∈ threads s → u ∈ threads s → prec t s ≡ prec u s → t ≡ u
prec_differs kept t u l m e = kept.differ t u l m (ap (λ (p : Precedence). p.1) e)

-- whoever may follow in a state may follow in the queue
pub follows : (s : State) (r : ℕ) (next : Option ℕ) → MayFollow s r next → Follows (wq s r) next
follows s r none f = f
follows s r (some b) f = f

-- who holds nothing and waits for nothing stands in no queue
pub nowhere : (s : State) (t : ℕ) → ((r : ℕ) → ¬ Holds s t r) → ((r : ℕ) → ¬ Waits s t r) → (r : ℕ) → ¬ (t ∈ set (wq s r))
nowhere s t no_hold no_wait r i = ⊎_elim {C = ⊥} (no_hold r) (no_wait r) (in_cases (wq s r) t i)

-- Create and Set give th the time now; all other live threads were live and keep their times
module _ (s : State) (kept : Kept s) (th : ℕ) (live : SetOf ℕ) (old : (u : ℕ) → u ∈ live → th ≢ u → u ∈ threads s) where
  stamp : ℕ → ℕ
  stamp u = cond (eqb th u) (length s) (last_set u s)

  stamp_timed : (u : ℕ) → u ∈ live → stamp u < suc (length s)
  unfolding stamp
  stamp_timed u l = if-equal th u (λ k. k < suc (length s)) (length s) (last_set u s) (λ e. omega arith) (λ n. omega (arith, kept.timed u (old u l n)))

  stamp_differ : (t u : ℕ) → t ∈ live → u ∈ live → stamp t ≡ stamp u → t ≡ u
  unfolding stamp
  stamp_differ t u l m = if-equal th t (λ k. k ≡ stamp u → t ≡ u) (length s) (last_set t s)
      (λ e. if-equal th u (λ k. length s ≡ k → t ≡ u) (length s) (last_set u s) (λ d q. sym e ∙ d) (λ n q. absurd (omega (arith, kept.timed u (old u m n)))))
      (λ n. if-equal th u (λ k. last_set t s ≡ k → t ≡ u) (length s) (last_set u s) (λ d q. absurd (omega (arith, kept.timed t (old t l n)))) (λ d q. kept.differ t u (old t l n) (old u m d) q))

-- what a P and a V by the rules do to the queues

pub step_joins : (s : State) (th cs : ℕ) → Kept s → Step s (P th cs) → Joins (wq s) th cs
step_joins s th cs kept (request run chainless) = record { forest = kept.forest; idle = run.among.1; chainless = chainless }

pub step_passes : (s : State) (th cs : ℕ) (next : Option ℕ) → Kept s → Step s («V» th cs next) → Passes (wq s) cs next
step_passes s th cs next kept (release run held f) = record { forest = kept.forest; follows = follows s cs next f }

-- every rule keeps it
pub step_kept : (s : State) (e : Event) → Kept s → Step s e → Kept (e ∷ s)
unfolding stamp
step_kept s (Create th prio) kept (create dead) = record {
  timed = stamp_timed s kept th (threads (Create th prio ∷ s)) old;
  differ = stamp_differ s kept th (threads (Create th prio ∷ s)) old;
  entries = λ r t i. inr (kept.entries r t i);
  forest = kept.forest;
}
  where
    old : (u : ℕ) → u ∈ threads (Create th prio ∷ s) → th ≢ u → u ∈ threads s
    old u (inl e) n = absurd (n (sym e))
    old u (inr l) n = l
step_kept s (Exit th) kept (exit run bare) = record {
  timed = λ t l. omega (arith, kept.timed t l.0);
  differ = λ t u l m q. kept.differ t u l.0 m.0 q;
  entries = λ r t i. (kept.entries r t i, λ (e : t ≡ th). nowhere s th bare run.among.1 r (rw e at i));
  forest = kept.forest;
}
step_kept s (Set th prio) kept (set_step run) = record {
  timed = stamp_timed s kept th (threads s) (λ u l n. l);
  differ = stamp_differ s kept th (threads s) (λ u l n. l);
  entries = kept.entries;
  forest = kept.forest;
}
step_kept s (P th cs) kept (request run chainless) = record {
  timed = λ t l. omega (arith, kept.timed t l);
  differ = kept.differ;
  entries = λ r t i. ⊎_elim (kept.entries r t) (λ (e : t ≡ th). rw e run.among.0) (join_in (step_joins s th cs kept (request run chainless)) r t i);
  forest = join_forest (step_joins s th cs kept (request run chainless));
}
step_kept s («V» th cs next) kept (release run held f) = record {
  timed = λ t l. omega (arith, kept.timed t l);
  differ = kept.differ;
  entries = λ r t i. kept.entries r t (pass_in (step_passes s th cs next kept (release run held f)) r t i);
  forest = pass_forest (step_passes s th cs next kept (release run held f));
}

pub valid_kept : (s : State) → Valid s → Kept s
valid_kept s start = record { timed = λ t l. absurd l; differ = λ t u l m q. absurd l; entries = λ r t i. absurd i; forest = bare_forest }
valid_kept s (after {s = s'} {e = e} v k) = step_kept s' e (valid_kept s' v) k

pub joins : (s : State) (th cs : ℕ) → Valid (P th cs ∷ s) → Joins (wq s) th cs
joins s th cs (after v k) = step_joins s th cs (valid_kept s v) k

pub passes : (s : State) (th cs : ℕ) (next : Option ℕ) → Valid («V» th cs next ∷ s) → Passes (wq s) cs next
passes s th cs next (after v k) = step_passes s th cs next (valid_kept s v) k

pub releaser_holds : (s : State) (th cs : ℕ) (next : Option ℕ) → Valid («V» th cs next ∷ s) → Holds s th cs
releaser_holds s th cs next (after v (release run held f)) = held

pub valid_before : {s : State} {e : Event} → Valid (e ∷ s) → Valid s
valid_before (after v k) = v

pub last_step : {s : State} {e : Event} → Valid (e ∷ s) → Step s e
last_step (after v k) = k

-- whose call an event is, if anybody's
abbrev pub caller : Event → Option ℕ
caller (Create th prio) = none
caller (Exit th) = some th
caller (Set th prio) = some th
caller (P th cs) = some th
caller («V» th cs next) = some th

-- whoever calls runs
pub caller_runs : (s : State) (e : Event) (th : ℕ) → caller e ≡ some th → Step s e → th ∈ running s
caller_runs s (Create u prio) th q k = absurd (none_some th q)
  where
    none_some : (th : ℕ) → ◌≡◌ {A = Option ℕ} none (some th) → ⊥
    none_some th q = let z : ◌≡◌ {A = ℕ} 0 1 = cc in omega arith
caller_runs s (Exit u) th q (exit run bare) = let e : u ≡ th = cc in rw e at run
caller_runs s (Set u prio) th q (set_step run) = let e : u ≡ th = cc in rw e at run
caller_runs s (P u cs) th q (request run chainless) = let e : u ≡ th = cc in rw e at run
caller_runs s («V» u cs next) th q (release run held f) = let e : u ≡ th = cc in rw e at run
