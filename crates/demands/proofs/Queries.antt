-- What the queries answer for a sound table that agrees with a state, in the paper's terms. Assumes nothing.
use Prim.Native.Nat.{ℕ, ◌<◌}
use mathlib.Core.Path.{◌≡◌, refl, sym, ap, subst}
use mathlib.Core.Bool.{true, false}
use mathlib.Core.Logic.{inl, inr}
use mathlib.Core.List.{List, [], ◌∷◌}
use native.Mathlib.Omega.{arith}
use borrow.Author.Tests.{not-true, lt-ltb, le-ltb}
use lib.ListN.{length}
use Rattle.protocol.specs.Sets.{◌∈◌, set, Names}
use Rattle.protocol.specs.Events.{Thread, Resource, State, threads}
use Rattle.protocol.specs.Graph.{Waits}
use Rattle.protocol.specs.Schedule.{wq, Holds, Cprec}
use Rattle.protocol.proofs.Lists.{Holding}
use Rattle.table.specs.declared.Table.{Table}
use Rattle.table.specs.Table.{live}
use Rattle.table.specs.Compute.{first_or_32, holder, is_live, is_sound, runner, waits_for}
use Rattle.table.proofs.Tests.Decided.{tells_sound}
use Rattle.table.proofs.Tests.Reflect.{tells_not}
use Rattle.table.proofs.Tests.Computed.{tells_live}
use Rattle.table.proofs.Sound.Queues.{live_low}
use Rattle.table.proofs.Sound.Read.{runs, waited, current_stored, queue_length}
use Rattle.refusals.specs.Refusals.{unsound, lowest}
use Rattle.events.proofs.Kept.Stays.{Right}
use Rattle.queries.specs.Queries.{running_refusals, running_answer, thread_refusals, thread_refused, thread_told as thread_table, thread_answer, resource_refusals, resource_refused, resource_told as resource_table, resource_answer}
use Rattle.queries.proofs.Told.{waiters_are}
use Rattle.demands.specs.Told.{RunningTold, ThreadTold, ResourceTold}
use Rattle.demands.proofs.Agrees.{Reached, good, ordered, same_queues}
use Rattle.demands.proofs.Same.{names_running, ids, shows}

module _ (t : Table) (right : Right t) where
  -- the test passes a sound table
  sound_true : is_sound t ≡ true
  sound_true = (tells_sound t right.0).1 right.1

  -- so the running query is not refused
  pub running_is : running_answer t ≡ record { number = 0; running = runner t }
  unfolding unsound running_refusals running_answer lowest
  running_is = rw sound_true

  -- the thread query of a live thread is not refused
  pub thread_is : (th : ℕ) → th ∈ live t → thread_answer t th ≡ thread_table t th
  unfolding unsound thread_refusals thread_answer lowest
  thread_is th l = rw (sound_true, le-ltb 31 th (omega (arith, live_low t right.0 th l)), (tells_live t th).1 l)

  -- the resource query of one of the sixteen resources is not refused
  pub resource_is : (cs : ℕ) → cs < 16 → resource_answer t cs ≡ resource_table t cs
  unfolding unsound resource_refusals resource_answer lowest
  resource_is cs low = rw (sound_true, le-ltb 15 cs (omega arith))

  -- a thread that isn't live is refused with 7
  pub thread_dead : (th : ℕ) → th < 32 → ¬ (th ∈ live t) → thread_answer t th ≡ thread_refused 7
  unfolding unsound thread_refusals thread_answer lowest
  thread_dead th low dead = rw (sound_true, le-ltb 31 th (omega arith), not-true (is_live t th) ((tells_not (tells_live t th)).1 dead))

  -- and an id above 31 with 3
  pub thread_absent : (th : ℕ) → 31 < th → thread_answer t th ≡ thread_refused 3
  unfolding unsound thread_refusals thread_answer lowest
  thread_absent th high = rw (sound_true, lt-ltb 31 th high)

  -- a resource above 15 is refused with 4
  pub resource_absent : (cs : ℕ) → 15 < cs → resource_answer t cs ≡ resource_refused 4
  unfolding unsound resource_refusals resource_answer lowest
  resource_absent cs high = rw (sound_true, lt-ltb 15 cs high)

-- on a table that isn't sound every query is refused with 1
module _ (t : Table) where
  pub running_unsound : is_sound t ≡ false → running_answer t ≡ record { number = 1; running = 32 }
  unfolding unsound running_refusals running_answer lowest
  running_unsound f = rw f

  pub thread_unsound : (th : ℕ) → is_sound t ≡ false → thread_answer t th ≡ thread_refused 1
  unfolding unsound thread_refusals thread_answer lowest
  thread_unsound th f = rw f

  pub resource_unsound : (cs : ℕ) → is_sound t ≡ false → resource_answer t cs ≡ resource_refused 1
  unfolding unsound resource_refusals resource_answer lowest
  resource_unsound cs f = rw f

-- the first of a queue of threads is its head; 32 stands for that of an empty one
first_names : (q : List ℕ) → ((x : ℕ) → x ∈ set q → x < 32) → Names 32 (Holding q) (first_or_32 q)
unfolding first_or_32
first_names [] low = inr (refl, λ x h. h.0)
first_names (x ∷ xs) low = inl (low x (inl refl), (inl refl, refl))

module _ {t : Table} {s : State} (r : Reached t s) where
  -- `waits_for` names what a thread waits for in the state
  names_waited : (th : Thread) → Names 16 (λ cs. Waits (wq s) th cs) (waits_for t th)
  names_waited th = (same_queues r (λ q. Names 16 (λ cs. Waits q th cs) (waits_for t th))).0 (waited t (good r) th)

  -- `holder` names the holder in the state
  names_holder : (cs : Resource) → Names 32 (λ th. Holds s th cs) (holder t cs)
  unfolding holder
  names_holder cs = rw ((shows r).queues_are cs) (first_names (wq s cs) (λ x i. ids r x ((ordered r).entries cs x i)))

  -- the running query names the running thread
  pub running_told : RunningTold s (running_answer t)
  running_told = rw (running_is t r.right) (refl, names_running r (runner t) (runs t (good r)))

  -- the thread query tells of a live thread what the state says
  pub thread_told : (th : Thread) → th ∈ threads s → ThreadTold s th (thread_answer t th)
  unfolding thread_table
  thread_told th l = let here = (r.agrees.live th).1 l in rw (thread_is t r.right th here) (record {
    accepted = refl;
    own_is = (shows r).own_is th l;
    current_is = subst (Cprec s th) (sym (current_stored t r.right.0 r.right.1 th here)) ((shows r).current_is th l);
    waits_for = names_waited th;
    requests_are = (shows r).requests_are th l;
    releases_are = (shows r).releases_are th l;
  })

  -- the resource query tells the holder and the number of waiters
  pub resource_told : (cs : Resource) → cs < 16 → ResourceTold s cs (resource_answer t cs)
  unfolding resource_table
  resource_told cs low = rw (resource_is t r.right cs low) (record {
    accepted = refl;
    holder_is = names_holder cs;
    waiters_are = omega (arith, waiters_are t (good r) cs low, queue_length t (good r) cs low, ap length ((shows r).queues_are cs));
  })
