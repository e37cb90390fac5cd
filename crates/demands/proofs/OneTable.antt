-- `Shows` and the `told`s of specs/Told leave nothing open: one sound table in memory shows a valid state, and one answer tells of it. Assumes nothing.
use Prim.Native.Nat.{ℕ, ◌*◌, ◌/◌, ◌%◌, ◌<◌}
use mathlib.Core.Path.{◌≡◌, sym, ap, subst, ◌∙◌}
use mathlib.Core.Logic.{inl, inr, by_cases}
use mathlib.Core.List.{List}
use native.Mathlib.Decide.{ℕ_discrete, dec_lt}
use native.Mathlib.Omega.{arith}
use lib.ListN.{length}
use lib.Seq.{ext_get_or}
use Rattle.protocol.specs.Sets.{SetOf, ◌∈◌, Names}
use Rattle.protocol.specs.Events.{State, threads, Precedence}
use Rattle.protocol.specs.Schedule.{Holds, Waits, running}
use Rattle.protocol.specs.Rules.{Valid}
use Rattle.protocol.proofs.Theorems.{holds_one, waits_one, one_runs, one_cprec}
use Rattle.table.specs.declared.Table.{Table}
use Rattle.table.specs.Table.{at, slot, live, own, stored, queues}
use Rattle.table.specs.Sound.{Sound}
use Rattle.table.specs.Code.Places.{entry}
use Rattle.table.proofs.Arrays.Bounds.{beyond}
use Rattle.table.proofs.Arrays.Places.{part_at}
use Rattle.table.proofs.Sound.Read.{sound_good, queue_length}
use Rattle.queries.specs.declared.RunningAnswer.{RunningAnswer}
use Rattle.queries.specs.declared.ThreadAnswer.{ThreadAnswer}
use Rattle.queries.specs.declared.ResourceAnswer.{ResourceAnswer}
use Rattle.demands.specs.Memory.{Array, AnyTable}
use Rattle.demands.specs.Told.{Shows, RunningTold, ThreadTold, ResourceTold}
use Rattle.demands.proofs.InMemory.{any_shape}

-- arrays of one size that agree at each of its places are equal
same_array : {n highest : ℕ} {xs ys : List ℕ} → Array n highest xs → Array n highest ys → ((i : ℕ) → i < n → at xs i ≡ at ys i) → xs ≡ ys
same_array {xs} {ys} a b same = ext_get_or 0 xs ys (a.size ∙ sym b.size) (λ i h. same i (omega (arith, a.size)))

module _ (t : Table) (a : AnyTable t) (sound : Sound t) where
  -- the length of a queue, as a list and in the table
  length_is : (cs : ℕ) → cs < 16 → at t.rows.length cs ≡ length (queues t cs)
  length_is cs low = sym (queue_length t (sound_good t (any_shape a) sound) cs low)

  -- a place of a queue has what stands there in the list, and zero past its end
  place_is : (cs i : ℕ) → cs < 16 → i < 32 → entry t.rows.queue cs i ≡ at (queues t cs) i
  place_is cs i low small = by_cases (dec_lt i (at t.rows.length cs))
      (λ h. sym (part_at t.rows.queue (cs * 32) (at t.rows.length cs) (inr (omega (arith, a.queue.size, sound.bare.queues_right.lengths cs))) i h))
      (λ n. sound.bare.spare_places cs i low (omega arith) small ∙ sym (beyond (queues t cs) i (omega (arith, length_is cs low))))

module _ {s : State} (v : Valid s) (t u : Table) (a : AnyTable t) (b : AnyTable u) (p : Sound t) (q : Sound u) (m : Shows t s) (n : Shows u s) where
  -- two tables that show one state have the same of each thread, live or not,
  same_slot : (th : ℕ) → (slot t th ≡ slot u th) × (stored t th ≡ stored u th)
  same_slot th = by_cases (ℕ_discrete (at t.live th) 1) (λ l. here ((m.live_are th).0 l)) (λ d. gone (λ l. d ((m.live_are th).1 l)))
    where
      here : th ∈ threads s → (slot t th ≡ slot u th) × (stored t th ≡ stored u th)
      here l = let same : own t th ≡ own u th = m.own_is th l ∙ sym (n.own_is th l) in (
        λ i. record { live = ((m.live_are th).1 l ∙ sym ((n.live_are th).1 l)) i; priority = (same i).0; time = (same i).1; requests = (m.requests_are th l ∙ sym (n.requests_are th l)) i; releases = (m.releases_are th l ∙ sym (n.releases_are th l)) i },
        one_cprec s v th (stored t th) (stored u th) (m.current_is th l) (n.current_is th l),
      )

      dead : {x : Table} → Shows x s → ¬ (th ∈ threads s) → ¬ (th ∈ live x)
      dead k d l = d ((k.live_are th).0 l)

      gone : ¬ (th ∈ threads s) → (slot t th ≡ slot u th) × (stored t th ≡ stored u th)
      gone d = (p.bare.dead_slots th (dead m d) ∙ sym (q.bare.dead_slots th (dead n d)), p.dead_stored th (dead m d) ∙ sym (q.dead_stored th (dead n d)))

  -- the same queue of each resource,
  same_queue : (cs : ℕ) → queues t cs ≡ queues u cs
  same_queue cs = m.queues_are cs ∙ sym (n.queues_are cs)

  -- and so the same at each place of the queues
  same_place : (cs i : ℕ) → cs < 16 → i < 32 → entry t.rows.queue cs i ≡ entry u.rows.queue cs i
  same_place cs i low small = place_is t a p cs i low small ∙ ap (λ (xs : List ℕ). at xs i) (same_queue cs) ∙ sym (place_is u b q cs i low small)

  -- a sound table in memory that shows a state is the only one
  pub one_table : t ≡ u
  one_table = λ i. record {
    clock = (m.clock_is ∙ sym n.clock_is) i;
    live = same_array a.live b.live (λ th h j. ((same_slot th).0 j).live) i;
    priority = same_array a.priority b.priority (λ th h j. ((same_slot th).0 j).priority) i;
    time = same_array a.time b.time (λ th h j. ((same_slot th).0 j).time) i;
    current_priority = same_array a.current_priority b.current_priority (λ th h j. ((same_slot th).1 j).0) i;
    current_time = same_array a.current_time b.current_time (λ th h j. ((same_slot th).1 j).1) i;
    rows = record { queue = same_array a.queue b.queue (λ k h. subst (λ (x : ℕ). at t.rows.queue x ≡ at u.rows.queue x) (omega arith) (same_place (k / 32) (k % 32) (omega arith) (omega arith))) i; length = same_array a.length b.length (λ cs h. length_is t a p cs h ∙ ap length (same_queue cs) ∙ sym (length_is u b q cs h)) i };
    requests = same_array a.requests b.requests (λ th h j. ((same_slot th).0 j).requests) i;
    releases = same_array a.releases b.releases (λ th h j. ((same_slot th).0 j).releases) i;
  }

-- where one number at most is in M, one number names what is in it
named_once : {N : ℕ} {M : SetOf ℕ} → ((x y : ℕ) → x ∈ M → y ∈ M → x ≡ y) → (x y : ℕ) → Names N M x → Names N M y → x ≡ y
named_once one x y (inl p) (inl q) = one x y p.1 q.1
named_once one x y (inl p) (inr q) = absurd (q.1 x p.1)
named_once one x y (inr p) (inl q) = absurd (p.1 y q.1)
named_once one x y (inr p) (inr q) = p.0 ∙ sym q.0

module _ {s : State} (v : Valid s) where
  -- one number names the running thread,
  pub one_running : (a b : ℕ) → Names 32 (running s) a → Names 32 (running s) b → a ≡ b
  one_running = named_once (one_runs s v)

  -- one the resource that a thread waits for,
  pub one_waited : (th a b : ℕ) → Names 16 (λ cs. Waits s th cs) a → Names 16 (λ cs. Waits s th cs) b → a ≡ b
  one_waited th = named_once (waits_one s v th)

  -- and one the holder of a resource
  pub one_holder : (cs a b : ℕ) → Names 32 (λ th. Holds s th cs) a → Names 32 (λ th. Holds s th cs) b → a ≡ b
  one_holder cs = named_once (λ x y. holds_one s x y cs)

  -- so one answer to the running query tells of the state,
  pub one_running_answer : (a b : RunningAnswer) → RunningTold s a → RunningTold s b → a ≡ b
  one_running_answer a b p q = λ i. record { number = (p.0 ∙ sym q.0) i; running = one_running a.running b.running p.1 q.1 i }

  -- one to the thread query,
  pub one_thread_answer : (th : ℕ) (a b : ThreadAnswer) → ThreadTold s th a → ThreadTold s th b → a ≡ b
  one_thread_answer th a b p q = λ i. record {
    number = (p.accepted ∙ sym q.accepted) i;
    priority = (own_same i).0;
    time = (own_same i).1;
    current_priority = (current i).0;
    current_time = (current i).1;
    waits_for = one_waited th a.waits_for b.waits_for p.waits_for q.waits_for i;
    requests = (p.requests_are ∙ sym q.requests_are) i;
    releases = (p.releases_are ∙ sym q.releases_are) i;
  }
    where
      own_same : ◌≡◌ {A = Precedence} (a.priority, a.time) (b.priority, b.time)
      own_same = p.own_is ∙ sym q.own_is

      current : ◌≡◌ {A = Precedence} (a.current_priority, a.current_time) (b.current_priority, b.current_time)
      current = one_cprec s v th _ _ p.current_is q.current_is

  -- and one to the resource query
  pub one_resource_answer : (cs : ℕ) (a b : ResourceAnswer) → ResourceTold s cs a → ResourceTold s cs b → a ≡ b
  one_resource_answer cs a b p q = λ i. record {
    number = (p.accepted ∙ sym q.accepted) i;
    holder = one_holder cs a.holder b.holder p.holder_is q.holder_is i;
    waiters = (p.waiters_are ∙ sym q.waiters_are) i;
  }
