-- A queue is written, before the current precedences are worked out: the table keeps the other rules of a sound table. Assumes nothing.
use Prim.Native.Nat.{ℕ, ◌+◌, ◌≤◌, ◌<◌}
use mathlib.Core.Path.{◌≡◌, sym, ap, subst, ◌∙◌}
use mathlib.Core.Option.{Option}
use mathlib.Core.List.{List, [], ◌∷◌, ◌++◌}
use mathlib.Core.Logic.{⊎_elim}
use native.Mathlib.Decide.{ℕ_discrete}
use native.Mathlib.Omega.{arith}
use lib.ListN.{length, length-set, set as put}
use lib.Seq.{get_or-set_other}
use Rattle.protocol.specs.Sets.{◌∈◌, set, Distinct}
use Rattle.protocol.specs.Graph.{Queues}
use Rattle.protocol.specs.Events.{P, «V»}
use Rattle.protocol.specs.Schedule.{update, release as leave}
use Rattle.protocol.proofs.Pigeons.{pigeons}
use Rattle.protocol.proofs.Lists.{in_join, update_cases, update_there}
use Rattle.protocol.proofs.Ways.{every_way}
use Rattle.protocol.proofs.Forest.{Forest, Joins, join_forest, Passes, pass_queue, pass_forest}
use Rattle.table.specs.declared.Table.{Table}
use Rattle.table.specs.declared.Slot.{Slot}
use Rattle.table.specs.Table.{at, live, queues}
use Rattle.table.specs.Sound.{Bare}
use Rattle.table.specs.Code.Shape.{Shape}
use Rattle.table.proofs.Arrays.Places.{index_in, distinct_apart}
use Rattle.table.proofs.Sound.Queues.{live_low}
use Rattle.table.proofs.Values.Values.{Good, resource_low}
use Rattle.events.specs.Events.{later, with_totals, one_request_more, one_release_more, with_queue}
use Rattle.events.specs.Code.Permits.{Permits, request, release}
use Rattle.events.proofs.Kept.Shapes.{totals_shape, queue_shape}
use Rattle.events.proofs.Queues.Queued.{length_there, length_else, queues_queued, queued_spare}

-- a list of different numbers below n has at most n
pub few : (n : ℕ) (xs : List ℕ) → Distinct xs → ((x : ℕ) → x ∈ set xs → x < n) → length xs ≤ n
few n xs d low = pigeons n (length xs) (at xs) (λ i h. low (at xs i) (index_in xs i h)) (distinct_apart xs d)

-- P and V as protocol's laws on queues see them
pub request_joins : (t : Table) (g : Good t) {th cs : ℕ} → Permits t (P th cs) → Joins (queues t) th cs
request_joins t g (request runs low chainless) = record { forest = g.order.forest; idle = runs.among.1; chainless = chainless }

pub release_passes : (t : Table) (g : Good t) {th cs : ℕ} {next : Option ℕ} → Permits t («V» th cs next) → Passes (queues t) cs next
release_passes t g (release runs head follows) = record { forest = g.order.forest; follows = follows }

-- totals that the threads may have: arrays of their sizes, with zeros in dead slots
pub record TotalsFit (t : Table) (requests releases : List ℕ) : Type 0 where
  pub requests_size : length requests ≡ 32
  pub releases_size : length releases ≡ 32
  pub dead : (x : ℕ) → ¬ (x ∈ live t) → (at requests x ≡ 0) × (at releases x ≡ 0)

-- a queue that cs may be given, with such totals: its entries are live, and with it there is no circle
pub record QueueFits (t : Table) (cs : ℕ) (q requests releases : List ℕ) : Type 0 where
  pub entries : (x : ℕ) → x ∈ set q → x ∈ live t
  pub forest : Forest (update (queues t) cs q)
  pub totals : TotalsFit t requests releases

-- such a queue has room
pub queue_short : (t : Table) (cs : ℕ) (q : List ℕ) {requests releases : List ℕ} → Shape t → QueueFits t cs q requests releases → length q ≤ 32
queue_short t cs q s f = few 32 q (rw (update_there (queues t) cs q) at (f.forest.once cs)) (λ x i. live_low t s x (f.entries x i))

-- one event later the rules hold still
pub later_bare : {t : Table} → Bare t → t.clock < 65535 → Bare (later t)
later_bare b early = record {
  clock = omega arith;
  priorities = b.priorities;
  dead_slots = b.dead_slots;
  spare_places = b.spare_places;
  times = record { below_clock = λ x l. omega (arith, b.times.below_clock x l); different = b.times.different };
  queues_right = record { lengths = b.queues_right.lengths; live_entries = b.queues_right.live_entries; differ = b.queues_right.differ };
  one_wait = b.one_wait;
  ways_end = b.ways_end;
}

-- with such a queue the rules hold still
pub queue_bare : (t : Table) (cs : ℕ) (q : List ℕ) {requests releases : List ℕ} → Shape t → Bare t → cs < 16 → QueueFits t cs q requests releases → Bare (with_queue (with_totals t requests releases) cs q)
unfolding with_queue
queue_bare t cs q {requests} {releases} s b low f = record {
  clock = b.clock;
  priorities = b.priorities;
  dead_slots = λ x n. let z = b.dead_slots x n in let d = f.totals.dead x n in rw (ap (λ (e : Slot). e.live) z, ap (λ (e : Slot). e.priority) z, ap (λ (e : Slot). e.time) z, d.0, d.1);
  spare_places = queued_spare t cs q s low short lengths b.spare_places;
  times = record { below_clock = b.times.below_clock; different = b.times.different };
  queues_right = record {
    lengths = λ r. new_length r (ℕ_discrete r cs);
    live_entries = λ r x i. update_cases (queues t) cs q (λ r q. x ∈ set q → x ∈ live t) (f.entries x) (λ r n. b.queues_right.live_entries r x) r (subst (λ (wq : Queues). x ∈ set (wq r)) is i);
    differ = forest.once;
  };
  one_wait = forest.one_wait;
  ways_end = every_way (queues (with_queue (with_totals t requests releases) cs q)) forest.ends;
}
  where
    lengths : (r : ℕ) → at t.rows.length r ≤ 32
    lengths = b.queues_right.lengths

    short : length q ≤ 32
    short = queue_short t cs q s f

    is : queues (with_queue (with_totals t requests releases) cs q) ≡ update (queues t) cs q
    is = queues_queued (with_totals t requests releases) cs q (totals_shape s f.totals.requests_size f.totals.releases_size) low short lengths

    forest : Forest (queues (with_queue (with_totals t requests releases) cs q))
    forest = subst Forest (sym is) f.forest

    new_length : (r : ℕ) → Dec (r ≡ cs) → at (put t.rows.length cs (length q)) r ≤ 32
    new_length r (yes e) = rw e (omega (arith, length_there t cs q s low short, short))
    new_length r (no n) = omega (arith, length_else t cs q s low short r n, lengths r)

-- such a queue, and such totals, keep the arrays' sizes
pub fits_shape : (t : Table) (cs : ℕ) (q : List ℕ) {requests releases : List ℕ} → Shape t → cs < 16 → QueueFits t cs q requests releases → Shape (with_queue (with_totals t requests releases) cs q)
fits_shape t cs q s low f = queue_shape _ cs q (totals_shape s f.totals.requests_size f.totals.releases_size) low (queue_short t cs q s f)

-- one total more for a live thread
module _ (t : Table) (g : Good t) (th : ℕ) (l : th ∈ live t) where
  others : (xs : List ℕ) (v x : ℕ) → ¬ (x ∈ live t) → at xs x ≡ 0 → at (put xs th v) x ≡ 0
  others xs v x n z = get_or-set_other xs th x v 0 (λ (e : x ≡ th). n (rw e l)) ∙ z

  zeros : (x : ℕ) → ¬ (x ∈ live t) → (at t.requests x ≡ 0) × (at t.releases x ≡ 0)
  zeros x n = let z = g.bare.dead_slots x n in (ap (λ (e : Slot). e.requests) z, ap (λ (e : Slot). e.releases) z)

  request_totals : TotalsFit t (one_request_more t th).requests t.releases
  request_totals = record {
    requests_size = length-set t.requests th (at t.requests th + 1) ∙ g.shape.requests_size;
    releases_size = g.shape.releases_size;
    dead = λ x n. (others t.requests (at t.requests th + 1) x n (zeros x n).0, (zeros x n).1);
  }

  release_totals : TotalsFit t t.requests (one_release_more t th).releases
  release_totals = record {
    requests_size = g.shape.requests_size;
    releases_size = length-set t.releases th (at t.releases th + 1) ∙ g.shape.releases_size;
    dead = λ x n. ((zeros x n).0, others t.releases (at t.releases th + 1) x n (zeros x n).1);
  }

-- P: the thread joins the queue
pub request_fits : (t : Table) (g : Good t) {th cs : ℕ} → Permits t (P th cs) → QueueFits t cs (queues t cs ++ (th ∷ [])) (one_request_more t th).requests t.releases
request_fits t g {th} {cs} (request runs low chainless) = record {
  entries = λ x i. ⊎_elim (g.bare.queues_right.live_entries cs x) (λ e. rw e runs.among.0) ((in_join (queues t cs) th x).0 i);
  forest = join_forest (request_joins t g (request runs low chainless));
  totals = request_totals t g th runs.among.0;
}

-- who releases is live
releaser_live : (t : Table) {th cs : ℕ} {next : Option ℕ} → Permits t («V» th cs next) → th ∈ live t
releaser_live t (release runs head follows) = runs.among.0

-- V: the head goes, and whoever may follow follows
pub release_fits : (t : Table) (g : Good t) {th cs : ℕ} {next : Option ℕ} → Permits t («V» th cs next) → QueueFits t cs (leave (queues t cs) next) t.requests (one_release_more t th).releases
release_fits t g {th} {cs} {next} p = record {
  entries = λ x i. g.bare.queues_right.live_entries cs x (((pass_queue (release_passes t g p)).waited x).0 i).0;
  forest = pass_forest (release_passes t g p);
  totals = release_totals t g th (releaser_live t p);
}

-- the resource of a permitted P or V is one of the sixteen
pub request_low : (t : Table) {th cs : ℕ} → Permits t (P th cs) → cs < 16
request_low t (request runs low chainless) = low

pub release_low : (t : Table) (g : Good t) {th cs : ℕ} {next : Option ℕ} → Permits t («V» th cs next) → cs < 16
release_low t g {th} {cs} (release runs head follows) = resource_low t g th cs head.0
