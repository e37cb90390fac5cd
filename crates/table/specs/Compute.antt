-- What is defined on a table, its totals' balance too, once more as tests and values that compute. Assumes nothing.
use Rattle.std.specs.Prelude.{ℕ, zero, suc, ◌+◌, ◌*◌, Bool, true, false, cond, not, ◌&&◌, ◌||◌, List, [], ◌∷◌, eqb, ltb, leb}
use Rattle.protocol.specs.Events.{Thread, Resource, Precedence}
use Rattle.table.specs.declared.Table.{Table}
use Rattle.table.specs.Table.{at, own, stored, queues}

-- every number below n passes the test
unfoldable pub all_below : ℕ → (ℕ → Bool) → Bool
all_below zero f = true
all_below (suc n) f = let r = all_below n f in f n && r

-- every entry of the list passes the test
unfoldable pub each : (ℕ → Bool) → List ℕ → Bool
each f [] = true
each f (x ∷ xs) = let r = each f xs in f x && r

-- x stands in the list
unfoldable pub member : ℕ → List ℕ → Bool
member x [] = false
member x (y ∷ ys) = let r = member x ys in eqb x y || r

-- the first of the list, 32 if it is empty
unfoldable pub first_or_32 : List ℕ → ℕ
first_or_32 [] = 32
first_or_32 (x ∷ xs) = x

-- no number stands twice
unfoldable pub differ : List ℕ → Bool
differ [] = true
differ (x ∷ xs) = let r = differ xs in not (member x xs) && r

-- the greatest number below n that passes the test, d if there is none
unfoldable pub find_below : ℕ → ℕ → (ℕ → Bool) → ℕ
find_below d zero f = d
find_below d (suc n) f = let r = find_below d n f in cond (f n) n r

-- th is live
unfoldable pub is_live : Table → Thread → Bool
is_live t th = eqb (at t.live th) 1

-- the holder of cs, 32 if it is free
unfoldable pub holder : Table → Resource → Thread
holder t cs = first_or_32 (queues t cs)

-- th waits for cs
unfoldable pub is_waiting : Table → Thread → Resource → Bool
is_waiting t th cs = let n = not (eqb th (holder t cs)) in member th (queues t cs) && n

-- the resource that th waits for, 16 if none
unfoldable pub waits_for : Table → Thread → Resource
waits_for t th = find_below 16 16 (is_waiting t th)

-- the holder of what th waits for, 32 if it waits for nothing
unfoldable pub blocker : Table → Thread → Thread
blocker t th = holder t (waits_for t th)

-- within n hops the chain from u comes to th: u waits, directly or through others, for what th holds
unfoldable pub depends : ℕ → Table → Thread → Thread → Bool
depends zero t u th = false
depends (suc n) t u th = let b = blocker t u in let r = depends n t b th in let s = eqb b th || r in ltb b 32 && s

-- p is higher than q
unfoldable pub is_higher : Precedence → Precedence → Bool
is_higher p q = ltb q.0 p.0 || (eqb p.0 q.0 && ltb p.1 q.1)

-- the highest own precedence of p and of the first n threads that depend on th
unfoldable pub highest_behind : Table → Thread → Precedence → ℕ → Precedence
highest_behind t th p zero = p
highest_behind t th p (suc n) =
    let r = highest_behind t th p n in cond (depends 32 t n th && is_higher (own t n) r) (own t n) r

-- current precedence: the highest own precedence among the thread and its dependants
unfoldable pub current : Table → Thread → Precedence
current t th = highest_behind t th (own t th) 32

-- ready: live and waiting for nothing
unfoldable pub is_ready : Table → Thread → Bool
is_ready t th = is_live t th && eqb (waits_for t th) 16

-- the ready thread of highest current precedence among the first n, 32 if there is none
unfoldable pub leader : Table → ℕ → Thread
leader t zero = 32
leader t (suc n) =
    let b = leader t n in
    let c = is_higher (current t n) (current t b) in
    let s = eqb b 32 || c in
    cond (is_ready t n && s) n b

-- running: the ready thread of highest current precedence, 32 if there is none
unfoldable pub runner : Table → Thread
runner t = leader t 32

-- within n hops the way from th ends
unfoldable pub ends : ℕ → Table → Thread → Bool
ends zero t th = false
ends (suc n) t th = let r = ends n t (blocker t th) in eqb (waits_for t th) 16 || r

-- two precedences are the same
unfoldable pub same : Precedence → Precedence → Bool
same p q = eqb p.0 q.0 && eqb p.1 q.1

-- Sound, rule by rule.

-- a dead slot is zero
unfoldable pub dead_zero : Table → Thread → Bool
dead_zero t th = is_live t th || (eqb (at t.live th) 0 && (same (own t th) (0, 0) && (eqb (at t.requests th) 0 && (eqb (at t.releases th) 0 && same (stored t th) (0, 0)))))

-- the queue places of cs beyond its length are zero
unfoldable pub spare_zero : Table → Resource → Bool
spare_zero t cs = all_below 32 (λ i. ltb i (at t.rows.length cs) || eqb (at t.rows.queue (cs * 32 + i)) 0)

-- a live thread's set time is below the clock, and no other live thread has it
unfoldable pub time_right : Table → Thread → Bool
time_right t th =
    not (is_live t th) || (ltb (at t.time th) t.clock && all_below 32 (λ u. not (is_live t u && eqb (at t.time th) (at t.time u)) || eqb th u))

-- the length of the queue of cs is at most 32, its entries are live and differ
unfoldable pub queue_right : Table → Resource → Bool
queue_right t cs = leb (at t.rows.length cs) 32 && (each (is_live t) (queues t cs) && differ (queues t cs))

-- those who wait for cs wait for nothing else
unfoldable pub waits_once : Table → Resource → Bool
waits_once t cs = each (λ th. not (is_waiting t th cs) || eqb (waits_for t th) cs) (queues t cs)

-- how many of the first n resources th holds
unfoldable pub held_below : Table → Thread → ℕ → ℕ
held_below t th zero = 0
held_below t th (suc n) = let r = held_below t th n in cond (eqb (holder t n) th) (suc r) r

-- the requests of th that were not released: the resources that it holds, and 1 if it waits
unfoldable pub unreleased : Table → Thread → ℕ
unreleased t th = let w : ℕ = cond (eqb (waits_for t th) 16) 0 1 in held_below t th 16 + w

-- a live thread's requests equal its releases plus those that were not released
unfoldable pub balance_right : Table → Thread → Bool
balance_right t th = not (is_live t th) || eqb (at t.requests th) (at t.releases th + unreleased t th)

-- no total of th is above the clock
unfoldable pub totals_low : Table → Thread → Bool
totals_low t th = leb (at t.requests th) t.clock && leb (at t.releases th) t.clock

-- a live thread's stored current precedence is the defined one
unfoldable pub current_right : Table → Thread → Bool
current_right t th = let s = same (stored t th) (current t th) in not (is_live t th) || s

-- the table is sound
unfoldable pub is_sound : Table → Bool
is_sound t =
    leb t.clock 65535
    && (all_below 32 (λ th. leb (at t.priority th) 255)
    && (all_below 32 (dead_zero t)
    && (all_below 16 (spare_zero t)
    && (all_below 32 (time_right t)
    && (all_below 16 (queue_right t)
    && (all_below 16 (waits_once t)
    && (all_below 32 (ends 33 t)
    && (all_below 32 (balance_right t)
    && (all_below 32 (totals_low t)
    && all_below 32 (current_right t))))))))))
