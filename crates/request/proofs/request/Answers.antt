-- `request::request` meets its contract: what the laws of Work.antt say of a free and of a taken resource, with the indices as the code
-- has them. Assumes nothing.
use Prim.Native.Nat.{ℕ, ◌+◌, ◌*◌, ◌≤◌, ◌<◌}
use mathlib.Core.Path.{◌≡◌}
use mathlib.Core.List.{List}
use mathlib.Core.Logic.{◌≢◌}
use native.Mathlib.Omega.{arith}
use borrow.Author.Rules.{rules}
use lib.ListN.{length, set}
use Rattle.protocol.specs.Events.{P}
use Rattle.table.specs.declared.Table.{Table}
use Rattle.table.specs.Table.{at}
use Rattle.table.specs.Code.Tracks.{Sized}
use Rattle.events.specs.Events.{changed}
use Rattle.events.specs.Code.Work.{Begun, DoneWith}
use Rattle.request.specs.Climb.{Climbed, Rising}
use Rattle.request.proofs.Work.{resource, thread, room, free_done, start_rises, taken_done}
use Rattle.request.proofs.request.Goals as goal

-- r is the index for cs, i that for th, and n the length of the queue of cs
module _ {t : Table} {th cs : ℕ} {queue lengths holders waits owns currents : List ℕ} (k : Begun t (P th cs) queue lengths holders waits owns currents) (r n : ℕ) (wide : r ≡ cs) (many : n ≡ at lengths r) where
  in_row : r * 32 + n < 512
  in_row = omega (arith, resource k, rw wide at many, room k)

  free : length holders ≡ 16 → n ≡ 0 →
      DoneWith t (P th cs) (set queue (r * 32 + n) th) (set lengths r (at lengths r + 1)) (set holders r th) waits currents 0
  free size z = rw (many, wide) (free_done k size (rw (many, wide) at z))

  module _ (size : Sized waits holders currents) (taken : n ≢ 0) (i : ℕ) (index : i ≡ th) where
    may_climb : (m : ℕ) × (m ≤ 17) × Rising (changed t (P th cs)).rows.queue (changed t (P th cs)).rows.length holders (set waits i cs) owns (at currents i) currents (at holders r) m
    may_climb = rw (wide, index) (start_rises k size (rw (many, wide) at taken))

    climbs : (m : ℕ) (e : List ℕ) →
        ((places lengths owns : List ℕ) (m' : ℕ) → m' ≤ 17 → Rising places lengths holders (set waits i cs) owns (at currents i) currents (at holders r) m' →
        Climbed places lengths holders (set waits i cs) owns currents (at holders r) m e) →
        DoneWith t (P th cs) (set queue (r * 32 + n) th) (set lengths r (at lengths r + 1)) holders (set waits i cs) e m
    climbs m e climb =
        let c = climb (changed t (P th cs)).rows.queue (changed t (P th cs)).rows.length owns may_climb.0 may_climb.1 may_climb.2 in
        rw (many, wide, index) (taken_done k size (rw (many, wide) at taken) (rw (wide, index) at c))

-- the thread and the resource are below their limits, and the resource's queue has room
pub bounds-rows-r : goal.bounds-rows-r
bounds-rows-r c = search (arith, resource)

pub bounds-rows-r-2 : goal.bounds-rows-r-2
bounds-rows-r-2 c = search (arith, resource)

pub bounds-rows-r-3 : goal.bounds-rows-r-3
bounds-rows-r-3 c = search (arith, resource)

pub bounds-rows-r-4 : goal.bounds-rows-r-4
bounds-rows-r-4 c = in_row c.requires.2 c.from-r.result c.from-n.result c.from-r.ensures c.from-n.ensures

pub bounds-w-r : goal.bounds-w-r
bounds-w-r c = search (arith, resource)

pub bounds-w-i : goal.bounds-w-i
bounds-w-i c = search (arith, thread)

pub bounds-w-i-2 : goal.bounds-w-i-2
bounds-w-i-2 c = search (arith, thread)

pub returns-then-is_free-clause-done : goal.returns-then-is_free-clause-done
returns-then-is_free-clause-done c t owns k = free k c.from-r.result c.from-n.result c.from-r.ensures c.from-n.ensures (search rules) c.if-is_free.true

pub climb-requires : goal.climb-requires
climb-requires c =
    let m = may_climb c.requires.2 c.from-r.result c.from-n.result c.from-r.ensures c.from-n.ensures (search rules) c.if-is_free.false c.from-i.result c.from-i.ensures in
    (_, _, c.requires.1, m.0, m.1, m.2)

pub returns-clause-done : goal.returns-clause-done
returns-clause-done c t owns k =
    climbs k c.from-r.result c.from-n.result c.from-r.ensures c.from-n.ensures (search rules) c.if-is_free.false c.from-i.result c.from-i.ensures
    c.climb.result c.climb.new.current c.climb.ensures
