-- `release::release` meets its contract. Assumes nothing.
use Prim.Native.Nat.{ℕ, ◌*◌, ◌-◌, ◌≤◌, ◌<◌}
use mathlib.Core.Path.{◌≡◌}
use mathlib.Core.Option.{some}
use mathlib.Core.List.{List}
use native.Mathlib.Omega.{arith}
use borrow.Author.Rules.{rules}
use lib.ListN.{set, take, drop}
use Rattle.std.specs.declared.option.Option.{Option}
use Rattle.std.specs.declared.option.Option.TheVariants.{Some, None}
use Rattle.protocol.specs.Sets.{Max}
use Rattle.protocol.specs.Events.{«V»}
use Rattle.protocol.specs.Schedule.{release as leave}
use Rattle.table.specs.declared.Table.{Table}
use Rattle.table.specs.Table.{at}
use Rattle.table.specs.Code.Places.{entry}
use Rattle.table.specs.Code.Tracks.{Sized}
use Rattle.chains.specs.Law.{Compared}
use Rattle.events.specs.Code.Permits.{Permits}
use Rattle.events.specs.Code.Rows.{rewritten}
use Rattle.events.specs.Code.Work.{Begun, DoneWith}
use Rattle.release.specs.declared.heir.Next.{Next}
use Rattle.release.specs.Heir.{GreatestBehind, NextRight, next_at}
use Rattle.release.proofs.Successor.{both_low}
use Rattle.release.proofs.Work.{vacated, handed_on}
use Rattle.release.proofs.release.Goals as goal

-- the values as the code has them, beside those of the laws: r is the index for cs
module _ {queue lengths holders waiting owns currents : List ℕ} {t : Table} {th cs r : ℕ} {next : Option Next} (wide : r ≡ cs) (b : Begun t («V» th cs (next_at queue cs next)) queue lengths holders waiting owns currents) where
  -- nobody follows
  nobody : next ≡ None → Sized waiting holders currents → DoneWith t («V» th cs (next_at queue cs next)) (set queue (r * 32) 0) (set lengths r (at lengths r - 1)) (set holders r 32) waiting currents 0
  nobody is sized = rw (is, wide, b.queue_is, b.lengths_are) (vacated t b.known b.early (rw is at b.permitted) sized)

  -- x says who follows
  module _ {x : Next} (is : next ≡ Some x) where
    follows : Permits t («V» th cs (some (entry t.rows.queue cs x.place)))
    follows = rw (is, b.queue_is) at b.permitted

    -- both who hold the resource, before and after, are threads
    low : (th < 32) × (entry queue r x.place < 32)
    low = rw (wide, b.queue_is) (both_low t b.known b.early follows)

    somebody : NextRight queue lengths currents cs next → Sized waiting holders currents → (n i heir h : ℕ) → n ≡ at lengths r → i ≡ th → heir ≡ entry queue r x.place → h ≡ heir →
        (queue' : List ℕ) → queue' ≡ rewritten queue (r * 32) (leave (take n (drop (r * 32) queue)) (some (entry queue r x.place))) →
        (first : ℕ) → Max ◌≤◌ (Compared queue' (set lengths r (at lengths r - 1)) (set holders r heir) currents 16 (at owns i) th) first →
        DoneWith t («V» th cs (next_at queue cs next)) queue' (set lengths r (at lengths r - 1)) (set holders r heir) (set waiting h 16) (set (set currents i first) h x.number) 2
    somebody right sized n i heir h size index is_heir is_h queue' wrote first first-is =
        let sure : GreatestBehind t.rows.queue t.rows.length currents cs x = rw (is, b.queue_is, b.lengths_are) at right in
        rw (is, wrote, size, index, is_h, is_heir, wide, b.queue_is, b.lengths_are)
        (handed_on t b.known b.early x.place follows sure.behind sure.within sized first (rw (wrote, size, index, is_heir, wide, b.queue_is, b.lengths_are) at first-is) x.number sure.greatest)

pub returns-in_default-clause-done : goal.returns-in_default-clause-done
returns-in_default-clause-done c t b = nobody c.from-r.ensures b c.in_default.is (search rules)

pub bounds-w-h : goal.bounds-w-h
bounds-w-h c = omega (arith, c.hand_over-heir.ensures.heir, (low c.from-r.ensures c.requires.1.1 c.in-Some.is).1)

pub bounds-w-i : goal.bounds-w-i
bounds-w-i c = omega (arith, (low c.from-r.ensures c.requires.1.1 c.in-Some.is).0)

pub bounds-w-i-2 : goal.bounds-w-i-2
bounds-w-i-2 c = omega (arith, (low c.from-r.ensures c.requires.1.1 c.in-Some.is).0)

pub bounds-w-h-2 : goal.bounds-w-h-2
bounds-w-h-2 c = omega (arith, c.hand_over-heir.ensures.heir, (low c.from-r.ensures c.requires.1.1 c.in-Some.is).1)

pub returns-clause-done : goal.returns-clause-done
returns-clause-done c t b =
    let h = c.hand_over-heir in
    somebody c.from-r.ensures b c.in-Some.is c.requires.0 (search rules) c.from-n.result c.from-i.result h.result c.from-h.result c.from-n.ensures c.from-i.ensures h.ensures.heir c.from-h.ensures
    h.new.queue h.ensures.written c.afresh-left.result c.afresh-left.ensures
