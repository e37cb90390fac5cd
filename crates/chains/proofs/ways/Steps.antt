-- One step of the walks of specs/Ways.antt, at each case of its tests. Assumes nothing.
use Prim.Native.Nat.{ℕ, suc, ◌≤◌, ◌<◌}
use mathlib.Core.Path.{◌≡◌}
use mathlib.Core.Bool.{true, false}
use mathlib.Core.List.{List}
use borrow.Author.Tests.{le-leb, lt-leb}
use Rattle.table.specs.Table.{at}
use Rattle.chains.specs.Marks.{marked, mark}
use Rattle.chains.specs.Ways.{thread_way, resource_way}

module _ (waits holders : List ℕ) (seen way : ℕ) where
  pub thread_none : (n t : ℕ) → n ≡ 0 → thread_way n waits holders seen way t ≡ 0
  unfolding thread_way
  thread_none n t e = rw e

  pub resource_none : (n r : ℕ) → n ≡ 0 → resource_way n waits holders seen way r ≡ 0
  unfolding resource_way
  resource_none n r e = rw e

  module _ (n m : ℕ) (left : n ≡ suc m) where
    pub thread_past : (t : ℕ) → 32 ≤ t → thread_way n waits holders seen way t ≡ 0
    unfolding thread_way
    thread_past t h = rw (left, le-leb 32 t h)

    pub thread_seen : (t : ℕ) → t < 32 → marked seen t ≡ true → thread_way n waits holders seen way t ≡ mark way t
    unfolding thread_way
    thread_seen t h s = rw (left, lt-leb 32 t h, s)

    pub thread_free : (t : ℕ) → t < 32 → marked seen t ≡ false → 16 ≤ at waits t → thread_way n waits holders seen way t ≡ mark way t
    unfolding thread_way
    thread_free t h s f = rw (left, lt-leb 32 t h, s, le-leb 16 (at waits t) f)

    pub thread_on : (t : ℕ) → t < 32 → marked seen t ≡ false → at waits t < 16 →
        thread_way n waits holders seen way t ≡ resource_way m waits holders seen (mark way t) (at waits t)
    unfolding thread_way
    thread_on t h s w = rw (left, lt-leb 32 t h, s, lt-leb 16 (at waits t) w)

    pub resource_past : (r : ℕ) → 16 ≤ r → resource_way n waits holders seen way r ≡ 0
    unfolding resource_way
    resource_past r h = rw (left, le-leb 16 r h)

    pub resource_on : (r : ℕ) → r < 16 → resource_way n waits holders seen way r ≡ thread_way m waits holders seen way (at holders r)
    unfolding resource_way
    resource_on r h = rw (left, lt-leb 16 r h)
