-- One step of the search of specs/code/Ready.antt, at each case of its test. Assumes nothing.
use Prim.Native.Nat.{ℕ, suc}
use mathlib.Core.Path.{◌≡◌, refl}
use mathlib.Core.Bool.{true, false, ◌&&◌}
use mathlib.Core.List.{List}
use lib.Dec.{ltb}
use Rattle.table.specs.Table.{at}
use Rattle.table.specs.Code.Ready.{is_free, ready_number, highest_ready}

module _ (waits current : List ℕ) (n m h : ℕ) (next : m ≡ suc n) (is : h ≡ ready_number waits current n) where
  pub ready_takes : (is_free waits n && ltb h (at current n)) ≡ true →
      (at current n ≡ ready_number waits current m) × (n ≡ highest_ready waits current m)
  unfolding ready_number highest_ready
  ready_takes t = rw (next, ← is, t) (refl, refl)

  pub ready_keeps : (is_free waits n && ltb h (at current n)) ≡ false →
      (h ≡ ready_number waits current m) × (highest_ready waits current n ≡ highest_ready waits current m)
  unfolding ready_number highest_ready
  ready_keeps t = rw (next, ← is, t) (refl, refl)
