-- What the test finds is what the definition of a sound table computes. Assumes nothing.
use mathlib.Core.Path.{◌≡◌, sym}
use mathlib.Core.Bool.{true, false, false≢true}
use mathlib.Core.List.{List}
use Prim.Native.Nat.{ℕ}
use Rattle.table.specs.declared.Table.{Table}
use Rattle.table.specs.Sound.{Sound}
use Rattle.table.specs.Compute.{is_sound}
use Rattle.table.specs.Code.Shape.{Shape}
use Rattle.table.specs.Code.Tracks.{Known}
use Rattle.table.proofs.Tests.Reflect.{same_test}
use Rattle.table.proofs.Tests.Decided.{tells_sound}

pub found_sound : (t : Table) {waits holders owns currents : List ℕ} → Known t waits holders owns currents → is_sound t ≡ true
found_sound t k = (tells_sound t k.shape).1 k.sound

pub found_unsound : (t : Table) → Shape t → ¬ Sound t → is_sound t ≡ false
found_unsound t shape n = sym (same_test ((λ e. absurd (false≢true e)), λ s. absurd (n s)) (tells_sound t shape))
