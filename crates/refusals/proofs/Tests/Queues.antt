-- What the graph of a sound table tells of the refusals by the queues. Assumes nothing.
use Prim.Native.Nat.{ℕ, ◌<◌}
use mathlib.Core.Path.{◌≡◌, sym, ◌∙◌}
use mathlib.Core.Bool.{true}
use mathlib.Core.List.{List}
use native.Mathlib.Omega.{arith}
use Rattle.std.specs.Prelude.{length, nat_eq}
use Rattle.std.specs.List.{list_any}
use Rattle.std.proofs.lemmas.Bool.{eqb-true, eq-eqb}
use Rattle.std.proofs.lemmas.List.{get_or_default}
use Rattle.std.proofs.lemmas.List.Folds.{Any-from_list_any, list_any_at}
use Rattle.table.specs.declared.Table.{Table}
use Rattle.table.specs.Table.{Holds}
use Rattle.table.specs.Code.Tracks.{Known}
use Rattle.table.proofs.Sound.Read.{sound_good, holder_holds}
use Rattle.table.proofs.Tests.Reflect.{same_test}
use Rattle.table.proofs.Tests.Computed.{holds_holder}
use Rattle.table.proofs.Values.Values.{Good, resource_low}
use Rattle.chains.specs.Marks.{marked}
use Rattle.chains.specs.Ways.{resource_way}
use Rattle.refusals.specs.Refusals.{leads, holds_any}
use Rattle.refusals.proofs.Tests.Tells.{tells_holds_any}
use Rattle.refusals.proofs.Tests.Leads.{leads_is}

module _ {t : Table} {waits holders owns currents : List ℕ} (known : Known t waits holders owns currents) where
  good : Good t
  good = sound_good t known.shape known.sound

  -- a thread is on the way from a resource where a chain leads to it
  pub marked_leads : (r x : ℕ) → x < 32 → marked (resource_way 64 waits holders 0 0 r) x ≡ leads t r x
  marked_leads = leads_is t good known.tracks

  -- a thread is among the holders where it holds some resource
  pub found_holds : (x : ℕ) → x < 32 → length holders ≡ 16 → list_any (λ y. nat_eq y x) holders ≡ holds_any t x
  found_holds x low size = same_test (there, back) (tells_holds_any t good x low)
    where
      there : list_any (λ y. nat_eq y x) holders ≡ true → (cs : ℕ) × Holds t x cs
      there e =
          let w = Any-from_list_any (λ y. nat_eq y x) holders e in
          let here = sym (known.tracks.holders_right w.0 (omega (arith, w.2, size))) ∙ get_or_default holders w.0 0 w.1 w.2 ∙ w.3 ∙ eqb-true w.1 x w.4 in
          (w.0, holder_holds t good x w.0 low here)

      back : (cs : ℕ) × Holds t x cs → list_any (λ y. nat_eq y x) holders ≡ true
      back w =
          let l = resource_low t good x w.0 w.1.0 in
          list_any_at (λ y. nat_eq y x) holders w.0 0 (rw size l) (eq-eqb _ x (known.tracks.holders_right w.0 l ∙ holds_holder t x w.0 w.1))
