-- What a line says leaves nothing free: two texts that say the same are the same, room and all. Assumes nothing.
use Rattle.std.proofs.Common.{◌≡◌, ℕ, List, ◌++◌, sym, ap, ◌∙◌, length, drop, arith, take-append-drop, length-take-le}
use Rattle.listing.specs.declared.Text.TheInside.{Inside}
use Rattle.listing.specs.declared.Text.TheView.{view, invariant}

pub only : (a b : Inside) (s : List ℕ) → invariant a → invariant b → view a ≡ s → view b ≡ s → a ≡ b
only a b s h k p q =
    let same : view a ≡ view b = p ∙ sym q in
    let len : a.len ≡ b.len = omega (arith, ap length same, length-take-le a.len a.bytes (omega arith), length-take-le b.len b.bytes (omega arith)) in
    let bytes : a.bytes ≡ b.bytes =
    sym (take-append-drop a.len a.bytes) ∙ ap (λ x. x ++ drop a.len a.bytes) same ∙ rw (h.2, len, ← k.2) (take-append-drop b.len b.bytes) in
    λ i. record { bytes = bytes i; len = len i }
