-- The places of `tabulate`. Assumes nothing.
use Prim.Native.Nat.{ℕ, zero, suc, ◌+◌, ◌<◌}
use mathlib.Core.Path.{◌≡◌, refl, ap, ◌∙◌}
use mathlib.Core.List.{[], ◌∷◌}
use native.Mathlib.Decide.{dec_lt}
use native.Mathlib.Omega.{arith}
use lib.ListN.{length, length-append, get_or-append}
use Rattle.table.specs.Table.{at}
use Rattle.events.specs.Events.{tabulate}
use Rattle.events.proofs.Queues.Splice.{at_past}

-- there are n of them
pub tabulate_length : (n : ℕ) (f : ℕ → ℕ) → length (tabulate n f) ≡ n
unfolding tabulate
tabulate_length zero f = refl
tabulate_length (suc n) f = length-append (tabulate n f) (f n ∷ []) ∙ omega (arith, tabulate_length n f)

-- at place i stands f i
pub tabulate_at : (n : ℕ) (f : ℕ → ℕ) (i : ℕ) → i < n → at (tabulate n f) i ≡ f i
unfolding tabulate
tabulate_at zero f i h = absurd (omega arith)
tabulate_at (suc n) f i h = go (dec_lt i n) (tabulate_at n f i)
  where
    go : Dec (i < n) → (i < n → at (tabulate n f) i ≡ f i) → at (tabulate (suc n) f) i ≡ f i
    go (yes l) ih = get_or-append (tabulate n f) (f n ∷ []) 0 i (omega (arith, tabulate_length n f)) ∙ ih l
    go (no g) ih = let e : i ≡ n + 0 = omega arith in let d : n ≡ i = omega arith in ap (at (tabulate (suc n) f)) e ∙ at_past (tabulate n f) (f n ∷ []) n 0 (tabulate_length n f) ∙ ap f d
