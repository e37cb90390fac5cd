-- The way from a thread and the way from the holder of what it waits for: both end, or neither. Assumes nothing.
use Prim.Native.Nat.{ℕ, suc, ◌<◌}
use mathlib.Core.Path.{◌≡◌, ap, ◌∙◌}
use mathlib.Core.List.{List}
use native.Mathlib.Omega.{arith}
use Rattle.table.specs.Table.{at}
use Rattle.chains.specs.Ways.{here, goes_on, EndsFrom}

module _ (waits holders : List ℕ) where
  pub ends_low : {t : ℕ} → EndsFrom waits holders t → t < 32
  ends_low (_, here h w) = h
  ends_low (_, goes_on h w e) = h

  -- from t, which waits for r, the way goes on at y, who holds it
  module _ (t r y : ℕ) (waiting : r ≡ at waits t) (low : r < 16) (holder : y ≡ at holders r) where
    next : y ≡ at holders (at waits t)
    next = holder ∙ ap (at holders) waiting

    pub ends_next : EndsFrom waits holders t → EndsFrom waits holders y
    ends_next (_, here h w) = absurd (omega arith)
    ends_next (_, goes_on {k = k} h w e) = (k, rw next e)

    pub next_ends : t < 32 → EndsFrom waits holders y → EndsFrom waits holders t
    next_ends h (k, e) = (suc k, goes_on {t = t} h (omega arith) (rw next at e))
