-- `release::heir::follower` meets its contract. Assumes nothing.
use mathlib.Core.Path.{◌∙◌}
use native.Mathlib.Omega.{arith}
use Rattle.release.proofs.heir.Found.{named_low, found}
use Rattle.release.proofs.heir.follower.Goals as goal

-- the resource of an accepted V is below 16
pub returns-in_err-get : goal.returns-in_err-get
returns-in_err-get c t waits holders owns e k z q l kind named = absurd (omega (arith, c.in_err-get.ensures.lookup.3, named_low t e k z kind))

pub returns : goal.returns
returns c t waits holders owns e k z q l kind named =
    let row = c.in_ok-get-2.ensures.lookup.0 in
    let next = c.heir_place.ensures in
    found t e k z kind c.heir_place.result q l named c.from-r.ensures (c.from-n.ensures ∙ c.in_ok-get.ensures.lookup.3.1 0) row.2 next.waiter next.number next.highest
