-- `listing::Text::number` meets its contract: the digits in front are those of a tenth. Assumes nothing.
use Rattle.std.proofs.Common.{◌∙◌, refl, ap, append_assoc, length, length-append, arith}
use Rattle.listing.proofs.Decimals.{decimal_small, decimal_large, one_more}
use Rattle.listing.proofs.Text.+number.Goals as goal

pub word-requires : goal.word-requires
word-requires t c = omega (arith, ap length (decimal_small _ c.if-n-lt10.true))

pub returns-then-n-lt10 : goal.returns-then-n-lt10
returns-then-n-lt10 t c = rw (decimal_small _ c.if-n-lt10.true) c.word.ensures

pub number-requires : goal.number-requires
number-requires t c = (omega arith, omega (arith, one_more _ c.if-n-lt10.false c.ranges.n.fits))

pub word-requires-2 : goal.word-requires-2
word-requires-2 t c = omega (arith, one_more _ c.if-n-lt10.false c.ranges.n.fits, simp length-append at (ap length c.number.ensures))

pub returns : goal.returns
returns t c = rw (decimal_large _ c.if-n-lt10.false c.ranges.n.fits) (c.word-2.ensures ∙ rw (c.number.ensures, append_assoc) refl)
