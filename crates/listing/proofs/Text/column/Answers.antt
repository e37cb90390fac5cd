-- `listing::Text::column` meets its contract: a byte has at most three digits. Assumes nothing.
use Rattle.std.proofs.Common.{◌≡◌, ◌++◌, ◌∙◌, refl, ap, length, length-append, arith}
use Rattle.listing.specs.Text.{decimal, space}
use Rattle.listing.proofs.Decimals.{short_byte}
use Rattle.listing.proofs.Text.column.Goals as goal

pub number-requires : goal.number-requires
number-requires c = omega (arith, short_byte c.from.result (omega arith), simp length-append at (ap length c.word.ensures))

pub returns : goal.returns
returns c =
    let written : c.number.result ≡ c.args.self ++ space ++ decimal c.args.x = c.number.ensures ∙ rw (c.word.ensures, c.from.ensures) refl in
    (written, omega (arith, short_byte c.args.x (omega arith), simp length-append at (ap length written)))
