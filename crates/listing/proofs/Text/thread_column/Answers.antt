-- `listing::Text::thread_column` meets its contract where nobody runs: `-` in place of a number. Assumes nothing.
use Rattle.std.proofs.Common.{◌≡◌, [], ◌∷◌, ◌++◌, ◌∙◌, refl, ap, length, length-append, arith}
use Rattle.listing.specs.Text.{space}
use Rattle.listing.proofs.Decimals.{dash}
use Rattle.listing.proofs.Text.thread_column.Goals as goal

pub returns-then-nobody : goal.returns-then-nobody
returns-then-nobody c =
    let written : c.word-then-nobody.result ≡ c.args.self ++ space ++ 45 ∷ [] = c.word-then-nobody.ensures ∙ rw c.word.ensures refl in
    (written ∙ rw (dash c.args.x c.if-nobody.true) refl, omega (arith, simp length-append at (ap length written)))
