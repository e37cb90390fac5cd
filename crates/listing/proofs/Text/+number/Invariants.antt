-- `listing::Text::number` calls itself at a tenth of n, so its measure is n. Assumes nothing.
use Rattle.listing.proofs.Text.+number.Given as goal

abbrev pub decreases-number : goal.decreases-number
decreases-number l = l.n
