-- Lines of the bench listing, one with nobody running, the longest columns, the header and the last lines. Assumes nothing.
use mathlib.Core.Path.{◌≡◌, refl}
use mathlib.Core.List.{[], ◌∷◌}
use Rattle.listing.specs.Text.{bytes, digits, decimal, dash_or, header, line, tail_line, stop_line}

pub examples :
    (line 1 0 1 1 ∷ line 1 0 1 1 ∷ line 12 10 2 0 ∷ line 6 8 32 0 ∷ line 1000 255 255 255 ∷ header ∷ tail_line 3 ∷ stop_line 15 ∷ [])
    ≡ ((49 ∷ 32 ∷ 48 ∷ 32 ∷ 49 ∷ 32 ∷ 49 ∷ 10 ∷ []) ∷ bytes "1 0 1 1\n" ∷ bytes "12 10 2 0\n" ∷ bytes "6 8 - 0\n"
    ∷ bytes "1000 255 255 255\n" ∷ bytes "n code run count\n" ∷ bytes "tail 3\n" ∷ bytes "stop 15\n" ∷ [])
unfolding digits decimal dash_or
examples = refl
