-- `drill::printing::last_whole` meets its contract: each byte is counted in turn. Assumes nothing.
use Rattle.std.proofs.Common.{◌≡◌, ℕ, List, [], ◌∷◌, ◌++◌, refl, ap, ◌∙◌, rules}
use Rattle.std.proofs.lemmas.Fn.{fold_over, fronts, slice_gives}
use Rattle.drill.specs.Parts.{counted, last_whole}
use Rattle.drill.proofs.printing.last_whole.Goals as goal

-- one byte more
one_more : (n : ℕ) (xs : List ℕ) (b : ℕ) → last_whole n (xs ++ b ∷ []) ≡ counted (last_whole n xs) b
unfolding last_whole
one_more n [] b = refl
one_more n (x ∷ xs) b = one_more (counted n x) xs b

none_yet : (n : ℕ) → n ≡ last_whole n []
unfolding last_whole
none_yet n = refl

pub returns : goal.returns
returns c =
    let n = c.args.n in
    fold_over fronts (λ y. y.now) _ (λ xs a. a ≡ last_whole n xs) _
    (λ xs a x b f' h k. let e : b ≡ counted a x.now = search rules in (e ∙ rw (h, ← one_more n xs x.now) refl, refl))
    c.iter.result c.iter.result.rest.now _ _ (slice_gives c.iter.result) (none_yet n) c.fold.ensures.ran
    ∙ ap (last_whole n) c.iter.ensures.rest
