-- `listing::Text::word` meets its contract: what is written follows the text, and behind it are the last of the zeros. Assumes nothing.
use Rattle.std.proofs.Common.{◌≡◌, ℕ, List, ◌+◌, ◌-◌, ◌∙◌, sym, refl, ap, length, drop, replicate, arith, length-take-le, rules}
use Rattle.std.proofs.Math.Seq.{drop-drop}
use Rattle.std.proofs.lemmas.List.{drop-replicate}
use Rattle.std.proofs.lemmas.Slice.{take-put_mid, drop-put_mid}
use Rattle.listing.proofs.Text.word.Goals as goal

fewer_zeros : (a b : ℕ) (xs : List ℕ) → drop a xs ≡ replicate (48 - a) 0 → drop (a + b) xs ≡ replicate (48 - (a + b)) 0
fewer_zeros a b xs h =
    let n : 48 - a - b ≡ 48 - (a + b) = omega arith in
    sym (drop-drop b a xs) ∙ rw (h, drop-replicate, n) refl

pub invariant_of-self : goal.invariant_of-self
invariant_of-self c =
    let len = c.self.inside.len in
    let bytes = c.self.inside.bytes in
    let end = len + length c.args.s.now in
    let before : length c.args.self ≡ len = omega (arith, ap length c.self.view_is, length-take-le len bytes (omega arith)) in
    let written : length c.copy_from_slice.new.self ≡ end - len = omega (arith, ap length c.copy_from_slice.ensures.after) in
    let behind = drop-put_mid len (end - len) bytes c.copy_from_slice.new.self end (omega arith) (omega arith) written in
    (omega arith, search rules, behind ∙ fewer_zeros len (length c.args.s.now) bytes c.self.invariant.2)

pub returns : goal.returns
returns c =
    let len = c.self.inside.len in
    let bytes = c.self.inside.bytes in
    let end = len + length c.args.s.now in
    let written : end ≡ len + length c.copy_from_slice.new.self = omega (arith, ap length c.copy_from_slice.ensures.after) in
    take-put_mid len (end - len) bytes _ end written (omega arith) ∙ rw (c.self.view_is, c.copy_from_slice.ensures.after) refl
