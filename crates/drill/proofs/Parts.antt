-- What a part of the input leaves over is carried on: a part and then the rest are the whole. Assumes nothing.
use Prim.Native.Nat.{ℕ, ◌+◌, ◌-◌, ◌≤◌, ◌<◌}
use mathlib.Core.Path.{◌≡◌, refl, sym, ap, ◌∙◌}
use mathlib.Core.List.{List, [], ◌∷◌, ◌++◌, append_assoc, append-nil}
use native.Mathlib.Numerals.{add-one}
use native.Mathlib.Decide.{dec_lt}
use native.Mathlib.Omega.{arith}
use lib.ListN.{length, take, drop, get_or, length-take, length-drop}
use lib.Seq.{take-suc, length-take-le, take-take, take-add}
use Rattle.drill.specs.declared.Bench.{Bench}
use Rattle.drill.specs.declared.Part.{Part}
use Rattle.drill.specs.Bytes.{fed, said, bytes_of, after, out}
use Rattle.drill.specs.Parts.{Drills, Prints}

pub after_append : (s : Bench) (xs ys : List ℕ) → after s (xs ++ ys) ≡ after (after s xs) ys
unfolding after
after_append s [] ys = refl
after_append s (b ∷ xs) ys = after_append (fed s b) xs ys

pub out_append : (s : Bench) (xs ys : List ℕ) → out s (xs ++ ys) ≡ out s xs ++ out (after s xs) ys
unfolding after out
out_append s [] ys = refl
out_append s (b ∷ xs) ys = ap (λ (r : List ℕ). bytes_of (said s b) ++ r) (out_append (fed s b) xs ys) ∙ sym (append_assoc (bytes_of (said s b)) (out (fed s b) xs) (out (after (fed s b) xs) ys))

-- one byte, as a part
one_after : (s : Bench) (b : ℕ) → after s (b ∷ []) ≡ fed s b
unfolding after
one_after s b = refl

one_out : (s : Bench) (b : ℕ) → out s (b ∷ []) ≡ bytes_of (said s b)
unfolding out
one_out s b = append-nil (bytes_of (said s b))

-- so far: the lines of the first `used` bytes stand in the first `len` of the room, and the bench is the one after them
pub record SoFar (s : Bench) (input room : List ℕ) (now : Bench) (used len : ℕ) : Type 0 where
  pub lines : take len room ≡ out s (take used input)
  pub carried : now ≡ after s (take used input)

pub none_yet : (s : Bench) (input room : List ℕ) → SoFar s input room s 0 0
unfolding after out
none_yet s input room = record { lines = refl; carried = refl }

-- one turn: the next byte goes in, and behind the lines so far is what it completes
pub turn : {s now r : Bench} {input room room' line : List ℕ} {used len len' : ℕ} → SoFar s input room now used len → used < length input
    → r ≡ fed now (get_or input used 0) → bytes_of (said now (get_or input used 0)) ≡ line → take len' room' ≡ take len room ++ line
    → SoFar s input room' r (used + 1) len'
turn {s} {now} {input = input} {used = used} k h f e l =
    let b = get_or input used 0 in
    let sofar = take used input in
    let more : take (used + 1) input ≡ sofar ++ (b ∷ []) = rw add-one (take-suc input used 0 h) in
    record {
      lines = l ∙ rw (k.lines, ← e, more, out_append s sofar (b ∷ []), one_out (after s sofar) b, k.carried);
      carried = f ∙ rw (k.carried, more, after_append s sofar (b ∷ []), one_after (after s sofar) b);
    }

-- no bytes give no lines
none_out : (s : Bench) (input : List ℕ) (u : ℕ) → u ≡ 0 → length (out s (take u input)) ≡ 0
unfolding out
none_out s input u e = rw e

-- Where there is room for a line, some of the input goes in.
pub goes_on : {s now : Bench} {input room : List ℕ} {r : Part} → Drills s input room now r → 48 ≤ length room → 0 < length input → 0 < r.used
goes_on {s} {input = input} {room = room} {r = r} d h k = go (dec_lt 0 r.used)
  where
    go : Dec (0 < r.used) → 0 < r.used
    go (yes l) = l
    go (no l) =
        let none : r.used ≡ 0 = omega (arith, l) in
        let empty : r.len ≡ 0 = sym (length-take-le r.len room d.fits) ∙ ap length d.lines ∙ none_out s input r.used none in
        absurd (omega (arith, none, k, d.all (omega (arith, empty, h))))

-- nothing is used yet
pub start_after : (s : Bench) → s ≡ after s []
unfolding after
start_after s = refl

-- A part goes on from where it stopped: it takes some of what is left, and the bench is the one after all that is used.
pub goes_on_from : (s : Bench) (input : List ℕ) (used : ℕ) {now r : Bench} {more : ℕ} → used < length input → now ≡ after s (take used input)
    → Prints now (take (length input - used) (drop used input)) more r
    → (used + more ≤ length input) × (0 < more) × (r ≡ after s (take (used + more) input))
goes_on_from s input used {now} {r} {more} h e p =
    let long : length (take (length input - used) (drop used input)) ≡ length input - used = omega (arith, length-take (length input - used) (drop used input), length-drop used input) in
    let within : more ≤ length input - used = omega (arith, long, p.within) in
    (omega (arith, within), p.some (omega (arith, long)), p.carried ∙ rw (take-take more (length input - used) (drop used input) within, e, take-add used more input, after_append s (take used input) (take more (drop used input))))
