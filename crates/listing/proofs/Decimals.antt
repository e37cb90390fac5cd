-- The decimal digits of a number are those that the library prints, and what a thread is printed as. Assumes nothing.
use Rattle.std.proofs.Common.{◌≡◌, ℕ, ◌+◌, ◌/◌, ◌%◌, ◌^◌, ◌<◌, ◌≤◌, suc, [], ◌∷◌, ◌++◌, length, length-append, ap, arith, rules}
use native.Mathlib.Numerals.{unary_clauses}
use borrow.Author.Tests.{eq-eqb, ne_eqb}
use Rattle.std.specs.Fmt as printing
use Rattle.std.proofs.lemmas.Fmt.{AppendsLastDigit, decimal_from_appends, decimal_digit, decimal_step, length-decimal-le, length-decimal-le_succ}
use Rattle.listing.specs.Text.{digits, decimal, dash_or}

-- the front of a number, and then its last digit
own : AppendsLastDigit digits
unfolding digits
own = search rules

-- the library's digits of a number of 64 bits are its own
pub printed : (n : ℕ) → n < 2 ^ 64 → decimal n ≡ printing.decimal n
unfolding decimal
printed n h = decimal_from_appends digits own (suc n) n h (simp unary_clauses at (length-decimal-le_succ n h))

-- so a digit is its own, all digits but the last are those of a tenth, and there are at most 20
pub decimal_small : (n : ℕ) → n < 10 → decimal n ≡ (48 + n % 10) ∷ []
decimal_small n h = let e : n % 10 ≡ n = omega arith in rw (printed n (omega arith), e) (decimal_digit n h)

pub decimal_large : (n : ℕ) → 10 ≤ n → n < 2 ^ 64 → decimal n ≡ decimal (n / 10) ++ (48 + n % 10) ∷ []
decimal_large n l h = rw (printed n h, printed (n / 10) (omega arith)) (decimal_step n l h)

pub one_more : (n : ℕ) → 10 ≤ n → n < 2 ^ 64 → length (decimal n) ≡ length (decimal (n / 10)) + 1
one_more n l h = simp length-append at (ap length (decimal_large n l h))

pub short_number : (n : ℕ) → n < 2 ^ 64 → length (decimal n) ≤ 20
short_number n h = rw (printed n h) (length-decimal-le 20 n (omega arith) (omega arith) h)

pub short_byte : (x : ℕ) → x < 256 → length (decimal x) ≤ 3
short_byte x h = rw (printed x (omega arith)) (length-decimal-le 3 x (omega arith) (omega arith) (omega arith))

-- nobody, and somebody
pub dash : (x : ℕ) → x ≡ 32 → dash_or x ≡ 45 ∷ []
unfolding dash_or
dash x e = rw (eq-eqb x 32 e)

pub no_dash : (x : ℕ) → (x ≡ 32 → ⊥) → dash_or x ≡ decimal x
unfolding dash_or
no_dash x e = rw (ne_eqb x 32 e)
