-- What a field of digits is worth. Assumes nothing.
use Rattle.std.proofs.Common.{◌≡◌, ℕ, ◌-◌, ◌^◌, ◌<◌, ◌≤◌, true, false, List, [], ◌∷◌, length, get_or, take, refl, arith, length-take}
use native.Mathlib.Nat.{pow-le-pow_right}
use Rattle.std.specs.Char.{digit_value}
use Rattle.std.specs.Str.Parse.{AllDigits, digits_value}
use Rattle.std.proofs.lemmas.Int.Digits.{digits_value-lt}
use Rattle.std.proofs.lemmas.List.Folds.{list_all_at}
use Rattle.std.proofs.lemmas.Bool.Decides.{nat_tests}
use Rattle.reader.specs.Fields.{all_digits, is_digit, number_of}

pub too_long : (bytes : List ℕ) → 9 < length bytes → number_of bytes ≡ 0
unfolding number_of
too_long bytes long = grind (arith, nat_tests)

-- a byte that is no digit
pub no_digit : (bytes : List ℕ) (i : ℕ) → i < length bytes → is_digit (get_or bytes i 0) ≡ false → number_of bytes ≡ 0
unfolding number_of
no_digit bytes i h not =
    let bad = list_all_at is_digit bytes i 0 h not in
    grind (arith, nat_tests)

digits_only : (bytes : List ℕ) → AllDigits 10 bytes → all_digits bytes ≡ true
digits_only [] all = refl
digits_only (b ∷ bs) all =
    let rest = digits_only bs all.1 in
    let first = all.0 in
    grind (arith, nat_tests)

-- what a digit is worth
pub worth : (b : ℕ) → is_digit b ≡ true → (digit_value b ≡ b - 48) × (b - 48 < 10)
worth b is = (grind (arith, nat_tests), grind (arith, nat_tests))

-- all bytes are digits
pub all_read : (bytes : List ℕ) → length bytes ≤ 9 → AllDigits 10 bytes → digits_value 10 bytes ≡ number_of bytes
unfolding number_of
all_read bytes short all =
    let good = digits_only bytes all in
    grind (arith, nat_tests)

-- where a digit is left of nine, what is read leaves room for it
pub room : (bytes : List ℕ) (i : ℕ) → length bytes ≤ 9 → i < length bytes → AllDigits 10 (take i bytes) → digits_value 10 (take i bytes) < 100000000
room bytes i short here all =
    let few : length (take i bytes) ≤ 8 = omega (arith, length-take i bytes) in
    let top : 10 ^ length (take i bytes) ≤ 10 ^ 8 = pow-le-pow_right (omega arith) few in
    omega (arith, digits_value-lt 10 (take i bytes) all)
