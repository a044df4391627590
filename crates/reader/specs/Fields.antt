-- Fields of digits.
use Rattle.std.specs.Prelude.{ℕ, Bool, cond, ◌&&◌, List, length, nat_le}
use Rattle.std.specs.List.{list_all}
use Rattle.std.specs.Str.Parse.{digits_value}

-- a byte 0 to 9
abbrev pub is_digit : ℕ → Bool
is_digit b = nat_le 48 b && nat_le b 57

-- nothing but digits
abbrev pub all_digits : List ℕ → Bool
all_digits bytes = list_all is_digit bytes

-- the number that a field writes: the value of at most nine digits, and 0 of any other bytes
unfoldable pub number_of : List ℕ → ℕ
number_of bytes = cond (nat_le (length bytes) 9 && all_digits bytes) (digits_value 10 bytes) 0
