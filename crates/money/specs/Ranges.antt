-- The ranges of prices, rates and amounts.
use Rattle.std.specs.Prelude.{ℕ, Bool, ◌&&◌, ℤ, nat_le, unsigned_abs}

-- a number from a least to a greatest
abbrev pub is_within : ℕ → ℕ → ℕ → Bool
is_within least greatest n = nat_le least n && nat_le n greatest

-- a number of cents that is a price
abbrev pub is_price : ℕ → Bool
is_price cents = is_within 1 999999 cents

-- a number of millionths of a real that is a rate
abbrev pub is_rate : ℕ → Bool
is_rate millionths = is_within 100000 9999999 millionths

-- a number of cents that one line can owe
abbrev pub is_amount : ℤ → Bool
is_amount cents = nat_le (unsigned_abs cents) 600000000000
