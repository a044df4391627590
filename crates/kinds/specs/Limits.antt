-- The ranges of what a contract counts.
use Rattle.std.specs.Prelude.{ℕ, Bool, ◌&&◌, nat_le}

-- a number of units that one contract can be of
abbrev pub is_size : ℕ → Bool
is_size units = nat_le 1 units && nat_le units 100

-- a number of cents that prices can go by
abbrev pub is_tick : ℕ → Bool
is_tick cents = nat_le 1 cents

-- a quantity that a quotation can have
abbrev pub is_quantity : ℕ → Bool
is_quantity n = nat_le 1 n && nat_le n 3000
