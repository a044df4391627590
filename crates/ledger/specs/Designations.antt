-- The rows of the two accounts that a designation pairs.
use Rattle.std.specs.Prelude.{ℤ, ◌+ℤ◌}
use Rattle.tally.specs.declared.rows.Account.{Account}

-- an account that carries so many contracts more
abbrev pub carrying : Account → ℤ → Account
carrying a z = record { identity = a.identity; residency = a.residency; carried = a.carried +ℤ z; bought = a.bought; sold = a.sold; total = a.total }
