-- The limits of an account.
use Rattle.std.specs.Prelude.{◌≤◌, unsigned_abs}
use Rattle.tally.specs.declared.rows.Account.{Account}

-- an account within the limits of what it carries, and of what it buys and sells in a day
abbrev pub InLimits : Account → Type 0
InLimits a = (unsigned_abs a.carried ≤ 3000) × (a.bought ≤ 3000) × (a.sold ≤ 3000)

-- and with a total that leaves room for more
abbrev pub AccountIn : Account → Type 0
AccountIn a = InLimits a × (unsigned_abs a.total ≤ 1000000000000000)
