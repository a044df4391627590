-- One side of the day sheet.
use Rattle.std.specs.Prelude.{ℕ, cond, List, ◌==◌}
use Rattle.tally.specs.declared.rows.Trade.{Trade}
use Rattle.tally.specs.Book.{Posting, buys, sells}
use Rattle.ledger.specs.declared.sheet.Side.{Side}
use Rattle.ledger.specs.declared.sheet.Side.TheVariants.{Bought, Sold}

-- what stands behind the last row of a sheet
abbrev pub no_trade : Trade
no_trade = record { buyer = 0; seller = 0; price = 0; contracts = 0 }

-- the postings of one side
abbrev pub on_side : Side → List Trade → List Posting
on_side Bought ts = buys ts
on_side Sold ts = sells ts

-- who a trade is of, on one side
abbrev pub party_to : Side → Trade → ℕ
party_to Bought t = t.buyer
party_to Sold t = t.seller

-- an account's contracts in one trade, on one side
abbrev pub contracts_on : ℕ → Side → Trade → ℕ
contracts_on k side t = cond (party_to side t == k) t.contracts 0
