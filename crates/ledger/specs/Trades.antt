-- What a trade is asked, and the rows of its two accounts.
use Rattle.std.specs.Prelude.{◌+◌, Bool, not, ◌&&◌, ℤ, pos, ◌+ℤ◌, ◌-ℤ◌, ◌==◌, nat_le}
use Rattle.tally.specs.declared.rows.Trade.{Trade}
use Rattle.tally.specs.Book.{View}
use Rattle.tally.specs.Questions.{at_most_3000, find, net_of, registered}

-- both sides are registered, and two accounts
abbrev pub are_parties : View → Trade → Bool
are_parties v t = registered v t.buyer && (registered v t.seller && not (t.buyer == t.seller))

-- what the buyer and the seller would have after the trade
abbrev pub buyer_net : View → Trade → ℤ
buyer_net v t = net_of (find v t.buyer) +ℤ pos t.contracts

abbrev pub seller_net : View → Trade → ℤ
seller_net v t = net_of (find v t.seller) -ℤ pos t.contracts

-- no more than 3,000 contracts bought or sold in a day, and net
abbrev pub keeps_day_limits : View → Trade → Bool
keeps_day_limits v t = nat_le ((find v t.buyer).bought + t.contracts) 3000 && nat_le ((find v t.seller).sold + t.contracts) 3000

abbrev pub keeps_limits : View → Trade → Bool
keeps_limits v t = at_most_3000 (buyer_net v t) && (at_most_3000 (seller_net v t) && keeps_day_limits v t)
