-- What a book shows, and the tally of what was bought and sold.
use Rattle.std.specs.Prelude.{ℕ, ◌+◌, Bool, cond, List, [], ◌∷◌, ◌++◌, map, length, replicate, ℤ, ◌==◌}
use Rattle.money.specs.declared.currency.Currency.{Currency}
use Rattle.tally.specs.declared.rows.Account.{Account}
use Rattle.tally.specs.declared.rows.Trade.{Trade}
use Rattle.tally.specs.declared.rows.Lot.{Lot}
use Rattle.tally.specs.declared.rows.Notice.{Notice}
use Rattle.tally.specs.declared.call.Registration.{Registration}
use Rattle.tally.specs.Account.{net, position}

-- what a book is built for: the kind's size, currency, tick and delivery, the last session, and the sessions from and to which notice can be given
pub record Terms : Type 0 where
  pub size : ℕ
  pub currency : Currency
  pub tick : ℕ
  pub delivers : Bool
  pub last : ℕ
  pub opens : ℕ
  pub closes : ℕ

-- what a book shows: its accounts in number order, the open session's sheet, the lots and the notices from the oldest on,
-- the session, the last settlement price and rate, and whether it has expired
pub record View : Type 0 where
  pub accounts : List Account
  pub sheet : List Trade
  pub lots : List Lot
  pub notices : List Notice
  pub session : ℕ
  pub price : ℕ
  pub rate : ℕ
  pub expired : Bool

-- contracts that one account bought, or sold, at a price
pub record Posting : Type 0 where
  pub holder : ℕ
  pub price : ℕ
  pub contracts : ℕ

-- the tally: who is registered, all contracts bought and all sold in closed sessions, by designation and by expiry, the trades that wait for a marking,
-- and what stands; nothing in it is a balance
pub record Tally : Type 0 where
  pub parties : List Registration
  pub bought : List Posting
  pub sold : List Posting
  pub waiting : List Trade
  pub lots : List Lot
  pub notices : List Notice
  pub session : ℕ
  pub price : ℕ
  pub rate : ℕ
  pub expired : Bool

-- f of each with its number, the first one's being n
unfoldable pub numbered : {X Y : Type 0} → (ℕ → X → Y) → ℕ → List X → List Y
numbered f n [] = []
numbered f n (x ∷ xs) = f n x ∷ numbered f (n + 1) xs

-- the price of each contract of account k, in the order of the postings
unfoldable pub prices : ℕ → List Posting → List ℕ
prices k [] = []
prices k (p ∷ ps) = cond (p.holder == k) (replicate p.contracts p.price) [] ++ prices k ps

-- the two sides of a trade
abbrev pub buy : Trade → Posting
buy t = record { holder = t.buyer; price = t.price; contracts = t.contracts }

abbrev pub sell : Trade → Posting
sell t = record { holder = t.seller; price = t.price; contracts = t.contracts }

abbrev pub buys : List Trade → List Posting
buys ts = map buy ts

abbrev pub sells : List Trade → List Posting
sells ts = map sell ts

-- the contracts that account k carries: bought less sold
abbrev pub carried : Tally → ℕ → ℤ
carried t k = net (prices k t.bought) (prices k t.sold)

-- account k as the tally shows it: its total is the formula
unfoldable pub account : ℕ → Tally → ℕ → Registration → Account
account size t k p = record {
  identity = p.identity;
  residency = p.residency;
  carried = carried t k;
  bought = length (prices k (buys t.waiting));
  sold = length (prices k (sells t.waiting));
  total = position size t.price (prices k t.bought) (prices k t.sold);
}

-- the view that a tally shows
abbrev pub seen : ℕ → Tally → View
seen size t = record {
  accounts = numbered (account size t) 1 t.parties;
  sheet = t.waiting;
  lots = t.lots;
  notices = t.notices;
  session = t.session;
  price = t.price;
  rate = t.rate;
  expired = t.expired;
}
