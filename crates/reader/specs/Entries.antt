-- What a record says, apart from where it stands.
use Rattle.std.specs.Prelude.{ℕ, List}
use Rattle.money.specs.declared.currency.Residency.{Residency}
use Rattle.kinds.specs.declared.months.Ticker.{Ticker}

-- what one record says, over what a field of digits stands for
pub data Entry (N : Type 0) : Type 0 where
  -- a book is opened: ticker, month 1 to 12, year, sessions, first and last session of the window
  opening : Ticker → ℕ → N → N → N → N → Entry N
  -- an account is registered: identity, residency
  registration : List ℕ → Residency → Entry N
  -- a trade: buyer, seller, price, contracts
  trade : N → N → N → N → Entry N
  -- a quotation of the index: price, quantity
  quotation : N → N → Entry N
  -- a notice of delivery: seller, contracts
  notice : N → N → Entry N
  -- a session is marked: price, rate
  marking : N → N → Entry N
  -- who delivers to whom is designated
  designation : Entry N
  -- the contract expires
  expiry : Entry N

-- the same record with each field of digits as a number
abbrev pub valued : (List ℕ → ℕ) → Entry (List ℕ) → Entry ℕ
valued number (opening ticker month year sessions opens closes) = opening ticker month (number year) (number sessions) (number opens) (number closes)
valued number (registration identity residency) = registration identity residency
valued number (trade buyer seller price contracts) = trade (number buyer) (number seller) (number price) (number contracts)
valued number (quotation price quantity) = quotation (number price) (number quantity)
valued number (notice seller contracts) = notice (number seller) (number contracts)
valued number (marking price rate) = marking (number price) (number rate)
valued number designation = designation
valued number expiry = expiry
