-- Which records open a book, and on which terms.
use Rattle.std.specs.Prelude.{◌≡◌, ℕ, Bool, true, false, cond, Some, None, Ok, Err, Option, Result}
use Rattle.kinds.specs.Tickers.{row}
use Rattle.kinds.specs.declared.tickers.Ending.{Ending}
use Rattle.kinds.specs.declared.tickers.Ending.TheVariants.{Delivery, WeightedAverage, LastFive}
use Rattle.reader.specs.Entries.{Entry, opening, registration, trade, quotation, notice, marking, designation, expiry}
use Rattle.tally.specs.Book.{Terms}
use Rattle.tally.specs.Questions.{is_buildable}
use Rattle.tally.specs.declared.refusal.Refusal.TheVariants.{Unbuildable}
use Rattle.desk.specs.declared.faults.Fault.{Fault}
use Rattle.desk.specs.declared.faults.Fault.TheVariants.{Read, Book}
use Rattle.desk.specs.declared.openings.Opening.{Opening}
use Rattle.desk.specs.Calls.{Line}

-- whether a contract that ends so delivers
abbrev pub is_delivery : Ending → Bool
is_delivery Delivery = true
is_delivery WeightedAverage = false
is_delivery LastFive = false

-- the terms of a book: the ticker's, with sessions and window as the record says
abbrev pub terms_for : Opening → Terms
terms_for o = record {
  size = (row o.ticker).size;
  currency = (row o.ticker).currency;
  tick = (row o.ticker).tick;
  delivers = is_delivery (row o.ticker).ending;
  last = o.sessions.last;
  opens = o.sessions.opens;
  closes = o.sessions.closes;
}

-- its terms can be had
abbrev pub IsBuildable : Opening → Type 0
IsBuildable o = is_buildable (terms_for o) ≡ true

-- a book is opened where it can be built
abbrev pub opened_if : Opening → Result (Option Opening) Fault
opened_if o = cond (is_buildable (terms_for o)) (Ok (Some o)) (Err (Book Unbuildable))

-- before a book is open only an opening does anything
abbrev pub opening_of : Entry ℕ → Result (Option Opening) Fault
opening_of (opening ticker month year sessions opens closes) = opened_if (record { ticker = ticker; sessions = record { last = sessions; opens = opens; closes = closes } })
opening_of (registration identity who) = Ok None
opening_of (trade buyer seller price contracts) = Ok None
opening_of (quotation price quantity) = Ok None
opening_of (notice seller contracts) = Ok None
opening_of (marking price rate) = Ok None
opening_of designation = Ok None
opening_of expiry = Ok None

-- what is said to a line before a book is open
abbrev pub opening_to : Line → Result (Option Opening) Fault
opening_to (Ok entry) = opening_of entry
opening_to (Err fault) = Err (Read fault)
