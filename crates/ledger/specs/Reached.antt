-- The views that some run of calls leads to.
use Rattle.std.specs.Prelude.{◌≡◌, ℕ, ◌≤◌, Bool, List}
use Rattle.std.specs.List.{AllByRecursion}
use Rattle.money.specs.declared.currency.Currency.{Currency}
use Rattle.tally.specs.declared.rows.Account.{Account}
use Rattle.tally.specs.declared.rows.Trade.{Trade}
use Rattle.tally.specs.declared.rows.Lot.{Lot}
use Rattle.tally.specs.declared.rows.Notice.{Notice}
use Rattle.tally.specs.Book.{Terms, View}
use Rattle.tally.specs.Bounds.{FinalPriced}
use Rattle.tally.specs.Events.{Event}
use Rattle.tally.specs.Law.{Buildable}
use Rattle.tally.specs.Runs.{shown}

-- some run of calls on terms that can be built on leads to this view
pub record Reached (c : Terms) (v : View) : Type 0 where
  pub buildable : Buildable c
  pub ticked : 1 ≤ c.tick
  pub calls : List Event
  pub priced : AllByRecursion FinalPriced calls
  pub shows : v ≡ shown c calls

-- a view by its parts
abbrev pub viewed : List Account → List Trade → List Lot → List Notice → ℕ → ℕ → ℕ → Bool → View
viewed accounts sheet lots notices session price rate expired = record {
  accounts = accounts;
  sheet = sheet;
  lots = lots;
  notices = notices;
  session = session;
  price = price;
  rate = rate;
  expired = expired;
}

-- terms by their parts
abbrev pub built_on : ℕ → Currency → ℕ → Bool → ℕ → ℕ → ℕ → Terms
built_on size currency tick delivers last opens closes = record {
  size = size;
  currency = currency;
  tick = tick;
  delivers = delivers;
  last = last;
  opens = opens;
  closes = closes;
}
