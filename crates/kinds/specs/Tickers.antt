-- The table of the tickers.
use Rattle.std.specs.Prelude.{ℕ, List, codes}
use Rattle.money.specs.declared.currency.Currency.{Currency}
use Rattle.money.specs.declared.currency.Currency.TheVariants.{Real, Dollar}
use Rattle.kinds.specs.declared.months.Ticker.{Ticker}
use Rattle.kinds.specs.declared.months.Ticker.TheVariants.{Arabica, MiniArabica, MiniCattle}
use Rattle.kinds.specs.declared.tickers.Ending.{Ending}
use Rattle.kinds.specs.declared.tickers.Ending.TheVariants.{Delivery, WeightedAverage, LastFive}

-- what is fixed of a contract by its ticker
pub record Row : Type 0 where
  -- the three letters
  pub code : List ℕ
  -- how many units one contract is of
  pub size : ℕ
  -- what prices are counted in
  pub currency : Currency
  -- the step of the prices, in cents
  pub tick : ℕ
  -- how it ends
  pub ending : Ending
  -- the month letters that it lists
  pub months : List ℕ

-- the table: one row a ticker
abbrev pub row : Ticker → Row
row Arabica = record { code = codes "ICF"; size = 100; currency = Dollar; tick = 5; ending = Delivery; months = codes "HKNUZ" }
row MiniArabica = record { code = codes "WCF"; size = 10; currency = Dollar; tick = 5; ending = WeightedAverage; months = codes "HKNUZ" }
row MiniCattle = record { code = codes "WBG"; size = 33; currency = Real; tick = 1; ending = LastFive; months = codes "FGHJKMNQUVXZ" }
