-- Lines and what they are read as, by example.
use Rattle.std.specs.Prelude.{◌≡◌, true, false, [], ◌∷◌, Ok, Err, codes}
use Rattle.money.specs.declared.currency.Residency.TheVariants.{Nonresident}
use Rattle.kinds.specs.declared.months.Ticker.TheVariants.{Arabica}
use Rattle.reader.specs.declared.fault.ReadFault.TheVariants.{UnknownMark, Misfit, OutOfTurn, Unlisted}
use Rattle.reader.specs.Cuts.{lines}
use Rattle.reader.specs.Entries.{opening, registration, trade}
use Rattle.reader.specs.Readings.{reading}

-- each line but the first stands at byte 40 of its input
pub record Examples : Type 0 where
  pub two_lines : lines (codes "DG\nEX") ≡ codes "DG\n" ∷ codes "EX" ∷ []
  pub a_book : reading false 0 (codes "BKICFH25060001060\n") ≡ Ok (opening Arabica 3 25 60 1 60)
  pub a_trade : reading true 40 (codes "TR01020123450010\n") ≡ Ok (trade 1 2 12345 10)
  pub an_account : reading true 40 (codes "AC12.345.678 / 0N\n") ≡ Ok (registration (codes "12.345.678 / 0") Nonresident)
  pub no_mark : reading true 40 (codes "tr01020123450010\n") ≡ Err (UnknownMark 40)
  pub no_digit : reading true 40 (codes "TR01o20123450010\n") ≡ Err (Misfit 44)
  pub too_short : reading true 40 (codes "TR01\n") ≡ Err (Misfit 44)
  pub cut_off : reading true 40 (codes "TR01") ≡ Err (Misfit 44)
  pub too_long : reading true 40 (codes "DG \n") ≡ Err (Misfit 42)
  pub second_book : reading true 40 (codes "BKICFH25060001060\n") ≡ Err (OutOfTurn 40)
  pub before_book : reading false 40 (codes "DG\n") ≡ Err (OutOfTurn 40)
  pub no_month : reading false 0 (codes "BKICFG25060001060\n") ≡ Err (Unlisted 0)
