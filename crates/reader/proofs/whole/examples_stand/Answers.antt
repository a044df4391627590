use Rattle.std.proofs.Common.{refl}
use Rattle.reader.specs.Cuts.{lines}
use Rattle.reader.specs.Examples.{Examples}
use Rattle.reader.specs.Readings.{reading, spelling}
use Rattle.reader.proofs.whole.examples_stand.Goals as goal

examples : Examples
unfolding lines reading spelling
examples =
    record {
      two_lines = refl;
      a_book = refl;
      a_trade = refl;
      an_account = refl;
      no_mark = refl;
      no_digit = refl;
      too_short = refl;
      cut_off = refl;
      too_long = refl;
      second_book = refl;
      before_book = refl;
      no_month = refl;
    }

pub returns : goal.returns
returns c = record { law = examples }
