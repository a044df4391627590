-- The worked runs compute.
use Rattle.std.proofs.Common.{arith}
use Rattle.std.proofs.Common.{refl}
use Rattle.money.specs.Nearest.{nearest}
use Rattle.money.specs.Pays.{paid_of}
use Rattle.tally.specs.Account.{net, position, above, offset, day_trade, margin}
use Rattle.tally.specs.Book.{numbered, prices, account}
use Rattle.tally.specs.Examples.{WorkedRun, WorkedDelivery, WorkedOffset, QuestionOrder}
use Rattle.tally.specs.Pages.{lines, sumℤ, converted_lines}
use Rattle.tally.specs.Questions.{first_unmet, questions, is_new, under_notice, in_lots, traded_account}
use Rattle.tally.specs.Steps.{entered, fed_marking, fed_designation, fed_expiry, turned, aged, less_lots, less_oldest_lots, less_oldest_notices}

pub worked_run : WorkedRun
unfolding nearest paid_of net position above offset day_trade margin numbered prices account lines sumℤ converted_lines first_unmet questions is_new under_notice in_lots traded_account entered fed_marking fed_expiry turned aged less_lots
worked_run = record { answers = refl; pages = refl }

pub worked_delivery : WorkedDelivery
unfolding nearest paid_of net position above offset day_trade margin numbered prices account lines sumℤ converted_lines first_unmet questions is_new under_notice in_lots traded_account entered fed_marking fed_designation turned aged less_lots less_oldest_lots less_oldest_notices
worked_delivery = record { answers = refl }

pub worked_offset : WorkedOffset
unfolding nearest paid_of net position above offset day_trade margin numbered prices account lines sumℤ converted_lines first_unmet questions is_new under_notice in_lots traded_account entered fed_marking turned aged less_lots
worked_offset = record { pages = refl }

pub question_order : QuestionOrder
unfolding questions
question_order c v = grind arith
