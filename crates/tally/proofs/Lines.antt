-- The nine worked lines.
use Rattle.std.proofs.Common.{arith}
use Rattle.std.proofs.Common.{◌≡◌, ℕ, Some, None, refl}
use Rattle.money.specs.Nearest.{nearest}
use Rattle.money.specs.Pays.{paid_of}
use Rattle.kinds.proofs.FiveWorked.{worked_line}
use Rattle.tally.specs.declared.refusal.Refusal.TheVariants.{Unpriced}
use Rattle.tally.specs.Book.{Terms, View}
use Rattle.tally.specs.Questions.{first_unmet, questions, verdict}
use Rattle.tally.specs.Steps.{less_lots}
use Rattle.tally.specs.Worked.{PriceAsked, WorkedLines, marked_at}

passes : (c : Terms) (v : View) (rate room : ℕ) → PriceAsked c v rate room → verdict c v (marked_at 999999 rate room) ≡ None
unfolding first_unmet questions
passes c v rate room q = rw (q.open_session, q.none_due, q.rated, q.paged) refl

refused : (c : Terms) (v : View) (rate room : ℕ) → PriceAsked c v rate room → verdict c v (marked_at 1000000 rate room) ≡ Some Unpriced
unfolding first_unmet questions
refused c v rate room q = rw (q.open_session, q.none_due) refl

pub worked_lines : WorkedLines
unfolding nearest paid_of less_lots
worked_lines = grind (arith, worked_line, passes, refused)
