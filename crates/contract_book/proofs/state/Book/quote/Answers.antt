use Rattle.std.proofs.Common.{arith}
use Rattle.tally.specs.Questions.{questions, first_unmet}
use Rattle.contract_book.proofs.Quoting.{quotations}
use Rattle.contract_book.proofs.state.Book.quote.Goals as goal

pub returns-then-not-contains-clause-takes : goal.returns-then-not-contains-clause-takes
unfolding questions first_unmet
returns-then-not-contains-clause-takes g c = grind (arith, quotations)

pub returns-clause-takes : goal.returns-clause-takes
unfolding questions first_unmet
returns-clause-takes g c = grind (arith, quotations)
