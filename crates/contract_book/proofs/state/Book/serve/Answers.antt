use Rattle.std.proofs.lemmas.Grind.{common_steps}
use Rattle.std.proofs.Common.{arith}
use Rattle.contract_book.proofs.Paying.{rows_are, rows_fit}
use Rattle.contract_book.proofs.state.Book.serve.Goals as goal

pub returns-clause-inside : goal.returns-clause-inside
returns-clause-inside g c = grind (arith, common_steps, rows_are, rows_fit)
