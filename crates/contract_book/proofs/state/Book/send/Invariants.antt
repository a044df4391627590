use Rattle.std.proofs.Common.{take}
use Rattle.contract_book.specs.Books.{stand}
use Rattle.contract_book.proofs.Sendings.{Going}
use Rattle.contract_book.proofs.state.Book.send.Given as goal

-- the contract, of the calls so far
abbrev pub invariant-loop-i : goal.invariant-loop-i
invariant-loop-i g l = Going g.K.Contract.means (stand l.initial.self) (take l.i l.served) l.initial.log l.log l.initial.pages l.pages (stand l.self) l.i l.rows
