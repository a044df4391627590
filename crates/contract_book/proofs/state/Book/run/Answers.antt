use Rattle.std.proofs.Common.{◌≡◌, true, [], rules}
use Rattle.tally.specs.Questions.{is_buildable}
use Rattle.contract_book.specs.Books.{stand}
use Rattle.contract_book.specs.Stands.{built, stands, terms_on}
use Rattle.contract_book.proofs.Running.{ran}
use Rattle.contract_book.proofs.state.Book.run.Goals as goal

pub returns-clause-law : goal.returns-clause-law
unfolding stands
returns-clause-law g c =
    let m = g.K.Contract.means in
    let a = c.args in
    let test : is_buildable (terms_on m a.kind a.sessions) ≡ true = search rules in
    let start : stand c.in_ok-book.book ≡ built m a.kind a.sessions = search rules in
    ran m a.kind a.sessions a.calls.now a.log.now _ a.pages.now _ _ _ _ _ test start (c.send-sending.ensures.history (built m a.kind a.sessions) [] start)
