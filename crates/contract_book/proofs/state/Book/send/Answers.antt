use Rattle.std.proofs.Common.{arith, rules}
use Rattle.std.proofs.lemmas.List.{take_more, take_rest}
use Rattle.contract_book.proofs.Sendings.{going_none, going_more, sent}
use Rattle.contract_book.proofs.state.Book.send.Goals as goal

pub loop-i-init : goal.loop-i-init
loop-i-init g c = going_none g.K.Contract.means _ _ _

pub loop-i-preserved : goal.loop-i-preserved
loop-i-preserved g c =
    let turn = c.loop-i in
    let one = c.serve-came in
    going_more g.K.Contract.means _ _ _ _ _ turn.log c.args.pages.now turn.pages _ turn.i turn.rows _ _ _ _ _
    turn.invariant (take_more _ turn.i _ (search rules)) (search rules) turn.auto.pages (take_rest turn.pages turn.rows) one.ensures.takes.answers one.ensures.takes.leads one.ensures.page one.ensures.rows

pub returns : goal.returns
returns g c =
    record { history = λ s h e. sent g.K.Contract.means _ _ _ c.args.calls.now c.args.log.now _ _ _ _ c.loop-i.i _ _ e c.loop-i.invariant (omega arith) c.min-count.ensures }
