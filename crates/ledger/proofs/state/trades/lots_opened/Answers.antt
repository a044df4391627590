use Rattle.std.proofs.Common.{true, false, ap, ◌∙◌, arith}
use Rattle.tally.specs.Questions.{opens_lot}
use Rattle.ledger.proofs.Trading.{opened_more, opened_all}
use Rattle.ledger.proofs.state.trades.lots_opened.Goals.{then-opens_lot, else-opens_lot}
use Rattle.ledger.proofs.state.trades.lots_opened.Goals as goal

pub loop-i-preserved : goal.loop-i-preserved
loop-i-preserved c =
    let t = c.args.trade in
    let xs = c.args.accounts.now in
    let n = c.loop-i.opened in
    elim c.if-opens_lot.branch [
      | then-opens_lot w ↦ (opened_more t xs c.loop-i.i n true c.loop-i-test.true (w.if-opens_lot.ensures ∙ ap opens_lot c.traded.ensures) c.loop-i.invariant.0 w.opened-is, omega (arith, w.opened-is))
      | else-opens_lot w ↦ (opened_more t xs c.loop-i.i n false c.loop-i-test.true (w.if-opens_lot.ensures ∙ ap opens_lot c.traded.ensures) c.loop-i.invariant.0 (omega (arith, w.opened-is)), omega (arith, w.opened-is))
    ]

pub returns-clause-value : goal.returns-clause-value
returns-clause-value c = c.loop-i.invariant.0 ∙ opened_all c.args.trade c.args.accounts.now c.loop-i.i c.loop-i-test.false
