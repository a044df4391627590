use Rattle.std.proofs.Common.{◌≤◌, get_or, nat_abs, ◌∙◌, arith}
use Rattle.std.proofs.ByRecursion.{All-get_or}
use Rattle.tally.specs.Questions.{nobody}
use Rattle.ledger.specs.Limits.{InLimits}
use Rattle.ledger.proofs.Paying.{read_signed}
use Rattle.ledger.proofs.Turning.{net_in, opens_next, turned_next, turned_all}
use Rattle.ledger.proofs.turned.turn_lots.Goals as goal

pub loop-i-preserved : goal.loop-i-preserved
loop-i-preserved c =
    let xs = c.args.accounts.now in
    let i = c.loop-i.i in
    let a = get_or xs i nobody in
    let k = All-get_or InLimits xs i nobody c.loop-i-test.true c.requires.contracts in
    let carried = read_signed a.carried 3000 k.0 (omega arith) in
    let small : nat_abs c.net.result ≤ 9000 = net_in a c.net.ensures k in
    let left = read_signed c.net.result 9000 small (omega arith) in
    let next = opens_next xs i nobody c.loop-i-test.true carried (left ∙ c.net.ensures) in (
      turned_next xs i nobody c.loop-i-test.true c.args.session c.loop-i.lots carried (left ∙ c.net.ensures) c.turn_account.ensures.lots ∙ c.loop-i.invariant.0,
      omega (arith, next, c.loop-i.invariant.1, c.turn_account.ensures.grown),
    )

pub returns : goal.returns
returns c = turned_all c.args.session c.loop-i.i c.args.accounts.now c.loop-i.lots c.loop-i-test.false ∙ c.loop-i.invariant.0
