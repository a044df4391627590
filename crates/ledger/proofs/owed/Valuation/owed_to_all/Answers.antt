use Rattle.std.proofs.Common.{length, take, ap, ◌∙◌, arith}
use Rattle.std.proofs.lemmas.List.{length-take-le}
use Rattle.tally.proofs.Facts.{length_numbered}
use Rattle.tally.specs.Book.{numbered}
use Rattle.tally.specs.Questions.{nobody}
use Rattle.ledger.specs.Owings.{owed_at}
use Rattle.ledger.proofs.Beside.{number_more}
use Rattle.ledger.proofs.owed.Valuation.owed_to_all.Goals as goal

pub loop-i-init : goal.loop-i-init
unfolding numbered
loop-i-init c = c.new-all.ensures

pub push-requires : goal.push-requires
push-requires c =
    let xs = c.args.accounts.now in
    let v = c.args.self in
    let f = owed_at c.args.settling v.size c.args.sheet.now.trades.now v.last v.price in
    (omega arith, omega (arith, ap length c.loop-i.invariant, length_numbered f 1 (take c.loop-i.i xs), length-take-le c.loop-i.i xs (omega arith), c.requires.few))

pub loop-i-preserved : goal.loop-i-preserved
loop-i-preserved c =
    let v = c.args.self in
    c.push.ensures.items
    ∙ number_more (owed_at c.args.settling v.size c.args.sheet.now.trades.now v.last v.price) c.args.accounts.now c.loop-i.i nobody c.loop-i-test.true c.owed_to-owed.ensures c.loop-i.invariant
