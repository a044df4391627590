use Rattle.std.proofs.Common.{arith}
use borrow.Author.Differences.{ints}
use Rattle.ledger.proofs.Designating.{delivered}
use Rattle.ledger.proofs.state.designations.deliver.Goals as goal

pub returns : goal.returns
returns c =
    delivered c.args.notice c.args.lot c.args.accounts.now c.requires.seller c.requires.owner c.carry.ensures c.carry-2.ensures
    (omega (arith, ints, c.from-contracts.ensures, c.paired.ensures, c.requires.few)) (omega (arith, ints, c.from-contracts.ensures, c.paired.ensures, c.requires.few))
