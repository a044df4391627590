use Rattle.std.proofs.Common.{arith}
use borrow.Author.Differences.{ints}
use Rattle.ledger.proofs.Trading.{nets}
use Rattle.ledger.proofs.state.trades.Deal.seller_net.Goals as goal

pub overflow_sub-result : goal.overflow_sub-result
overflow_sub-result c = let d = c.args.self.now in let n = nets d.ledger.now d.trade d.parties d.counted in omega (arith, ints, c.net_of.ensures)

pub returns : goal.returns
returns c = let d = c.args.self.now in let n = nets d.ledger.now d.trade d.parties d.counted in omega (arith, ints, c.net_of.ensures)
