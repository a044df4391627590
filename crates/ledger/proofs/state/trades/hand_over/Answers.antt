use Rattle.ledger.proofs.Trading.{handed}
use Rattle.ledger.proofs.state.trades.hand_over.Goals as goal

pub returns : goal.returns
returns c = handed c.args.trade c.args.accounts.now c.requires.buyer c.requires.seller
