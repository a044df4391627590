use Rattle.ledger.proofs.Trading.{limits_after}
use Rattle.ledger.proofs.state.trades.Deal.has_lot_room.Goals as goal

pub lots_opened-requires : goal.lots_opened-requires
lots_opened-requires c = let d = c.args.self.now in rw c.accounts.ensures (limits_after d.ledger.now d.trade c.requires)
