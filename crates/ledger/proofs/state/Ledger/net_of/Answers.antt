use Rattle.ledger.proofs.Tables.{contracts}
use Rattle.ledger.proofs.state.Ledger.net_of.Goals as goal

pub net-requires : goal.net-requires
net-requires c =
    let k = contracts c.args.self.now c.args.number c.requires in
    rw c.account.ensures (k.carried_in, k.bought_in, k.sold_in)
