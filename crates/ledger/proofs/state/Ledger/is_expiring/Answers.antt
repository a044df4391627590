use Rattle.std.proofs.Common.{arith}
use Rattle.ledger.proofs.Standing.{last_small}
use Rattle.ledger.proofs.state.Ledger.is_expiring.Goals as goal

pub overflow_add-self : goal.overflow_add-self
overflow_add-self c = let s = last_small c.args.self.now in omega arith
