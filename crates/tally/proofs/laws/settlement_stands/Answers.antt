use Rattle.tally.proofs.Law.{settled}
use Rattle.tally.proofs.laws.settlement_stands.Goals as goal

pub returns : goal.returns
returns c = settled
