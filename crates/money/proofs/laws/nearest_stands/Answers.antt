use Rattle.money.proofs.Rounding.{nearest_law}
use Rattle.money.proofs.laws.nearest_stands.Goals as goal

pub returns : goal.returns
returns c = nearest_law
