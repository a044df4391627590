use Rattle.money.proofs.Bounds.{bound_law}
use Rattle.money.proofs.laws.bound_stands.Goals as goal

pub returns : goal.returns
returns c = bound_law
