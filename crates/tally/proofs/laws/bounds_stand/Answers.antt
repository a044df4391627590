use Rattle.tally.proofs.Bounds.{bounds}
use Rattle.tally.proofs.laws.bounds_stand.Goals as goal

pub returns : goal.returns
returns c = bounds
