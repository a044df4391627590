use Rattle.std.proofs.Common.{arith, rules}
use Rattle.kinds.proofs.AverageShown.{average_obeys}
use Rattle.kinds.proofs.weighted.WeightedAverage.new.Goals as goal

pub returns : goal.returns
returns c = record { size = search rules; currency = search rules; tick = search rules; ends = search rules; unpriced = search rules; law = average_obeys _ (omega arith) (omega arith) }
