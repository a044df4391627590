use Rattle.std.proofs.Common.{rules}
use Rattle.kinds.proofs.NoneShown.{none_obeys}
use Rattle.kinds.proofs.delivering.Delivering.new.Goals as goal

pub returns : goal.returns
returns c = record { size = search rules; currency = search rules; tick = search rules; ends = search rules; unpriced = search rules; law = none_obeys _ }
