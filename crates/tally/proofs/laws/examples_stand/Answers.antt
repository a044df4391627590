use Rattle.std.proofs.Common.{arith}
use Rattle.tally.proofs.Worked.{worked_run, worked_delivery, worked_offset}
use Rattle.tally.proofs.laws.examples_stand.Goals as goal

pub returns : goal.returns
returns c = grind (arith, worked_run, worked_delivery, worked_offset)
