use Rattle.std.proofs.Common.{◌≡◌, drop}
use Rattle.kinds.specs.Quoted.{state}
use Rattle.kinds.specs.Indexing.{five}
use Rattle.kinds.specs.Worked.{indexes, worked}
use Rattle.kinds.proofs.worked.worked_line.Given as goal

abbrev pub invariant-loop-price : goal.invariant-loop-price
invariant-loop-price l = state five l.kind (indexes (drop l.price-index worked)) ≡ state five l.initial.kind (indexes worked)
