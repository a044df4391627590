use Rattle.desk.proofs.Gathers.{Gathered, calls_left}
use Rattle.desk.proofs.gathering.gather.Given as goal

abbrev pub invariant-loop-came : goal.invariant-loop-came
invariant-loop-came l = Gathered l.calls l.count (calls_left l.reader) l.came-iterator.0
