use Rattle.std.proofs.Common.{◌≤◌}
use Rattle.aged.specs.Line.{Tests}
use Rattle.aged.proofs.Taking.{Taking}
use Rattle.aged.proofs.slices.take_picked.Given as goal

abbrev pub invariant-loop-i : goal.invariant-loop-i
invariant-loop-i g l = (l.left ≤ l.n) × (l.keep ≤ l.i) × ((test : _) → Tests (goal.F-post g l.picks) test → Taking g.R.Row.counting test l.initial.rows l.initial.used l.n l.rows l.keep l.i l.left)
