use Rattle.std.proofs.Common.{◌≤◌}
use Rattle.aged.specs.Line.{Tests}
use Rattle.aged.proofs.Spending.{Spending}
use Rattle.aged.proofs.spend.Given as goal

abbrev pub invariant-loop-row : goal.invariant-loop-row
invariant-loop-row g l = (l.left ≤ l.n) × ((test : _) → Tests (goal.F-post g l.picks) test → Spending g.R.Row.counting test l.initial.rows l.n l.rows l.row-index l.left)
