use Rattle.std.proofs.Common.{◌≡◌, drop}
use Rattle.aged.specs.Line.{first, rows_of}
use Rattle.aged.proofs.slices.oldest_of.Given as goal

-- The owner has no row so far.
abbrev pub invariant-loop-row : goal.invariant-loop-row
invariant-loop-row g l = first (rows_of g.R.Owned.whose l.owner (drop l.row-index l.row-items)) ≡ first (rows_of g.R.Owned.whose l.owner l.row-items)
