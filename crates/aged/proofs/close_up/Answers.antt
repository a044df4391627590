use Rattle.std.proofs.Common.{arith}
use Rattle.std.proofs.lemmas.Bool.{lt-ltb, le-ltb}
use Rattle.std.proofs.lemmas.List.Filters.{FiltersInPlace-more_no, FiltersInPlace-more_set}
use Rattle.aged.proofs.close_up.Goals as goal
use Rattle.aged.proofs.close_up.Goals.{then-count-gt0, else-count-gt0}

pub loop-i-preserved : goal.loop-i-preserved
loop-i-preserved g c =
    elim c.if-count-gt0.branch [
      | then-count-gt0 w ↦ rw (w.rows-is, w.kept-is)
          (FiltersInPlace-more_set c.loop-i.invariant (omega arith) (lt-ltb 0 (g.R.Row.counting.count c.index-rows-i.result) (omega (arith, c.count.ensures, w.if-count-gt0.true))) c.index-rows-i.is)
      | else-count-gt0 w ↦ rw (w.rows-is, w.kept-is)
          (FiltersInPlace-more_no c.loop-i.invariant (omega arith) (le-ltb 0 (g.R.Row.counting.count c.index-rows-i.result) (omega (arith, c.count.ensures, w.if-count-gt0.false))) c.index-rows-i.is)
    ]
