use Rattle.std.proofs.lemmas.List.Filters.{FiltersInPlace}
use Rattle.aged.specs.Line.{counts}
use Rattle.aged.proofs.close_up.Given as goal

abbrev pub invariant-loop-i : goal.invariant-loop-i
invariant-loop-i g l = FiltersInPlace (counts g.R.Row.counting) l.initial.rows l.rows l.kept l.i
