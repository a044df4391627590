use Rattle.std.proofs.Common.{min, rules}
use Rattle.aged.specs.Line.{line, held, every}
use Rattle.aged.proofs.Rows.{at_every}
use Rattle.aged.proofs.slices.take_oldest.Goals as goal

pub returns-clause-value : goal.returns-clause-value
returns-clause-value g c = at_every (λ rows. min c.args.n (held g.R.Row.counting rows)) (line c.args.used.now c.args.rows.now) (c.take_picked.ensures.taken every (search rules)).0
