use Rattle.std.proofs.Common.{rules}
use Rattle.desk.proofs.Gathers.{gathered_all, gathered_more, gathered_none}
use Rattle.desk.proofs.gathering.gather.Goals as goal

pub loop-came-preserved-in-Some-call : goal.loop-came-preserved-in-Some-call
loop-came-preserved-in-Some-call c = gathered_more c.in-Some.ensures.steps c.loop-came.invariant _ (search rules)

pub loop-came-preserved : goal.loop-came-preserved
loop-came-preserved c = gathered_none c.in-Some.ensures.steps c.loop-came.invariant (search rules)

pub returns-clause-calls : goal.returns-clause-calls
returns-clause-calls c = gathered_all c.in-None.ensures.steps c.loop-came.invariant
