use Rattle.std.proofs.Common.{arith}
use Rattle.reader.proofs.Askings.{unmarked, misfit, turned, in_turn}
use Rattle.reader.proofs.record.read_line.Goals as goal

pub returns-in_default-clause-value : goal.returns-in_default-clause-value
returns-in_default-clause-value c = unmarked _ _ _ c.in_default.ensures.value

pub returns-then-fit-width-clause-value : goal.returns-then-fit-width-clause-value
returns-then-fit-width-clause-value c = misfit _ _ c.args.line.now c.in-Some.mark c.in-Some.ensures.value _ (omega arith) (omega arith)

pub returns-then-out_of_turn-clause-value : goal.returns-then-out_of_turn-clause-value
returns-then-out_of_turn-clause-value c = turned _ _ c.args.line.now c.in-Some.mark c.in-Some.ensures.value (omega arith) c.if-out_of_turn.ensures.value

pub returns-in_default-cut-clause-value : goal.returns-in_default-cut-clause-value
returns-in_default-cut-clause-value c = in_turn _ _ c.args.line.now c.in-Some.mark c.in-Some.ensures.value (omega arith) _ c.if-out_of_turn.ensures.value c.in_default-cut.ensures.value

pub returns-clause-value : goal.returns-clause-value
returns-clause-value c = in_turn _ _ c.args.line.now c.in-Some.mark c.in-Some.ensures.value (omega arith) _ c.if-out_of_turn.ensures.value c.in-Some-cut.ensures.value
