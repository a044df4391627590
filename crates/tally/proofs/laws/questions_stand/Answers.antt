use Rattle.tally.proofs.Worked.{question_order}
use Rattle.tally.proofs.laws.questions_stand.Goals as goal

pub returns : goal.returns
returns c = question_order
