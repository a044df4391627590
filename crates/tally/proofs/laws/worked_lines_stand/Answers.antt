use Rattle.tally.proofs.Lines.{worked_lines}
use Rattle.tally.proofs.laws.worked_lines_stand.Goals as goal

pub returns : goal.returns
returns c = record { lines = worked_lines }
