use Rattle.reader.proofs.Covering.{lines_law}
use Rattle.reader.proofs.whole.lines_stand.Goals as goal

pub returns : goal.returns
returns c = record { law = lines_law }
