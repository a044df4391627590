use Rattle.aged.proofs.Parts.{split_by_count}
use Rattle.aged.proofs.laws.split_by_count.Goals as goal

pub returns : goal.returns
returns g c = λ picks. split_by_count g.R.Row.counting picks
