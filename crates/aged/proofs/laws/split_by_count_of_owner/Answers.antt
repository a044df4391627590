use Rattle.aged.specs.Line.{owned_by}
use Rattle.aged.proofs.Parts.{split_by_count}
use Rattle.aged.proofs.laws.split_by_count_of_owner.Goals as goal

pub returns : goal.returns
returns g c = λ o. split_by_count g.R.Row.counting (owned_by g.R.Owned.whose o)
