use Rattle.tally.specs.Events.{events}
use Rattle.tally.proofs.Bounds.{bounds}
use Rattle.tally.proofs.Heard.{all_priced}
use Rattle.tally.proofs.Law.{settled}
use Rattle.tally.proofs.laws.any_kind_settles.Goals as goal

pub returns : goal.returns
returns g a =
    let m = g.K.Contract.means in
    record {
      settled = λ c b k rs. settled c b (events m k rs);
      bounded = λ c b k rs. bounds c b (events m k rs) (all_priced m k rs);
    }
