use Rattle.std.proofs.Common.{ap, sym, subst}
use Rattle.kinds.specs.Averages.{average_rule}
use Rattle.kinds.specs.Delivery.{delivering, delivery_rule}
use Rattle.kinds.specs.Indexes.{index_rule}
use Rattle.kinds.specs.Indexing.{five}
use Rattle.kinds.specs.Weighting.{weighted}
use Rattle.text.specs.Writers.{Writes}
use Rattle.desk.specs.Endings.{average_price, course_of, index_price, no_price}
use Rattle.desk.specs.Places.{lines_left}
use Rattle.desk.proofs.Following.{average_follows, delivering_follows, five_follows}
use Rattle.settle.proofs.Following.{run_so}
use Rattle.settle.proofs.run.begin.Goals as goal

pub returns-in-Delivery : goal.returns-in-Delivery
returns-in-Delivery c =
    let run = run_so delivering delivery_rule no_price c.args.ticker c.new.result c.args.reader.number c.args.reader.at (lines_left c.args.reader)
    (ap course_of (sym c.in-Delivery.ensures)) (delivering_follows c.new.result c.new.ensures.law) in
    subst (λ t. Writes c.args.out.now t c.serve.new.out c.serve.result) run c.serve.ensures

pub returns-in-WeightedAverage : goal.returns-in-WeightedAverage
returns-in-WeightedAverage c =
    let run = run_so weighted average_rule average_price c.args.ticker c.new-in-WeightedAverage.result c.args.reader.number c.args.reader.at (lines_left c.args.reader)
    (ap course_of (sym c.in-WeightedAverage.ensures)) (average_follows c.new-in-WeightedAverage.result c.new-in-WeightedAverage.ensures.law) in
    subst (λ t. Writes c.args.out.now t c.serve-in-WeightedAverage.new.out c.serve-in-WeightedAverage.result) run c.serve-in-WeightedAverage.ensures

pub returns-in-LastFive : goal.returns-in-LastFive
returns-in-LastFive c =
    let run = run_so five index_rule index_price c.args.ticker c.new-in-LastFive.result c.args.reader.number c.args.reader.at (lines_left c.args.reader)
    (ap course_of (sym c.in-LastFive.ensures)) (five_follows c.new-in-LastFive.result c.new-in-LastFive.ensures.law) in
    subst (λ t. Writes c.args.out.now t c.serve-in-LastFive.new.out c.serve-in-LastFive.result) run c.serve-in-LastFive.ensures
