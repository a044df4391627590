use Rattle.std.proofs.Common.{sym, ap, subst}
use Rattle.kinds.specs.Averages.{average_rule}
use Rattle.kinds.specs.Delivery.{delivering, delivery_rule}
use Rattle.kinds.specs.Indexes.{index_rule}
use Rattle.kinds.specs.Indexing.{five}
use Rattle.kinds.specs.Weighting.{weighted}
use Rattle.text.specs.Writers.{Writes}
use Rattle.desk.specs.Places.{lines_left}
use Rattle.desk.specs.Endings.{average_price, course_of, index_price, no_price}
use Rattle.desk.proofs.Following.{average_follows, delivering_follows, five_follows, told_so}
use Rattle.desk.proofs.run.Desk.begin.Goals as goal

pub returns-in-Delivery : goal.returns-in-Delivery
returns-in-Delivery c =
    let told = told_so delivering delivery_rule no_price c.new.result c.args.opening c.args.self.now.reader.number c.args.self.now.reader.at (lines_left c.args.self.now.reader)
    (ap course_of (sym c.in-Delivery.ensures)) (delivering_follows c.new.result c.new.ensures.law) in
    subst (λ t. Writes c.args.out.now t c.serve.new.out c.serve.result) told c.serve.ensures

pub returns-in-WeightedAverage : goal.returns-in-WeightedAverage
returns-in-WeightedAverage c =
    let told = told_so weighted average_rule average_price c.new-in-WeightedAverage.result c.args.opening c.args.self.now.reader.number c.args.self.now.reader.at (lines_left c.args.self.now.reader)
    (ap course_of (sym c.in-WeightedAverage.ensures)) (average_follows c.new-in-WeightedAverage.result c.new-in-WeightedAverage.ensures.law) in
    subst (λ t. Writes c.args.out.now t c.serve-in-WeightedAverage.new.out c.serve-in-WeightedAverage.result) told c.serve-in-WeightedAverage.ensures

pub returns-in-LastFive : goal.returns-in-LastFive
returns-in-LastFive c =
    let told = told_so five index_rule index_price c.new-in-LastFive.result c.args.opening c.args.self.now.reader.number c.args.self.now.reader.at (lines_left c.args.self.now.reader)
    (ap course_of (sym c.in-LastFive.ensures)) (five_follows c.new-in-LastFive.result c.new-in-LastFive.ensures.law) in
    subst (λ t. Writes c.args.out.now t c.serve-in-LastFive.new.out c.serve-in-LastFive.result) told c.serve-in-LastFive.ensures
