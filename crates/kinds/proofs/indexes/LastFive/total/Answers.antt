use Rattle.std.proofs.Common.{◌^◌, ◌<◌, sum, arith, rules}
use Rattle.kinds.specs.IndexFacts.{sum_fits}
use Rattle.kinds.proofs.indexes.LastFive.total.Goals as goal

pub sum-requires : goal.sum-requires
sum-requires c =
    let s : sum c.args.self.now.last < 2 ^ 64 = omega (arith, sum_fits c.args.self.now.last c.args.self.now.held c.args.self.now.ok) in
    search rules
