use Rattle.std.proofs.Common.{arith}
use Rattle.kinds.specs.IndexFacts.{sum_fits}
use Rattle.kinds.proofs.indexes.kind.LastFiveContract.final_price.Goals as goal

pub mean_price-requires : goal.mean_price-requires
mean_price-requires c =
    let s = sum_fits c.args.self.now.last c.args.self.now.held c.args.self.now.ok in
    record { few = omega arith; low = omega (arith, s, c.total.ensures); high = omega (arith, s, c.total.ensures) }
