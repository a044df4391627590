use Rattle.std.proofs.Common.{sym, arith}
use Rattle.kinds.specs.AverageFacts.{Taken, one_more}
use Rattle.kinds.proofs.weighted.kind.WeightedAverageContract.quote.Goals as goal

pub invariant_of-self : goal.invariant_of-self
invariant_of-self c =
    let t : Taken c.args.self.now.quantity c.args.quotation = record { fits = sym c.if-not-is_quotable.ensures; room = omega arith } in
    record { ok = one_more _ _ c.args.quotation c.args.self.now.ok t }
