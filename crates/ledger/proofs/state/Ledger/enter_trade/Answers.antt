use Rattle.std.proofs.Common.{arith}
use Rattle.tally.specs.Events.{trading}
use Rattle.tally.specs.Steps.{done}
use Rattle.ledger.specs.Ledgers.{view, terms_of}
use Rattle.ledger.proofs.Reaching.{goes_on}
use Rattle.ledger.proofs.Tables.{registers}
use Rattle.ledger.proofs.Trading.{taken, entered}
use Rattle.ledger.proofs.state.Ledger.enter_trade.Goals as goal

pub hand_over-requires : goal.hand_over-requires
hand_over-requires c =
    let l = c.args.self.now in
    let t = c.args.trade in
    let ok = taken l t c.requires in
    rw c.as_mut_slice.ensures.value
    (record {
      buyer = registers l t.buyer ok.sides.buyer;
      seller = registers l t.seller ok.sides.seller;
      bought = ok.bought;
      sold = ok.sold;
    })

pub push-requires : goal.push-requires
push-requires c = (omega arith, (taken c.args.self.now c.args.trade c.requires).room)

pub invariant_of-self : goal.invariant_of-self
unfolding done
invariant_of-self c =
    let l = c.args.self.now in
    record { reached = goes_on (terms_of l) (view l) (trading c.args.trade) tt c.requires (entered l c.args.trade c.as_mut_slice.ensures.value c.hand_over.ensures c.push.ensures.items) l.reached }
