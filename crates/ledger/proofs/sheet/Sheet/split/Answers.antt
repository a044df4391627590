use Rattle.std.proofs.Common.{refl, arith}
use Rattle.ledger.specs.Sheets.{no_trade}
use Rattle.ledger.proofs.Sides.{read_start, read_next, row_within}
use Rattle.ledger.proofs.sheet.Sheet.split.Goals as goal

pub loop-trade-init : goal.loop-trade-init
loop-trade-init c =
    rw (c.none-first.ensures.contracts, c.none-first.ensures.value, c.none-left.ensures.contracts, c.none-left.ensures.value) (read_start c.args.account c.args.side c.args.offset)

pub with-first-requires-clause-counted : goal.with-first-requires-clause-counted
with-first-requires-clause-counted c =
    let within = row_within c.args.account c.args.side c.args.self.now.trades.now c.loop-trade.trade-index no_trade c.args.offset _ _ _ _ c.loop-trade-test.true c.contracts-contracts.ensures.value c.min-offsets.ensures c.loop-trade.invariant in
    omega (arith, within.0, c.requires)

pub with-left-requires-clause-counted : goal.with-left-requires-clause-counted
with-left-requires-clause-counted c =
    let within = row_within c.args.account c.args.side c.args.self.now.trades.now c.loop-trade.trade-index no_trade c.args.offset _ _ _ _ c.loop-trade-test.true c.contracts-contracts.ensures.value c.min-offsets.ensures c.loop-trade.invariant in
    omega (arith, within.1, c.requires)

pub loop-trade-preserved : goal.loop-trade-preserved
loop-trade-preserved c =
    rw (c.with-first.ensures.contracts, c.with-first.ensures.value, c.with-left.ensures.contracts, c.with-left.ensures.value)
    (read_next c.args.account c.args.side c.args.self.now.trades.now c.loop-trade.trade-index no_trade c.args.offset _ _ _ _ c.loop-trade-test.true c.contracts-contracts.ensures.value c.min-offsets.ensures refl refl c.loop-trade.invariant)
