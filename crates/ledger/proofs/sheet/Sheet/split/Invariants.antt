use Rattle.std.proofs.Common.{take}
use Rattle.tally.specs.Book.{prices}
use Rattle.ledger.specs.Sheets.{on_side}
use Rattle.ledger.proofs.Sides.{Read}
use Rattle.ledger.proofs.sheet.Sheet.split.Given as goal

-- what was read of the rows so far
abbrev pub invariant-loop-trade : goal.invariant-loop-trade
invariant-loop-trade l = Read (prices l.account (on_side l.side (take l.trade-index l.self.trades.now))) l.offset l.first.contracts l.first.value l.left.contracts l.left.value
