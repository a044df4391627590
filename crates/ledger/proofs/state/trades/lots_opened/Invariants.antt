use Rattle.std.proofs.Common.{◌≡◌, ◌≤◌, take, count_by}
use Rattle.tally.specs.Book.{numbered}
use Rattle.tally.specs.Questions.{opens_lot, traded_account}
use Rattle.ledger.proofs.state.trades.lots_opened.Given as goal

-- those counted are among the accounts passed
abbrev pub invariant-loop-i : goal.invariant-loop-i
invariant-loop-i l = (l.opened ≡ count_by opens_lot (take l.i (numbered (traded_account l.trade) 1 l.accounts))) × (l.opened ≤ l.i)
