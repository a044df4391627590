use Rattle.std.proofs.Common.{◌≡◌, take}
use Rattle.tally.specs.Book.{numbered}
use Rattle.ledger.specs.Owings.{owed_at}
use Rattle.ledger.proofs.owed.Valuation.owed_to_all.Given as goal

-- what is owed to the accounts passed
abbrev pub invariant-loop-i : goal.invariant-loop-i
invariant-loop-i l = l.all.items ≡ numbered (owed_at l.settling l.self.size l.sheet.trades.now l.self.last l.self.price) 1 (take l.i l.accounts)
