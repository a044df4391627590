use Rattle.std.proofs.Common.{arith}
use Rattle.ledger.proofs.Standing.{few_accounts, owable, price_in, sheet_priced, size_in}
use Rattle.ledger.proofs.state.Ledger.owed.Goals as goal

pub invariant_of-valuation : goal.invariant_of-valuation
invariant_of-valuation c =
    let last = price_in c.args.self.now in
    record { sized = size_in c.args.self.now; priced = (omega arith, omega arith) }

pub invariant_of-sheet : goal.invariant_of-sheet
invariant_of-sheet c = record { priced = rw c.sheet.ensures (sheet_priced c.args.self.now) }

pub owed_to_all-requires : goal.owed_to_all-requires
owed_to_all-requires c =
    let l = c.args.self.now in
    rw (c.accounts.ensures, c.sheet.ensures) (record { few = few_accounts l; owable = owable l })
