use Rattle.std.proofs.Common.{length, ap, arith}
use Rattle.ledger.proofs.Standing.{few_accounts}
use Rattle.ledger.proofs.state.Ledger.pay.Goals as goal

pub pay_page-requires-clause-few : goal.pay_page-requires-clause-few
pay_page-requires-clause-few c = omega (arith, ap length c.accounts.ensures, few_accounts c.args.self.now)
