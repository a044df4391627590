use Rattle.ledger.proofs.Paying.{line_in}
use Rattle.ledger.proofs.pages.Conversion.pay_line.Goals as goal

pub returns-clause-within : goal.returns-clause-within
returns-clause-within c =
    let amount = c.unwrap-amount.result in
    let rate = c.args.self.rate in
    line_in amount.cents c.args.self.currency c.args.payee rate.number c.pay.result amount.within rate.within.0 rate.within.1 c.pay.ensures.pays
