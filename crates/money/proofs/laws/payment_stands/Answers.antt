use Rattle.money.proofs.Payments.{payment_law, examples}
use Rattle.money.proofs.laws.payment_stands.Goals as goal

pub returns : goal.returns
returns c = record { law = payment_law; examples = examples }
