use Rattle.std.proofs.Common.{ℕ, ◌+◌, refl, ap, ◌∙◌, arith}
use Rattle.money.specs.declared.currency.Currency.TheVariants.{Real, Dollar}
use Rattle.tally.specs.Pages.{paid_as}
use Rattle.ledger.specs.Owings.{plus_line}
use Rattle.ledger.proofs.Paying.{same_sums, count_is, paid_as_in, add_signed, read_signed}
use Rattle.ledger.proofs.pages.add_line.Goals as goal

pub returns : goal.returns
returns c =
    let s = c.args.sums in
    let p = c.args.payment in
    let paid = read_signed p.paid _ c.requires.payment.0 (omega arith) in
    let reais = paid_as_in Real c.args.payee p.paid _ c.requires.payment.0 in
    let dollars = paid_as_in Dollar c.args.payee p.paid _ c.requires.payment.0 in
    same_sums _ (plus_line s c.args.payee p)
    (add_signed s.reais c.paid_as-reais.result (c.paid_as-reais.ensures ∙ ap (paid_as Real c.args.payee) paid) (omega (arith, c.requires.sums.0)) (omega (arith, reais)))
    (add_signed s.dollars c.paid_as-dollars.result (c.paid_as-dollars.ensures ∙ ap (paid_as Dollar c.args.payee) paid) (omega (arith, c.requires.sums.1)) (omega (arith, dollars)))
    (add_signed s.remainder p.remainder refl (omega (arith, c.requires.sums.2)) (omega (arith, c.requires.payment.1)))
    (ap (λ (n : ℕ). s.lines + n) (c.from.ensures ∙ count_is p.converted))
