use Rattle.std.proofs.Common.{◌≡◌, ◌≢◌, rules, ◌<◌, sym, ap, ◌∙◌, arith, w64, to_z, of_z}
use borrow.Author.Differences.{ints}
use Rattle.money.specs.declared.currency.Currency.{Currency}
use Rattle.money.specs.Weights.{weight}
use Rattle.money.proofs.Rounding.{within}
use Rattle.money.proofs.Payments.{owed_fits, payment_unique}
use Rattle.money.proofs.Paying.{unconverted, converts}
use Rattle.money.proofs.payment.pay.Goals as goal

pub returns-then-eq : goal.returns-then-eq
returns-then-eq c =
    let some : 0 < c.args.rate.number = omega arith in
    let same : c.args.contract ≡ c.paid_in-currency.result = search rules in
    let h = unconverted _ _ _ _ some (same ∙ c.paid_in-currency.ensures) (omega (arith, ints)) (omega (arith, ints)) c.is_converted-converted.ensures in
    record { pays = h; value = payment_unique _ _ _ _ _ some h }

pub weighed-requires : goal.weighed-requires
weighed-requires c =
    let fits = owed_fits (to_z w64 (of_z w64 c.cents-cents.result)) c.cent_weight.result (omega (arith, ints)) (omega arith) in
    let half = within _ _ _ (omega arith) c.nearest-paid.ensures in
    let paid : to_z w64 (of_z w64 c.nearest-paid.result) ≡ c.nearest-paid.result = omega (arith, ints) in
    simp paid (omega (arith, ints))

pub overflow_sub-result : goal.overflow_sub-result
overflow_sub-result c =
    let half = within _ _ _ (omega arith) c.nearest-paid.ensures in
    let paid : to_z w64 (of_z w64 c.nearest-paid.result) ≡ c.nearest-paid.result = omega (arith, ints) in
    let weight_paid = simp paid at c.weighed.ensures in
    omega (arith, ints)

pub returns : goal.returns
returns c =
    let some : 0 < c.args.rate.number = omega arith in
    let half = within _ _ _ (omega arith) c.nearest-paid.ensures in
    let read : to_z w64 (of_z w64 c.cents-cents.result) ≡ c.args.amount.cents = omega (arith, ints) in
    let paid : to_z w64 (of_z w64 c.nearest-paid.result) ≡ c.nearest-paid.result = omega (arith, ints) in
    let owes : to_z w64 (of_z w64 c.weighed-owed.result) ≡ c.weighed-owed.result = omega (arith, ints) in
    let weight_paid = simp paid at c.weighed.ensures in
    let differ : c.args.contract ≢ c.paid_in-currency.result = search rules in
    let h = converts _ _ _ _ some (λ s. differ (s ∙ sym c.paid_in-currency.ensures)) c.nearest-paid.ensures
    (owes ∙ simp (read, c.cent_weight.ensures.value) at c.weighed-owed.ensures)
    (c.cent_weight-unit.ensures.value ∙ ap (λ (x : Currency). weight x c.args.rate.number) c.paid_in-currency.ensures)
    (omega (arith, ints))
    (omega (arith, ints))
    c.is_converted-converted.ensures in
    record { pays = h; value = payment_unique _ _ _ _ _ some h }
