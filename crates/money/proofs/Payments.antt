-- Paying a line: the formula is the relation, and the worked lines.
use Rattle.std.proofs.Common.{◌≡◌, ℕ, ◌<◌, ◌≤◌, false, ℤ, pos, ◌-ℤ◌, ◌*ℤ◌, nat_abs, sym, refl, ap, ◌∙◌, arith, lit≤}
use Rattle.std.proofs.lemmas.Nat.{mul-le}
use Rattle.std.proofs.lemmas.Bool.{false≢true}
use Rattle.money.specs.declared.currency.Currency.{Currency}
use Rattle.money.specs.declared.currency.Currency.TheVariants.{Real, Dollar}
use Rattle.money.specs.declared.currency.Residency.{Residency}
use Rattle.money.specs.declared.currency.Residency.TheVariants.{Resident, Nonresident}
use Rattle.money.specs.declared.payment.Payment.{Payment}
use Rattle.money.specs.Nearest.{nearest}
use Rattle.money.specs.Weights.{weight, paid_in}
use Rattle.money.specs.Pays.{Pays, PaymentLaw, Examples, paid_of, payment_of, owed, unit, is_foreign}
use Rattle.money.proofs.Rounding.{exact, formula, unique, size}

pub weighs : (c : Currency) (rate : ℕ) → 0 < rate → 0 < weight c rate
weighs Real rate h = lit≤ tt
weighs Dollar rate h = h

-- what an amount weighs fits, and so does what is paid for it
pub owed_fits : (z : ℤ) (w : ℕ) → nat_abs z ≤ 600000000000 → w ≤ 9999999 → nat_abs (z *ℤ pos w) ≤ 6000000000000000000
owed_fits z w h k = omega (arith, size z w, mul-le (nat_abs z) w 600000000000 9999999 h k)

-- a payee who is not foreign is paid in the contract's currency
pub at_home : (contract : Currency) (payee : Residency) → is_foreign contract payee ≡ false → contract ≡ paid_in payee
at_home Real Resident e = refl
at_home Real Nonresident e = absurd (false≢true (sym e))
at_home Dollar Resident e = absurd (false≢true (sym e))
at_home Dollar Nonresident e = refl

-- the formula leaves a line in its payee's currency as it is
unchanged : (cents : ℤ) (contract : Currency) (payee : Residency) (rate : ℕ) → 0 < rate → is_foreign contract payee ≡ false → paid_of cents contract payee rate ≡ cents
unfolding paid_of
unchanged cents contract payee rate some e =
    let w : weight contract rate ≡ unit payee rate = ap (λ (c : Currency). weight c rate) (at_home contract payee e) in
    let d = weighs (paid_in payee) rate some in
    rw w (unique (cents *ℤ pos (unit payee rate)) (unit payee rate) _ cents d (formula (cents *ℤ pos (unit payee rate)) (unit payee rate) d) (exact cents (unit payee rate) d))

pub pays : (cents : ℤ) (contract : Currency) (payee : Residency) (rate : ℕ) → 0 < rate → Pays cents contract payee rate (payment_of cents contract payee rate)
unfolding paid_of
pays cents contract payee rate some = record {
  is_nearest = formula (owed cents contract rate) (unit payee rate) (weighs (paid_in payee) rate some);
  unchanged = unchanged cents contract payee rate some;
  balance = refl;
  counted = refl;
}

same_payment : (p q : Payment) → p.paid ≡ q.paid → p.remainder ≡ q.remainder → p.converted ≡ q.converted → p ≡ q
same_payment p q a b c = λ i. record { paid = a i; remainder = b i; converted = c i }

pub payment_unique : (cents : ℤ) (contract : Currency) (payee : Residency) (rate : ℕ) (p : Payment) → 0 < rate → Pays cents contract payee rate p → p ≡ payment_of cents contract payee rate
unfolding paid_of
payment_unique cents contract payee rate p some h =
    let d = weighs (paid_in payee) rate some in
    let e : p.paid ≡ paid_of cents contract payee rate = unique _ _ p.paid (paid_of cents contract payee rate) d h.is_nearest (formula _ _ d) in
    same_payment p (payment_of cents contract payee rate) e
    (h.balance ∙ ap (λ (x : ℤ). (x *ℤ pos (unit payee rate)) -ℤ owed cents contract rate) e)
    h.counted

pub payment_law : PaymentLaw
payment_law = record { formula = pays; unique = payment_unique }

pub examples : Examples
unfolding paid_of nearest
examples = record { credit = refl; debit = refl; half = refl; under = refl; third = refl; halves = refl }
