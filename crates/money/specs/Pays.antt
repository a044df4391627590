-- What one line pays.
use Rattle.std.specs.Prelude.{◌≡◌, ℕ, ◌<◌, Bool, true, false, not, ◌&&◌, ℤ, pos, negsuc, ◌-ℤ◌, ◌*ℤ◌, ◌==◌, unsigned_abs}
use Rattle.money.specs.declared.currency.Currency.{Currency}
use Rattle.money.specs.declared.currency.Currency.TheVariants.{Real, Dollar}
use Rattle.money.specs.declared.currency.Residency.{Residency}
use Rattle.money.specs.declared.currency.Residency.TheVariants.{Resident, Nonresident}
use Rattle.money.specs.declared.payment.Payment.{Payment}
use Rattle.money.specs.Nearest.{Nearest, nearest}
use Rattle.money.specs.Weights.{weight, paid_in}

-- what the line weighs that is owed
abbrev pub owed : ℤ → Currency → ℕ → ℤ
owed cents contract rate = cents *ℤ pos (weight contract rate)

-- what one cent weighs that is paid
abbrev pub unit : Residency → ℕ → ℕ
unit payee rate = weight (paid_in payee) rate

-- whether a payee is paid in another currency than the contract's
abbrev pub is_foreign : Currency → Residency → Bool
is_foreign Real Resident = false
is_foreign Real Nonresident = true
is_foreign Dollar Resident = true
is_foreign Dollar Nonresident = false

-- a line counts as converted if its currency changes and the amount owed is not 0
abbrev pub is_converted : ℤ → Currency → Residency → Bool
is_converted cents contract payee = is_foreign contract payee && not (unsigned_abs cents == 0)

-- A line of `cents` in the contract's currency pays its payee, at a rate.
pub record Pays (cents : ℤ) (contract : Currency) (payee : Residency) (rate : ℕ) (p : Payment) : Type 0 where
  -- the nearest whole number of cents, a half away from zero, debits alike
  pub is_nearest : Nearest (owed cents contract rate) (unit payee rate) p.paid
  -- a line already in its payee's currency is paid unchanged
  pub unchanged : is_foreign contract payee ≡ false → p.paid ≡ cents
  -- the weight paid less the weight owed
  pub balance : p.remainder ≡ (p.paid *ℤ pos (unit payee rate)) -ℤ owed cents contract rate
  -- the count goes by the amount owed, not by the amount paid
  pub counted : p.converted ≡ is_converted cents contract payee

-- The same as a formula.
unfoldable pub paid_of : ℤ → Currency → Residency → ℕ → ℤ
paid_of cents contract payee rate = nearest (owed cents contract rate) (unit payee rate)

abbrev pub payment_of : ℤ → Currency → Residency → ℕ → Payment
payment_of cents contract payee rate = record {
  paid = paid_of cents contract payee rate;
  remainder = (paid_of cents contract payee rate *ℤ pos (unit payee rate)) -ℤ owed cents contract rate;
  converted = is_converted cents contract payee;
}

-- the formula pays as the relation says, and nothing else does
pub record PaymentLaw : Type 0 where
  pub formula : (cents : ℤ) (contract : Currency) (payee : Residency) (rate : ℕ) → 0 < rate → Pays cents contract payee rate (payment_of cents contract payee rate)
  pub unique : (cents : ℤ) (contract : Currency) (payee : Residency) (rate : ℕ) (p : Payment) → 0 < rate → Pays cents contract payee rate p → p ≡ payment_of cents contract payee rate

-- a payment by its three parts
abbrev pub payment : ℤ → ℤ → Bool → Payment
payment paid remainder converted = record { paid = paid; remainder = remainder; converted = converted }

-- worked lines
pub record Examples : Type 0 where
  pub credit : payment_of (pos 1500) Dollar Resident 2153700 ≡ payment (pos 3231) (pos 450000) true
  pub debit : payment_of (negsuc 1499) Dollar Resident 2153700 ≡ payment (negsuc 3230) (negsuc 449999) true
  pub half : payment_of (pos 1) Dollar Resident 500000 ≡ payment (pos 1) (pos 500000) true
  pub under : payment_of (pos 1) Dollar Resident 499999 ≡ payment (pos 0) (negsuc 499998) true
  pub third : payment_of (pos 100) Real Nonresident 3000000 ≡ payment (pos 33) (negsuc 999999) true
  pub halves : payment_of (pos 3) Real Nonresident 2000000 ≡ payment (pos 2) (pos 1000000) true
