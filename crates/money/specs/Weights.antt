-- Which currency a payee is paid in, and what a cent of each weighs.
use Rattle.std.specs.Prelude.{ℕ}
use Rattle.money.specs.declared.currency.Currency.{Currency}
use Rattle.money.specs.declared.currency.Currency.TheVariants.{Real, Dollar}
use Rattle.money.specs.declared.currency.Residency.{Residency}
use Rattle.money.specs.declared.currency.Residency.TheVariants.{Resident, Nonresident}

-- residents are paid in reais, nonresidents in dollars
abbrev pub paid_in : Residency → Currency
paid_in Resident = Real
paid_in Nonresident = Dollar

-- the other of the two currencies
abbrev pub other : Currency → Currency
other Real = Dollar
other Dollar = Real

-- a centavo weighs a million, a US cent the rate's millionths
abbrev pub weight : Currency → ℕ → ℕ
weight Real rate = 1000000
weight Dollar rate = rate
