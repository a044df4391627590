-- How far the remainder of a page can be from 0.
use Rattle.std.specs.Prelude.{ℕ, ◌+◌, ◌*◌, ◌<◌, ◌≤◌, Bool, true, false, ℤ, pos, ◌+ℤ◌, unsigned_abs}
use Rattle.money.specs.declared.currency.Currency.{Currency}
use Rattle.money.specs.declared.currency.Residency.{Residency}
use Rattle.money.specs.declared.payment.Payment.{Payment}
use Rattle.money.specs.Weights.{weight, other}
use Rattle.money.specs.Pays.{Pays}

-- this remainder is within what so many converted lines of the contract allow: half of what one paid cent weighs for each
unfoldable pub Allowed : Currency → ℕ → ℕ → ℤ → Type 0
Allowed contract rate lines remainder = 2 * unsigned_abs remainder ≤ lines * weight (other contract) rate

-- a line's part in the count of converted lines
abbrev pub line_count : Bool → ℕ
line_count true = 1
line_count false = 0

-- no lines, one line paid, and lines added
pub record BoundLaw : Type 0 where
  pub none : (contract : Currency) (rate : ℕ) → Allowed contract rate 0 (pos 0)
  pub line : (cents : ℤ) (contract : Currency) (payee : Residency) (rate : ℕ) (p : Payment) → 0 < rate →
      Pays cents contract payee rate p → Allowed contract rate (line_count p.converted) p.remainder
  pub added : (contract : Currency) (rate m n : ℕ) (x y : ℤ) → Allowed contract rate m x → Allowed contract rate n y → Allowed contract rate (m + n) (x +ℤ y)
