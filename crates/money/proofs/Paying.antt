-- What the code of a payment amounts to.
use Rattle.std.proofs.Common.{◌≡◌, ℕ, ◌<◌, Bool, true, false, ℤ, pos, ◌-ℤ◌, ◌*ℤ◌, sym, refl, ap, ◌∙◌, arith}
use borrow.Author.Differences.{ints}
use Rattle.money.specs.declared.currency.Currency.{Currency}
use Rattle.money.specs.declared.currency.Currency.TheVariants.{Real, Dollar}
use Rattle.money.specs.declared.currency.Residency.{Residency}
use Rattle.money.specs.declared.currency.Residency.TheVariants.{Resident, Nonresident}
use Rattle.money.specs.Nearest.{Nearest}
use Rattle.money.specs.Weights.{weight, paid_in}
use Rattle.money.specs.Pays.{Pays, payment, owed, unit, is_foreign, is_converted}
use Rattle.money.proofs.Rounding.{exact}
use Rattle.money.proofs.Payments.{weighs}

-- the comparison of the contract's currency with the payee's
foreign : (contract : Currency) (payee : Residency) → (contract ≡ paid_in payee → ⊥) → is_foreign contract payee ≡ true
foreign Real Resident h = absurd (h refl)
foreign Real Nonresident h = refl
foreign Dollar Resident h = refl
foreign Dollar Nonresident h = absurd (h refl)

none_left : (z : ℤ) → pos 0 ≡ z -ℤ z
none_left z = omega (arith, ints)

-- a line already in its payee's currency
pub unconverted : (cents : ℤ) (contract : Currency) (payee : Residency) (rate : ℕ) {paid remainder : ℤ} {converted : Bool} → 0 < rate → contract ≡ paid_in payee → paid ≡ cents → remainder ≡ pos 0 → converted ≡ is_converted cents contract payee →
    Pays cents contract payee rate (payment paid remainder converted)
unconverted cents contract payee rate some e is left count =
    let w : weight contract rate ≡ unit payee rate = ap (λ (c : Currency). weight c rate) e in
    record {
      is_nearest = rw (is, w) (exact cents (unit payee rate) (weighs (paid_in payee) rate some));
      unchanged = λ _. is;
      balance = rw (is, left, w) (none_left (cents *ℤ pos (unit payee rate)));
      counted = count;
    }

-- a line whose currency changes
pub converts : (cents : ℤ) (contract : Currency) (payee : Residency) (rate : ℕ) {n q paid remainder : ℤ} {u : ℕ} {converted : Bool} →
    0 < rate → (contract ≡ paid_in payee → ⊥) →
    Nearest n u q → n ≡ owed cents contract rate → u ≡ unit payee rate →
    paid ≡ q → remainder ≡ (q *ℤ pos u) -ℤ n → converted ≡ is_converted cents contract payee →
    Pays cents contract payee rate (payment paid remainder converted)
converts cents contract payee rate some ne near e f is left count =
    let away = foreign contract payee ne in
    record {
      is_nearest = rw (is, ← e, ← f) near;
      unchanged = λ h. let z : ◌≡◌ {A = Bool} true false = sym away ∙ h in absurd (let y : ◌≡◌ {A = ℕ} 0 1 = cc in omega arith);
      balance = rw (is, ← e, ← f) left;
      counted = count;
    }
