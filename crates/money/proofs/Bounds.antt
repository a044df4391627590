-- The bound on a remainder: of no lines, of one line, and of lines added.
use Rattle.std.proofs.Common.{◌≡◌, ℕ, ◌+◌, ◌*◌, ◌<◌, ◌≤◌, Bool, true, false, not, ◌&&◌, eqb, ℤ, pos, ◌+ℤ◌, ◌-ℤ◌, ◌*ℤ◌, nat_abs, sym, refl, ap, arith}
use borrow.Author.Differences.{ints}
use Rattle.std.proofs.lemmas.Bool.{false≢true, eqb-true}
use Rattle.money.specs.declared.currency.Currency.{Currency}
use Rattle.money.specs.declared.currency.Currency.TheVariants.{Real, Dollar}
use Rattle.money.specs.declared.currency.Residency.{Residency}
use Rattle.money.specs.declared.currency.Residency.TheVariants.{Resident, Nonresident}
use Rattle.money.specs.declared.payment.Payment.{Payment}
use Rattle.money.specs.Bound.{Allowed, BoundLaw, line_count}
use Rattle.money.specs.Weights.{weight, other, paid_in}
use Rattle.money.specs.Pays.{Pays, unit, is_foreign}
use Rattle.money.proofs.Payments.{at_home, weighs}
use Rattle.money.specs.Nearest.{Nearest}
use Rattle.money.proofs.Rounding.{size, within}

none : (contract : Currency) (rate : ℕ) → Allowed contract rate 0 (pos 0)
unfolding Allowed
none contract rate = omega arith

added : (contract : Currency) (rate m n : ℕ) (x y : ℤ) → Allowed contract rate m x → Allowed contract rate n y → Allowed contract rate (m + n) (x +ℤ y)
unfolding Allowed
added contract rate m n x y h k = omega (arith, ints)

-- a remainder of 0 is allowed of any number of lines
allows_none : (contract : Currency) (rate lines : ℕ) (x : ℤ) → nat_abs x ≡ 0 → Allowed contract rate lines x
unfolding Allowed
allows_none contract rate lines x e = omega arith

-- half of what one paid cent weighs is allowed of one line
allows_half : (contract : Currency) (rate : ℕ) (x : ℤ) → 2 * nat_abs x ≤ weight (other contract) rate → Allowed contract rate 1 x
unfolding Allowed
allows_half contract rate x h = omega arith

-- a line paid unchanged leaves nothing
nothing_at_home : (cents paid remainder : ℤ) (v w : ℕ) → paid ≡ cents → v ≡ w → remainder ≡ (paid *ℤ pos v) -ℤ (cents *ℤ pos w) → nat_abs remainder ≡ 0
nothing_at_home cents paid remainder v w e f b = omega (arith, ints, rw (e, f) at b)

-- nor does a line of 0
nothing_of_nothing : (cents paid remainder : ℤ) (v w : ℕ) → nat_abs cents ≡ 0 → Nearest (cents *ℤ pos w) v paid → remainder ≡ (paid *ℤ pos v) -ℤ (cents *ℤ pos w) → nat_abs remainder ≡ 0
nothing_of_nothing cents paid remainder v w z near b =
    let owes = size cents w in
    let e : nat_abs cents * w ≡ 0 * w = ap (λ (x : ℕ). x * w) z in
    omega (arith, ints, ap nat_abs b, near.near (pos 0))

-- where the currency changes, what is paid is of the other currency
abroad : (contract : Currency) (payee : Residency) (rate : ℕ) → is_foreign contract payee ≡ true → unit payee rate ≡ weight (other contract) rate
abroad Real Resident rate e = absurd (false≢true e)
abroad Real Nonresident rate e = refl
abroad Dollar Resident rate e = refl
abroad Dollar Nonresident rate e = absurd (false≢true e)

line_by : (f z : Bool) (cents : ℤ) (contract : Currency) (payee : Residency) (rate : ℕ) (p : Payment) → 0 < rate →
    is_foreign contract payee ≡ f → eqb (nat_abs cents) 0 ≡ z → p.converted ≡ (f && not z) →
    Pays cents contract payee rate p → Allowed contract rate (line_count p.converted) p.remainder
line_by false z cents contract payee rate p some e k c h =
    allows_none contract rate _ p.remainder
    (nothing_at_home cents p.paid p.remainder _ _ (h.unchanged e) (sym (ap (λ (x : Currency). weight x rate) (at_home contract payee e))) h.balance)
line_by true true cents contract payee rate p some e k c h =
    allows_none contract rate _ p.remainder
    (nothing_of_nothing cents p.paid p.remainder _ _ (eqb-true (nat_abs cents) 0 k) h.is_nearest h.balance)
line_by true false cents contract payee rate p some e k c h =
    rw c (allows_half contract rate p.remainder
    (rw (← abroad contract payee rate e, h.balance) (within _ _ _ (weighs (paid_in payee) rate some) h.is_nearest)))

line : (cents : ℤ) (contract : Currency) (payee : Residency) (rate : ℕ) (p : Payment) → 0 < rate →
    Pays cents contract payee rate p → Allowed contract rate (line_count p.converted) p.remainder
line cents contract payee rate p some h = line_by (is_foreign contract payee) (eqb (nat_abs cents) 0) cents contract payee rate p some refl refl h.counted h

pub bound_law : BoundLaw
bound_law = record { none = none; line = line; added = added }
