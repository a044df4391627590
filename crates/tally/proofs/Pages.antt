-- A page whose owed amounts sum to zero weighs what its remainder says, and that is within what its converted lines allow.
use Rattle.std.proofs.Common.{◌≡◌, ℕ, ◌<◌, List, [], ◌∷◌, map, ℤ, pos, ◌+ℤ◌, ◌-ℤ◌, ◌*ℤ◌, sym, refl, ap, ◌∙◌, arith}
use lib.IntN.{*ℤ_comm}
use borrow.Author.Differences.{ints}
use Rattle.money.specs.declared.currency.Currency.{Currency}
use Rattle.money.specs.declared.currency.Currency.TheVariants.{Real, Dollar}
use Rattle.money.specs.declared.currency.Residency.{Residency}
use Rattle.money.specs.declared.currency.Residency.TheVariants.{Resident, Nonresident}
use Rattle.money.specs.Bound.{Allowed, line_count}
use Rattle.money.specs.Pays.{payment_of, paid_of}
use Rattle.money.specs.Weights.{weight}
use Rattle.money.proofs.Bounds.{bound_law}
use Rattle.money.proofs.Payments.{pays}
use Rattle.tally.specs.declared.call.Marking.{Marking}
use Rattle.tally.specs.Book.{Terms, Tally, seen}
use Rattle.tally.specs.Law.{Balances}
use Rattle.tally.specs.Pages.{Listed, Owed, Line, roll, lines, line_of, sumℤ, paid_as, paid_sum, remainder_sum, converted_lines, page, by_marking, by_expiry}
use Rattle.tally.proofs.Balance.{Balanced}
use Rattle.tally.proofs.Kept.{owed, owed_last, owed_zero, owed_last_zero}
use Rattle.tally.proofs.Numbered.{map_numbered, numbered_same}
use Rattle.tally.proofs.Ring.{mul_add}

-- a weight paid is the weight owed and what is left over
over_owed : (u w : ℕ) (paid owed : ℤ) → pos u *ℤ paid ≡ (pos w *ℤ owed) +ℤ ((paid *ℤ pos u) -ℤ (owed *ℤ pos w))
over_owed u w paid owed = rw (*ℤ_comm (pos u) paid, *ℤ_comm (pos w) owed) (rejoin (paid *ℤ pos u) (owed *ℤ pos w))
  where
    rejoin : (x y : ℤ) → x ≡ y +ℤ (x -ℤ y)
    rejoin x y = omega (arith, ints)

plus_none : (z : ℤ) → z +ℤ pos 0 ≡ z
plus_none z = omega (arith, ints)

none_plus : (z : ℤ) → pos 0 +ℤ z ≡ z
none_plus z = omega (arith, ints)

-- the parts of one line, each in its currency
line_weighs : (contract : Currency) (rate : ℕ) (payee : Residency) (owed : ℤ) →
    (pos 1000000 *ℤ paid_as Real payee (paid_of owed contract payee rate)) +ℤ (pos rate *ℤ paid_as Dollar payee (paid_of owed contract payee rate))
    ≡ (pos (weight contract rate) *ℤ owed) +ℤ (payment_of owed contract payee rate).remainder
line_weighs contract rate Resident owed = grind (arith, plus_none)
line_weighs contract rate Nonresident owed = grind (arith, over_owed)

regroup : (a b c d e f r s : ℤ) → a +ℤ c ≡ e +ℤ r → b +ℤ d ≡ f +ℤ s → (a +ℤ b) +ℤ (c +ℤ d) ≡ (e +ℤ f) +ℤ (r +ℤ s)
regroup a b c d e f r s p q = omega (arith, ints)

abbrev owed_sum : List Line → ℤ
owed_sum ls = sumℤ (map (λ l. l.owed) ls)

abbrev weighed : ℕ → List Line → ℤ
weighed rate ls = (pos 1000000 *ℤ paid_sum Real ls) +ℤ (pos rate *ℤ paid_sum Dollar ls)

-- one line more
weighs_more : (c : Terms) (rate : ℕ) (payee : Residency) (amount : ℤ) (ls : List Line) →
    weighed rate ls ≡ (pos (weight c.currency rate) *ℤ owed_sum ls) +ℤ remainder_sum ls →
    weighed rate (line_of c rate payee amount ∷ ls) ≡ (pos (weight c.currency rate) *ℤ owed_sum (line_of c rate payee amount ∷ ls)) +ℤ remainder_sum (line_of c rate payee amount ∷ ls)
unfolding sumℤ
weighs_more c rate payee amount ls h =
    let own = weight c.currency rate in
    let paid = paid_of amount c.currency payee rate in
    let r = paid_as Real payee paid in
    let d = paid_as Dollar payee paid in
    let left = (payment_of amount c.currency payee rate).remainder in
    ap (λ z. z +ℤ (pos rate *ℤ (d +ℤ paid_sum Dollar ls))) (mul_add (pos 1000000) r (paid_sum Real ls))
    ∙ ap (λ z. ((pos 1000000 *ℤ r) +ℤ (pos 1000000 *ℤ paid_sum Real ls)) +ℤ z) (mul_add (pos rate) d (paid_sum Dollar ls))
    ∙ regroup (pos 1000000 *ℤ r) (pos 1000000 *ℤ paid_sum Real ls) (pos rate *ℤ d) (pos rate *ℤ paid_sum Dollar ls) (pos own *ℤ amount) (pos own *ℤ owed_sum ls) left (remainder_sum ls)
    (line_weighs c.currency rate payee amount) h
    ∙ ap (λ z. z +ℤ (left +ℤ remainder_sum ls)) (sym (mul_add (pos own) amount (owed_sum ls)))

module _ (c : Terms) (rate : ℕ) (some : 0 < rate) (owes : Listed → Owed) where
  weighs : (xs : List Listed) → weighed rate (lines c rate owes xs) ≡ (pos (weight c.currency rate) *ℤ owed_sum (lines c rate owes xs)) +ℤ remainder_sum (lines c rate owes xs)
  unfolding lines sumℤ
  weighs [] = nothing (weight c.currency rate)
    where
      nothing : (own : ℕ) → (pos 1000000 *ℤ pos 0) +ℤ (pos rate *ℤ pos 0) ≡ (pos own *ℤ pos 0) +ℤ pos 0
      nothing own = omega (arith, ints)
  weighs (x ∷ xs) =
      weighs_more c rate x.account.residency (owes x).day_trade (line_of c rate x.account.residency (owes x).margin ∷ lines c rate owes xs)
      (weighs_more c rate x.account.residency (owes x).margin (lines c rate owes xs) (weighs xs))

  allowed_more : (payee : Residency) (amount : ℤ) (ls : List Line) → Allowed c.currency rate (converted_lines ls) (remainder_sum ls) →
      Allowed c.currency rate (converted_lines (line_of c rate payee amount ∷ ls)) (remainder_sum (line_of c rate payee amount ∷ ls))
  unfolding converted_lines sumℤ
  allowed_more payee amount ls h =
      bound_law.added c.currency rate (line_count (payment_of amount c.currency payee rate).converted) (converted_lines ls) (payment_of amount c.currency payee rate).remainder (remainder_sum ls)
      (bound_law.line amount c.currency payee rate (payment_of amount c.currency payee rate) some (pays amount c.currency payee rate some)) h

  allowed : (xs : List Listed) → Allowed c.currency rate (converted_lines (lines c rate owes xs)) (remainder_sum (lines c rate owes xs))
  unfolding lines converted_lines sumℤ
  allowed [] = bound_law.none c.currency rate
  allowed (x ∷ xs) =
      allowed_more x.account.residency (owes x).day_trade (line_of c rate x.account.residency (owes x).margin ∷ lines c rate owes xs)
      (allowed_more x.account.residency (owes x).margin (lines c rate owes xs) (allowed xs))

  -- what the lines owe is what the accounts are owed
  owed_both : (xs : List Listed) → owed_sum (lines c rate owes xs) ≡ sumℤ (map (λ x. (owes x).day_trade +ℤ (owes x).margin) xs)
  unfolding lines sumℤ
  owed_both [] = refl
  owed_both (x ∷ xs) = joins (owes x).day_trade (owes x).margin (owed_both xs)
    where
      joins : {z w : ℤ} (d m : ℤ) → z ≡ w → d +ℤ (m +ℤ z) ≡ (d +ℤ m) +ℤ w
      joins d m e = omega (arith, ints)

  pub balances : (xs : List Listed) → sumℤ (map (λ x. (owes x).day_trade +ℤ (owes x).margin) xs) ≡ pos 0 → Balances c rate (page c rate owes xs)
  balances xs z = record {
    weighs = grind (arith, weighs, owed_both);
    allowed = allowed xs;
  }
    where
      none : (own : ℕ) (r : ℤ) → (pos own *ℤ pos 0) +ℤ r ≡ r
      none own r = omega (arith, ints)

-- ---- the page of a marking, and of an expiry
pub marking_balances : (c : Terms) (t : Tally) (m : Marking) → Balanced t → 0 < m.rate →
    Balances c m.rate (page c m.rate (by_marking c (seen c.size t) m.price) (roll (seen c.size t)))
unfolding owed
marking_balances c t m h some =
    let v = seen c.size t in
    let owes = by_marking c v m.price in
    balances c m.rate some owes (roll v)
    (ap sumℤ (map_numbered (λ x. (owes x).day_trade +ℤ (owes x).margin) (λ k a. record { number = k; account = a }) 1 v.accounts) ∙ owed_zero c t m h)

pub expiry_balances : (c : Terms) (t : Tally) (final : ℕ) → Balanced t → 0 < t.rate →
    Balances c t.rate (page c t.rate (by_expiry c (seen c.size t) final) (roll (seen c.size t)))
unfolding owed_last
expiry_balances c t final h some =
    let v = seen c.size t in
    let owes = by_expiry c v final in
    balances c t.rate some owes (roll v)
    (ap sumℤ (map_numbered (λ x. (owes x).day_trade +ℤ (owes x).margin) (λ k a. record { number = k; account = a }) 1 v.accounts
    ∙ numbered_same (λ k a. (owes (record { number = k; account = a })).day_trade +ℤ (owes (record { number = k; account = a })).margin) (λ k a. (owes (record { number = k; account = a })).margin) 1 v.accounts (λ k a _ _. none_plus _))
    ∙ owed_last_zero c t final h)
