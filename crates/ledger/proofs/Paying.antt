-- Lines of a page: how large one is, and what they come to.
use Rattle.std.proofs.Common.{◌≡◌, ℕ, ◌+◌, ◌*◌, ◌<◌, ◌≤◌, Bool, true, false, List, [], ◌∷◌, length, get_or, drop, ℤ, pos, ◌+ℤ◌, ◌-ℤ◌, ◌*ℤ◌, nat_abs, Some, fold, Option, sym, refl, ap, ◌∙◌, subst, mul-le-mul_left, arith, w64, to_z, of_z, MatchOption}
use mir.Val.{bool_byte}
use borrow.Author.Differences.{ints}
use Rattle.std.proofs.lemmas.List.{drop_more, drop_all}
use Rattle.money.specs.declared.currency.Currency.{Currency}
use Rattle.money.specs.declared.currency.Currency.TheVariants.{Real, Dollar}
use Rattle.money.specs.declared.currency.Residency.{Residency}
use Rattle.money.specs.declared.currency.Residency.TheVariants.{Resident, Nonresident}
use Rattle.money.specs.declared.payment.Payment.{Payment}
use Rattle.money.specs.Bound.{line_count}
use Rattle.money.specs.Pays.{Pays, owed, payment_of, unit}
use Rattle.money.specs.Weights.{weight, paid_in}
use Rattle.money.proofs.Payments.{owed_fits}
use Rattle.money.proofs.Rounding.{size, within}
use Rattle.tally.specs.declared.rows.Account.{Account}
use Rattle.tally.specs.declared.rows.PageRow.{PageRow}
use Rattle.tally.specs.declared.rows.Sums.{Sums}
use Rattle.tally.specs.Pages.{Line, sums, sumℤ, converted_lines, paid_as}
use Rattle.ledger.specs.declared.owed.Owed.{Owed}
use Rattle.ledger.specs.Owings.{PaidIn, SumsIn, lines_to, plus_line, row_to}

-- ---- one line
weight_in : (c : Currency) (rate : ℕ) → 100000 ≤ rate → rate ≤ 9999999 → (100000 ≤ weight c rate) × (weight c rate ≤ 9999999)
weight_in Real rate low high = (omega arith, omega arith)
weight_in Dollar rate low high = (low, high)

-- a number near another is not much larger
near_size : (x n : ℤ) (d : ℕ) → 2 * nat_abs (x -ℤ n) ≤ d → d ≤ 9999999 → nat_abs n ≤ 6000000000000000000 → nat_abs x ≤ 6000000000005000000
near_size x n d half most small = omega (arith, ints)

half_size : (x : ℤ) (d : ℕ) → 2 * nat_abs x ≤ d → d ≤ 9999999 → nat_abs x ≤ 5000000
half_size x d h k = omega arith

pub line_in : (cents : ℤ) (contract : Currency) (payee : Residency) (rate : ℕ) (p : Payment) → nat_abs cents ≤ 600000000000 → 100000 ≤ rate → rate ≤ 9999999 → Pays cents contract payee rate p → PaidIn p
line_in cents contract payee rate p small low high h =
    let u = unit payee rate in
    let w = weight_in (paid_in payee) rate low high in
    let half = within (owed cents contract rate) u p.paid (omega (arith, w.0)) h.is_nearest in
    let big = near_size (p.paid *ℤ pos u) (owed cents contract rate) u half w.1 (owed_fits cents (weight contract rate) small (weight_in contract rate low high).1) in
    let least = mul-le-mul_left (nat_abs p.paid) w.0 in
    (omega (arith, size p.paid u, big, least), rw h.balance (half_size (p.paid *ℤ pos u -ℤ owed cents contract rate) u half w.1))

-- ---- lines added up
pub count_is : (b : Bool) → bool_byte b ≡ line_count b
count_is true = refl
count_is false = refl

pub same_sums : (s t : Sums) → s.reais ≡ t.reais → s.dollars ≡ t.dollars → s.remainder ≡ t.remainder → s.lines ≡ t.lines → s ≡ t
same_sums s t a b c d = λ i. record { reais = a i; dollars = b i; remainder = c i; lines = d i }

abbrev pub adding : Sums → Line → Sums
adding s l = plus_line s l.payee l.payment

abbrev pub no_sums : Sums
no_sums = record { reais = pos 0; dollars = pos 0; remainder = pos 0; lines = 0 }

regroup : (x y z : ℤ) → (x +ℤ y) +ℤ z ≡ x +ℤ (y +ℤ z)
regroup x y z = omega (arith, ints)

none_more : (x : ℤ) → x ≡ x +ℤ pos 0
none_more x = omega (arith, ints)

abbrev together : Sums → Sums → Sums
together s t = record { reais = s.reais +ℤ t.reais; dollars = s.dollars +ℤ t.dollars; remainder = s.remainder +ℤ t.remainder; lines = s.lines + t.lines }

added_from : (s : Sums) (ls : List Line) → fold adding s ls ≡ together s (sums ls)
unfolding sumℤ converted_lines
added_from s [] = same_sums s (together s (sums [])) (none_more s.reais) (none_more s.dollars) (none_more s.remainder) (omega arith)
added_from s (l ∷ ls) =
    added_from (adding s l) ls
    ∙ same_sums (together (adding s l) (sums ls)) (together s (sums (l ∷ ls))) (regroup s.reais _ _) (regroup s.dollars _ _) (regroup s.remainder _ _) (omega arith)

none_first : (x : ℤ) → pos 0 +ℤ x ≡ x
none_first x = omega (arith, ints)

pub added_up : (ls : List Line) → fold adding no_sums ls ≡ sums ls
added_up ls = added_from no_sums ls ∙ same_sums (together no_sums (sums ls)) (sums ls) (none_first _) (none_first _) (none_first _) (omega arith)

pub paid_as_in : (c : Currency) (payee : Residency) (z : ℤ) (n : ℕ) → nat_abs z ≤ n → nat_abs (paid_as c payee z) ≤ n
paid_as_in Real Resident z n h = h
paid_as_in Real Nonresident z n h = omega arith
paid_as_in Dollar Resident z n h = omega arith
paid_as_in Dollar Nonresident z n h = h

count_in : (b : Bool) → line_count b ≤ 1
count_in true = omega arith
count_in false = omega arith

grows : (x y : ℤ) (m n : ℕ) → nat_abs x ≤ m * n → nat_abs y ≤ m → nat_abs (x +ℤ y) ≤ m * (n + 1)
grows x y m n h k = omega (arith, ints)

pub sums_more : (n : ℕ) (s : Sums) (payee : Residency) (p : Payment) → SumsIn n s → PaidIn p → SumsIn (n + 1) (plus_line s payee p)
sums_more n s payee p h k = (
  grows s.reais _ 60000000000050 n h.0 (paid_as_in Real payee p.paid _ k.0),
  grows s.dollars _ 60000000000050 n h.1 (paid_as_in Dollar payee p.paid _ k.0),
  grows s.remainder p.remainder 5000000 n h.2 k.1,
  omega (arith, h.3, count_in p.converted),
)

-- what is said of the value, of the one that is there
pub of_some : {A : Type 0} (o : Option A) (x : A) (P : Type 0) (Q : A → Type 0) → MatchOption o P Q → o ≡ Some x → Q x
of_some {A = A} o x P Q h e = subst (λ (z : Option A). MatchOption z P Q) e h

-- ---- loop over the accounts: two lines of one account more
module _ (currency : Currency) (rate : ℕ) where
  pub lines_next : (xs : List Account) (os : List Owed) (i : ℕ) (d : Account) (e : Owed) (s : Sums) {t u : Sums} {p q : Payment} → i < length xs → i < length os →
      p ≡ payment_of (get_or os i e).day_trade currency (get_or xs i d).residency rate → q ≡ payment_of (get_or os i e).margin currency (get_or xs i d).residency rate →
      t ≡ plus_line s (get_or xs i d).residency p → u ≡ plus_line t (get_or xs i d).residency q →
      fold adding u (lines_to currency rate (drop (i + 1) xs) (drop (i + 1) os)) ≡ fold adding s (lines_to currency rate (drop i xs) (drop i os))
  lines_next xs os i d e s {t} {u} {p} {q} lt lo ep eq et eu =
      let payee = (get_or xs i d).residency in
      let rest = lines_to currency rate (drop (i + 1) xs) (drop (i + 1) os) in
      ap (λ z. fold adding z rest) (eu ∙ ap (λ z. plus_line z payee q) (et ∙ ap (plus_line s payee) ep) ∙ ap (plus_line _ payee) eq)
      ∙ sym (ap (λ l. fold adding s (lines_to currency rate l (drop i os))) (drop_more xs i d lt) ∙ ap (λ l. fold adding s (lines_to currency rate (get_or xs i d ∷ drop (i + 1) xs) l)) (drop_more os i e lo))

  pub lines_all : (xs : List Account) (os : List Owed) (i : ℕ) (s : Sums) → length xs ≤ i →
      fold adding s (lines_to currency rate (drop i xs) (drop i os)) ≡ fold adding no_sums (lines_to currency rate xs os) → s ≡ sums (lines_to currency rate xs os)
  lines_all xs os i s all h = sym (ap (λ l. fold adding s (lines_to currency rate l (drop i os))) (drop_all i xs all)) ∙ h ∙ added_up (lines_to currency rate xs os)

-- a signed number of a line as its bits have it
pub read_signed : (z : ℤ) (n : ℕ) → nat_abs z ≤ n → n ≤ 9000000000000000000 → to_z w64 (of_z w64 z) ≡ z
read_signed z n h k = omega (arith, ints)

-- and the sum of two
pub add_signed : (x y : ℤ) {z : ℤ} → y ≡ z → nat_abs x ≤ 1000000000000000000 → nat_abs z ≤ 1000000000000000000 → to_z w64 (of_z w64 (to_z w64 (of_z w64 x) +ℤ to_z w64 (of_z w64 y))) ≡ x +ℤ z
add_signed x y {z} e h k =
    ap (λ t. to_z w64 (of_z w64 (to_z w64 (of_z w64 x) +ℤ to_z w64 (of_z w64 t)))) e
    ∙ ap (λ t. to_z w64 (of_z w64 (t +ℤ to_z w64 (of_z w64 z)))) (read_signed x _ h (omega arith)) ∙ ap (λ t. to_z w64 (of_z w64 (x +ℤ t))) (read_signed z _ k (omega arith))
    ∙ read_signed (x +ℤ z) 2000000000000000000 (omega (arith, ints)) (omega arith)

abbrev pub row_of : ℤ → ℤ → PageRow
row_of x y = record { day_trade = x; margin = y }

-- the row of an account by what its two lines pay
pub row_is : (currency : Currency) (rate : ℕ) (a : Account) (o : Owed) (p q : Payment) {x y : ℤ} → x ≡ p.paid → y ≡ q.paid →
    p ≡ payment_of o.day_trade currency a.residency rate → q ≡ payment_of o.margin currency a.residency rate → row_of x y ≡ row_to currency rate a o
row_is currency rate a o p q {x} {y} ex ey ep eq = ap (λ z. row_of z y) (ex ∙ ap (λ (r : Payment). r.paid) ep) ∙ ap (λ z. row_of (payment_of o.day_trade currency a.residency rate).paid z) (ey ∙ ap (λ (r : Payment). r.paid) eq)

-- the sums with the two lines of an account
pub sums_first : (n : ℕ) (s : Sums) (payee : Residency) (p : Payment) {t : Sums} → t ≡ plus_line s payee p → SumsIn n s → PaidIn p → SumsIn (n + 1) t
sums_first n s payee p et h k = subst (SumsIn (n + 1)) (sym et) (sums_more n s payee p h k)

pub sums_both : (i : ℕ) (s : Sums) (payee : Residency) (p q : Payment) {t u : Sums} → t ≡ plus_line s payee p → u ≡ plus_line t payee q → SumsIn (2 * i) s → PaidIn p → PaidIn q → SumsIn (2 * (i + 1)) u
sums_both i s payee p q {t} {u} et eu h k m =
    let e : 2 * i + 1 + 1 ≡ 2 * (i + 1) = omega arith in
    subst (λ n. SumsIn n u) e (sums_first (2 * i + 1) t payee q eu (sums_first (2 * i) s payee p et h k) m)

pub sums_within : (n : ℕ) (s : Sums) → n ≤ 127 → SumsIn n s → SumsIn 127 s
sums_within n s le h = (omega (arith, h.0), omega (arith, h.1), omega (arith, h.2), omega (arith, h.3))
