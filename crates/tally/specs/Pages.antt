-- A page: what it owes each account, what each line pays, and what it comes to.
use Rattle.std.specs.Prelude.{ℕ, ◌+◌, List, [], ◌∷◌, map, ℤ, pos, ◌+ℤ◌, ◌-ℤ◌, ◌*ℤ◌}
use Rattle.money.specs.declared.currency.Currency.{Currency}
use Rattle.money.specs.declared.currency.Currency.TheVariants.{Real, Dollar}
use Rattle.money.specs.declared.currency.Residency.{Residency}
use Rattle.money.specs.declared.currency.Residency.TheVariants.{Resident, Nonresident}
use Rattle.money.specs.declared.payment.Payment.{Payment}
use Rattle.money.specs.Bound.{line_count}
use Rattle.money.specs.Pays.{payment_of}
use Rattle.tally.specs.declared.rows.Account.{Account}
use Rattle.tally.specs.declared.rows.PageRow.{PageRow}
use Rattle.tally.specs.declared.rows.Sums.{Sums}
use Rattle.tally.specs.Account.{day_trade, margin}
use Rattle.tally.specs.Book.{Terms, View, numbered, prices, buys, sells}

-- an account with its number
pub record Listed : Type 0 where
  pub number : ℕ
  pub account : Account

-- all accounts, in number order
abbrev pub roll : View → List Listed
roll v = numbered (λ k a. record { number = k; account = a }) 1 v.accounts

-- what one account is owed on a page, in the contract's currency
pub record Owed : Type 0 where
  pub day_trade : ℤ
  pub margin : ℤ

-- by a marking at a price
abbrev pub by_marking : Terms → View → ℕ → Listed → Owed
by_marking c v price x =
    let bought = prices x.number (buys v.sheet) in
    let sold = prices x.number (sells v.sheet) in
    record { day_trade = day_trade c.size bought sold; margin = margin c.size x.account.carried v.price price bought sold }

-- by an expiry at a final price: size × carried × (final price − last settlement price), and no day trade
abbrev pub by_expiry : Terms → View → ℕ → Listed → Owed
by_expiry c v final x = record { day_trade = pos 0; margin = pos c.size *ℤ (x.account.carried *ℤ (pos final -ℤ pos v.price)) }

-- a line: what is owed, to whom, and what it pays
pub record Line : Type 0 where
  pub owed : ℤ
  pub payee : Residency
  pub payment : Payment

-- each line is converted by itself
abbrev pub line_of : Terms → ℕ → Residency → ℤ → Line
line_of c rate payee owed = record { owed = owed; payee = payee; payment = payment_of owed c.currency payee rate }

-- the two lines of each account
unfoldable pub lines : Terms → ℕ → (Listed → Owed) → List Listed → List Line
lines c rate owes [] = []
lines c rate owes (x ∷ xs) =
    line_of c rate x.account.residency (owes x).day_trade ∷ line_of c rate x.account.residency (owes x).margin ∷ lines c rate owes xs

-- an account's row: what its two lines pay
abbrev pub row_of : Terms → ℕ → (Listed → Owed) → Listed → PageRow
row_of c rate owes x = record {
  day_trade = (payment_of (owes x).day_trade c.currency x.account.residency rate).paid;
  margin = (payment_of (owes x).margin c.currency x.account.residency rate).paid;
}

-- the sum of signed amounts
unfoldable pub sumℤ : List ℤ → ℤ
sumℤ [] = pos 0
sumℤ (z ∷ zs) = z +ℤ sumℤ zs

-- what a line pays in one of the currencies
abbrev pub paid_as : Currency → Residency → ℤ → ℤ
paid_as Real Resident z = z
paid_as Real Nonresident z = pos 0
paid_as Dollar Resident z = pos 0
paid_as Dollar Nonresident z = z

abbrev pub paid_sum : Currency → List Line → ℤ
paid_sum currency ls = sumℤ (map (λ l. paid_as currency l.payee l.payment.paid) ls)

-- what lines leave over in all
abbrev pub remainder_sum : List Line → ℤ
remainder_sum ls = sumℤ (map (λ l. l.payment.remainder) ls)

-- how many of them count as converted
unfoldable pub converted_lines : List Line → ℕ
converted_lines [] = 0
converted_lines (l ∷ ls) = line_count l.payment.converted + converted_lines ls

-- what a page comes to
abbrev pub sums : List Line → Sums
sums ls = record { reais = paid_sum Real ls; dollars = paid_sum Dollar ls; remainder = remainder_sum ls; lines = converted_lines ls }

-- the rows of a page and what it comes to
pub record Page : Type 0 where
  pub rows : List PageRow
  pub totals : Sums

abbrev pub page : Terms → ℕ → (Listed → Owed) → List Listed → Page
page c rate owes xs = record { rows = map (row_of c rate owes) xs; totals = sums (lines c rate owes xs) }
