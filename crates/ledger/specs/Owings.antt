-- What a page owes each account, and what it then pays, row beside row.
use Rattle.std.specs.Prelude.{◌≡◌, ℕ, ◌+◌, ◌*◌, ◌≤◌, List, [], ◌∷◌, length, ℤ, pos, ◌+ℤ◌, ◌-ℤ◌, ◌*ℤ◌, unsigned_abs}
use Rattle.money.specs.declared.currency.Currency.{Currency}
use Rattle.money.specs.declared.currency.Currency.TheVariants.{Real, Dollar}
use Rattle.money.specs.declared.currency.Residency.{Residency}
use Rattle.money.specs.declared.payment.Payment.{Payment}
use Rattle.money.specs.Bound.{line_count}
use Rattle.money.specs.Pays.{payment_of}
use Rattle.tally.specs.declared.rows.Account.{Account}
use Rattle.tally.specs.declared.rows.PageRow.{PageRow}
use Rattle.tally.specs.declared.rows.Sums.{Sums}
use Rattle.tally.specs.declared.rows.Trade.{Trade}
use Rattle.tally.specs.Account.{day_trade, margin}
use Rattle.tally.specs.Book.{prices, buys, sells}
use Rattle.tally.specs.Pages.{Line, Owed, paid_as}
use Rattle.tally.specs.Questions.{net_of}
use Rattle.tally.specs.Steps.{Change}
use Rattle.ledger.specs.Limits.{InLimits}
use Rattle.ledger.specs.declared.owed.Settling.{Settling}
use Rattle.ledger.specs.declared.owed.Settling.TheVariants.{Marking, Expiry}

-- what a marking owes account k, by the sheet
abbrev pub marking_owed : ℕ → List Trade → ℕ → ℕ → ℕ → Account → Owed
marking_owed size sheet last price k a = record {
  day_trade = day_trade size (prices k (buys sheet)) (prices k (sells sheet));
  margin = margin size a.carried last price (prices k (buys sheet)) (prices k (sells sheet));
}

-- what an expiry owes an account, whatever its number
abbrev pub expiry_owed : ℕ → ℕ → ℕ → Account → Owed
expiry_owed size last final a = record { day_trade = pos 0; margin = pos size *ℤ (a.carried *ℤ (pos final -ℤ pos last)) }

-- by what the page settles
abbrev pub owed_at : Settling → ℕ → List Trade → ℕ → ℕ → ℕ → Account → Owed
owed_at Marking size sheet last price k a = marking_owed size sheet last price k a
owed_at Expiry size sheet last price k a = expiry_owed size last price a

-- an account that has bought and sold what the sheet says
abbrev pub Dealt : List Trade → ℕ → Account → Type 0
Dealt sheet k a = (a.bought ≡ length (prices k (buys sheet))) × (a.sold ≡ length (prices k (sells sheet)))

-- what is known of account k before a page: its contracts are within the limits, and it has dealt what the sheet says
abbrev pub Owable : List Trade → ℕ → Account → Type 0
Owable sheet k a = InLimits a × Dealt sheet k a

-- ---- what is paid
abbrev pub line_to : Currency → ℕ → Residency → ℤ → Line
line_to currency rate payee owed = record { owed = owed; payee = payee; payment = payment_of owed currency payee rate }

-- the two lines of each account
abbrev pub lines_to : Currency → ℕ → List Account → List Owed → List Line
lines_to currency rate [] os = []
lines_to currency rate (a ∷ xs) [] = []
lines_to currency rate (a ∷ xs) (o ∷ os) =
    line_to currency rate a.residency o.day_trade ∷ line_to currency rate a.residency o.margin ∷ lines_to currency rate xs os

-- an account's row
abbrev pub row_to : Currency → ℕ → Account → Owed → PageRow
row_to currency rate a o = record {
  day_trade = (payment_of o.day_trade currency a.residency rate).paid;
  margin = (payment_of o.margin currency a.residency rate).paid;
}

-- a page's sums with one line more
abbrev pub plus_line : Sums → Residency → Payment → Sums
plus_line s payee p = record {
  reais = s.reais +ℤ paid_as Real payee p.paid;
  dollars = s.dollars +ℤ paid_as Dollar payee p.paid;
  remainder = s.remainder +ℤ p.remainder;
  lines = s.lines + line_count p.converted;
}

-- what one line pays and leaves at most
abbrev pub PaidIn : Payment → Type 0
PaidIn p = (unsigned_abs p.paid ≤ 60000000000050) × (unsigned_abs p.remainder ≤ 5000000)

-- what so many lines come to at most
abbrev pub SumsIn : ℕ → Sums → Type 0
SumsIn n s = (unsigned_abs s.reais ≤ 60000000000050 * n) × (unsigned_abs s.dollars ≤ 60000000000050 * n) × (unsigned_abs s.remainder ≤ 5000000 * n) × (s.lines ≤ n)

-- ---- what becomes of an account
-- at a marking: both amounts are added to its total, and its net is carried
abbrev pub marked_with : Account → Owed → Account
marked_with a o = record { identity = a.identity; residency = a.residency; carried = net_of a; bought = 0; sold = 0; total = a.total +ℤ (o.day_trade +ℤ o.margin) }

-- at an expiry: nothing is carried any more
abbrev pub expired_with : Account → Owed → Account
expired_with a o = record { identity = a.identity; residency = a.residency; carried = pos 0; bought = a.bought; sold = a.sold; total = a.total +ℤ (o.day_trade +ℤ o.margin) }

-- by what the page settles
abbrev pub settled_with : Settling → Account → Owed → Account
settled_with Marking a o = marked_with a o
settled_with Expiry a o = expired_with a o

-- how a marking changes the contracts of an account
abbrev pub changed : Account → Change
changed a = record { before = a.carried; after = net_of a }
