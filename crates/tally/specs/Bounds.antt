-- No number of a run is large: what an engine with tables of fixed size and 64-bit numbers relies on.
use Rattle.std.specs.Prelude.{◌≡◌, ℕ, ◌+◌, ◌*◌, ◌≤◌, true, cond, List, length, ℤ, Some, None, count_by, unsigned_abs}
use Rattle.std.specs.List.{AllByRecursion}
use Rattle.money.specs.Ranges.{is_price, is_amount}
use Rattle.tally.specs.declared.rows.Account.{Account}
use Rattle.tally.specs.declared.rows.Trade.{Trade}
use Rattle.tally.specs.declared.rows.Lot.{Lot}
use Rattle.tally.specs.declared.rows.Notice.{Notice}
use Rattle.tally.specs.Account.{long, short}
use Rattle.tally.specs.Book.{Terms, View}
use Rattle.tally.specs.Events.{Event, registering, trading, quoting, noticing, designating, marking, expiring}
use Rattle.tally.specs.Law.{Buildable, Registered}
use Rattle.tally.specs.Pages.{Owed, roll, by_marking, by_expiry}
use Rattle.tally.specs.Questions.{find, net_of, opens_lot, under_notice, in_lots}
use Rattle.tally.specs.Runs.{shown}

-- a final price that a kind says is a price
abbrev pub FinalPriced : Event → Type 0
FinalPriced (registering r) = Unit {0}
FinalPriced (trading t) = Unit {0}
FinalPriced (quoting q reply) = Unit {0}
FinalPriced (noticing n) = Unit {0}
FinalPriced designating = Unit {0}
FinalPriced (marking m room) = Unit {0}
FinalPriced (expiring None room) = Unit {0}
FinalPriced (expiring (Some final) room) = is_price final ≡ true

-- at most 3,000 contracts either way
abbrev pub Limited : ℤ → Type 0
Limited z = (long z ≤ 3000) × (short z ≤ 3000)

-- one account: 3,000 contracts carried, bought, sold and net, and a total that 9,000 contracts a session at the highest price bound
pub record AccountBounded (c : Terms) (v : View) (k : ℕ) (a : Account) : Type 0 where
  pub carried_in : Limited a.carried
  pub net_in : Limited (net_of a)
  pub bought_in : a.bought ≤ 3000
  pub sold_in : a.sold ≤ 3000
  pub covered : under_notice k v.notices ≤ short (net_of a)
  pub lots_are_long : in_lots k v.lots ≡ long a.carried
  pub total_in : unsigned_abs a.total ≤ c.size * (8999991000 * (v.session + cond v.expired 1 0))

abbrev pub TradeBounded : ℕ → Trade → Type 0
TradeBounded n t = Registered n t.buyer × Registered n t.seller × (t.price ≤ 999999) × (1 ≤ t.contracts) × (t.contracts ≤ 3000)

abbrev pub LotBounded : ℕ → Lot → Type 0
LotBounded n l = Registered n l.owner × (1 ≤ l.count) × (l.count ≤ 3000)

abbrev pub NoticeBounded : ℕ → ℕ → Notice → Type 0
NoticeBounded n session x = Registered n x.seller × (1 ≤ x.count) × (x.count ≤ 3000) × (x.session ≤ session)

-- both amounts fit a line of money
abbrev pub OwedBounded : Owed → Type 0
OwedBounded o = (is_amount o.day_trade ≡ true) × (is_amount o.margin ≡ true)

-- a book after any run
pub record Bounded (c : Terms) (v : View) : Type 0 where
  pub session_from : 1 ≤ v.session
  pub session_to : v.session ≤ c.last + 1
  pub price_in : v.price ≤ 999999
  pub rate_in : v.rate ≤ 9999999
  pub few_accounts : length v.accounts ≤ 64
  pub few_trades : length v.sheet ≤ 1024
  pub few_notices : length v.notices ≤ 64
  -- the lots have room for those that the next marking opens
  pub few_lots : length v.lots + count_by opens_lot v.accounts ≤ 1024
  pub accounts_in : (k : ℕ) → Registered (length v.accounts) k → AccountBounded c v k (find v k)
  pub trades_in : AllByRecursion (TradeBounded (length v.accounts)) v.sheet
  pub lots_in : AllByRecursion (LotBounded (length v.accounts)) v.lots
  pub notices_in : AllByRecursion (NoticeBounded (length v.accounts) v.session) v.notices
  -- what any page would owe fits
  pub marking_in : (price : ℕ) → is_price price ≡ true → AllByRecursion (λ x. OwedBounded (by_marking c v price x)) (roll v)
  pub expiry_in : (final : ℕ) → is_price final ≡ true → AllByRecursion (λ x. OwedBounded (by_expiry c v final x)) (roll v)

-- and so of every run of calls
abbrev pub BoundsLaw : Type 0
BoundsLaw = (c : Terms) → Buildable c → (es : List Event) → AllByRecursion FinalPriced es → Bounded c (shown c es)
