-- The settlement law: what holds of every run of calls, over its log.
use Rattle.std.specs.Prelude.{◌≡◌, ℕ, ◌+◌, ◌<◌, ◌≤◌, true, false, List, [], ◌∷◌, ◌++◌, map, length, ℤ, pos, ◌+ℤ◌, ◌-ℤ◌, ◌*ℤ◌, Some, None, ◌≢◌}
use Rattle.std.specs.List.{AllByRecursion}
use Rattle.money.specs.Bound.{Allowed}
use Rattle.tally.specs.declared.rows.Lot.{Lot}
use Rattle.tally.specs.declared.rows.Notice.{Notice}
use Rattle.tally.specs.declared.call.Marking.{Marking}
use Rattle.tally.specs.Account.{long}
use Rattle.tally.specs.Book.{Terms, View, Tally, seen}
use Rattle.tally.specs.Events.{Event, registering, trading, quoting, noticing, designating, marking, expiring}
use Rattle.tally.specs.Logs.{bought, sold, markings, settlement_price, settlement_rate, carried_by, value, noticed, designations, sellers, designated, before}
use Rattle.tally.specs.Pages.{Page, sumℤ}
use Rattle.tally.specs.Questions.{find, in_lots, is_buildable, is_due, verdict}
use Rattle.tally.specs.Runs.{entry, log, log_from, page_of, shown, tally}

-- k is the number of one of n accounts
abbrev pub Registered : ℕ → ℕ → Type 0
Registered n k = (1 ≤ k) × (k ≤ n)

-- the totals of all accounts
abbrev pub totals : View → List ℤ
totals v = map (λ a. a.total) v.accounts

-- the rate that a page is converted and weighed at
abbrev pub page_rate : View → Event → ℕ
page_rate v (registering r) = 0
page_rate v (trading t) = 0
page_rate v (quoting q reply) = 0
page_rate v (noticing n) = 0
page_rate v designating = 0
page_rate v (marking m room) = m.rate
page_rate v (expiring final room) = v.rate

-- a page balances: what it pays weighs what its remainder says, and that is within what its converted lines allow
pub record Balances (c : Terms) (rate : ℕ) (p : Page) : Type 0 where
  pub weighs : (pos 1000000 *ℤ p.totals.reais) +ℤ (pos rate *ℤ p.totals.dollars) ≡ p.totals.remainder
  pub allowed : Allowed c.currency rate p.totals.lines p.totals.remainder

-- a lot comes behind another one: of a later session, or of the same session and a later account
abbrev pub Behind : ℕ → ℕ → Lot → Type 0
Behind session k l = (session ≤ l.session) × (session ≡ l.session → k < l.owner)

-- lots lie in order of session, and within one of account number, all of sessions before the open one
abbrev pub LotsInOrder : ℕ → ℕ → ℕ → List Lot → Type 0
LotsInOrder session k now_open [] = Unit {0}
LotsInOrder session k now_open (l ∷ ls) = Behind session k l × (l.session < now_open) × (1 ≤ l.count) × LotsInOrder l.session l.owner now_open ls

-- what holds of a call that a run meets
pub record Met (c : Terms) (t : Tally) (e : Event) : Type 0 where
  -- the page that it writes balances
  pub page_balances : (p : Page) → verdict c (seen c.size t) e ≡ None → page_of c (seen c.size t) e ≡ Some p → Balances c (page_rate (seen c.size t) e) p
  -- no marking is accepted while a notice of an earlier session stands
  pub notices_come_first : (m : Marking) (room : ℕ) → e ≡ marking m room → verdict c (seen c.size t) e ≡ None → AllByRecursion (λ n. n.session ≡ t.session) t.notices
  -- a designation is refused only where none is due
  pub refused_if_none_due : e ≡ designating → (verdict c (seen c.size t) e ≢ None) → is_due t.session t.notices ≡ false
  -- with a due notice there is always a lot, of no later session than any other
  pub oldest_lot_found : (n : Notice) (ns : List Notice) → t.notices ≡ n ∷ ns → n.session < t.session → (l : Lot) × (ls : List Lot) × (t.lots ≡ l ∷ ls) × AllByRecursion (λ x. l.session ≤ x.session) ls

-- the settlement law of a run
pub record Settled (c : Terms) (es : List Event) : Type 0 where
  -- the book, which adds up as it goes, shows the tally, which adds nothing up
  pub shows_the_tally : shown c es ≡ seen c.size (tally c es)
  -- counted: the session is one more than the markings accepted
  pub session_counted : (shown c es).session ≡ 1 + markings (log c es)
  -- the last settlement price and rate are the last marking's
  pub price_settled : (shown c es).price ≡ settlement_price (log c es)
  pub rate_settled : (shown c es).rate ≡ settlement_rate (log c es)
  -- carried is bought minus sold
  pub carried_counted : (k : ℕ) → Registered (length (shown c es).accounts) k → (find (shown c es) k).carried ≡ carried_by (log c es) k
  -- totals match positions
  pub totals_match_positions : (k : ℕ) → Registered (length (shown c es).accounts) k →
      (find (shown c es) k).total ≡ pos c.size *ℤ (((carried_by (log c es) k *ℤ pos (settlement_price (log c es))) +ℤ pos (value sold (log c es) k)) -ℤ pos (value bought (log c es) k))
  pub totals_sum_to_zero : sumℤ (totals (shown c es)) ≡ pos 0
  -- an account's lots sum to its long contracts
  pub lots_are_long : (k : ℕ) → Registered (length (shown c es).accounts) k → in_lots k (shown c es).lots ≡ long (find (shown c es) k).carried
  pub lots_in_order : LotsInOrder 0 0 (shown c es).session (shown c es).lots
  -- unit by unit and in order: contracts noticed are contracts designated, followed by contracts standing
  pub designated_in_order : sellers (noticed (log c es)) ≡ designated (designations (log c es)) ++ sellers (shown c es).notices
  -- once session s is marked, the contracts noticed before it are, in order, the first that were designated
  pub designated_once : (s : ℕ) → s < (shown c es).session → (rest : List ℕ) × (designated (designations (log c es)) ≡ sellers (before s (noticed (log c es))) ++ rest)
  -- wherever a call stands in the run, the log has what it was answered, and it is met as it should be
  pub calls_met : (front : List Event) (e : Event) (back : List Event) → es ≡ front ++ e ∷ back →
      Met c (tally c front) e × (log c es ≡ log c front ++ entry c (seen c.size (tally c front)) e ∷ log_from c (tally c (front ++ e ∷ [])) back)

-- terms that a book can be built on
pub record Buildable (c : Terms) : Type 0 where
  pub built : is_buildable c ≡ true
  pub sized : (1 ≤ c.size) × (c.size ≤ 100)

-- the law, of every run of calls on such terms
abbrev pub SettlementLaw : Type 0
SettlementLaw = (c : Terms) → Buildable c → (es : List Event) → Settled c es
