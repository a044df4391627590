-- What every run keeps of the numbers of a ledger, account by account and row by row.
use Rattle.std.proofs.Common.{◌≡◌, ℕ, ◌+◌, ◌-◌, ◌*◌, ◌<◌, ◌≤◌, cond, length, get_or, nat_abs, count_by, sym, ap, ◌∙◌, subst, arith}
use mathlib.Core.Logic.{∥∥₁_elim}
use native.Mathlib.Bridge.{le_prop}
use borrow.Author.Differences.{ints}
use Rattle.std.specs.List.{AllByRecursion}
use Rattle.std.proofs.lemmas.Nat.{mul-le}
use Rattle.std.proofs.ByRecursion.{All-get_or, All-from_get_or}
use Rattle.std.proofs.lemmas.Bool.{and_parts, cond_both}
use Rattle.tally.specs.declared.rows.Account.{Account}
use Rattle.tally.specs.Book.{Terms, View, Tally, account, buys, prices, seen, sells}
use Rattle.tally.specs.Bounds.{Bounded, TradeBounded}
use Rattle.tally.specs.Law.{Buildable, Registered}
use Rattle.tally.specs.Questions.{find, is_buildable, nobody, opens_lot}
use Rattle.tally.specs.Runs.{tally}
use Rattle.tally.proofs.Facts.{between_is, length_numbered}
use Rattle.tally.proofs.Law.{shows_account}
use Rattle.tally.proofs.Runs.{no_window, shown_is_seen}
use Rattle.ledger.specs.Limits.{AccountIn, InLimits}
use Rattle.ledger.specs.declared.state.Ledger.{Ledger}
use Rattle.ledger.specs.Ledgers.{view, terms_of}
use Rattle.ledger.specs.Owings.{Dealt, Owable}
use Rattle.ledger.specs.Reached.{Reached}
use Rattle.ledger.specs.Sheets.{no_trade}
use Rattle.ledger.proofs.Tables.{bounded}

-- ---- of a run
pub last_in : (c : Terms) → Buildable c → (1 ≤ c.last) × (c.last ≤ 260)
unfolding is_buildable
last_in c b = between_is 1 260 c.last (and_parts _ _ b.built).0

-- account number i + 1 is the row i
row_number : (v : View) (i : ℕ) → find v (i + 1) ≡ get_or v.accounts i nobody
row_number v i = let e : i + 1 - 1 ≡ i = omega arith in ap (λ n. get_or v.accounts n nobody) e

-- what an account has bought and sold is what the sheet says
counts : (size : ℕ) (t : Tally) (k : ℕ) (a : Account) (p : _) → a ≡ account size t k p → Dealt t.waiting k a
unfolding account
counts size t k a p e = (ap (λ x. x.bought) e, ap (λ x. x.sold) e)

dealt_seen : (c : Terms) (t : Tally) (k : ℕ) → Registered (length (seen c.size t).accounts) k → Dealt t.waiting k (find (seen c.size t) k)
dealt_seen c t k r = counts c.size t k _ _ (shows_account c t k (r.0, omega (arith, r.1, length_numbered (account c.size t) 1 t.parties)))

dealt_reached : (c : Terms) (v : View) → Reached c v → (k : ℕ) → Registered (length v.accounts) k → Dealt v.sheet k (find v k)
dealt_reached c v r =
    subst (λ (w : View). (k : ℕ) → Registered (length w.accounts) k → Dealt w.sheet k (find w k))
    (sym (r.shows ∙ shown_is_seen c (no_window c r.buildable) r.calls)) (dealt_seen c (tally c r.calls))

-- a total after at most 261 sessions and an expiry, of a contract of at most 100 units
total_small : (size session extra n : ℕ) → n ≤ size * (8999991000 * (session + extra)) → size ≤ 100 → session ≤ 261 → extra ≤ 1 → n ≤ 1000000000000000
total_small size session extra n h s t e = omega (arith, mul-le size (8999991000 * (session + extra)) 100 2357997642000 s (omega arith))

-- ---- of a ledger
module _ (l : Ledger) where
  -- an inequality that holds of every run to here holds
  pub holds : {a b : ℕ} → (Reached (terms_of l) (view l) → a ≤ b) → a ≤ b
  holds f = ∥∥₁_elim l.reached le_prop f

  known : {a b : ℕ} → (Bounded (terms_of l) (view l) → a ≤ b) → a ≤ b
  known f = holds (λ r. f (bounded (terms_of l) (view l) r))

  pub size_in : l.terms.size ≤ 100
  size_in = holds (λ r. r.buildable.sized.1)

  pub session_in : l.session ≤ 261
  session_in = holds (λ r. omega (arith, (bounded (terms_of l) (view l) r).session_to, (last_in (terms_of l) r.buildable).1))

  pub price_in : l.price ≤ 999999
  price_in = known (λ b. b.price_in)

  pub last_small : l.terms.last ≤ 260
  last_small = holds (λ r. (last_in (terms_of l) r.buildable).1)

  pub few_accounts : length (view l).accounts ≤ 64
  few_accounts = known (λ b. b.few_accounts)

  pub few_lots : length (view l).lots + count_by opens_lot (view l).accounts ≤ 1024
  few_lots = known (λ b. b.few_lots)

  pub sheet_counted : (i : ℕ) → i < length (view l).sheet → (get_or (view l).sheet i no_trade).contracts ≤ 3000
  sheet_counted i lt = known (λ b. (All-get_or (TradeBounded (length (view l).accounts)) (view l).sheet i no_trade lt b.trades_in).4)

  pub sheet_priced : (i : ℕ) → i < length (view l).sheet → (get_or (view l).sheet i no_trade).price ≤ 999999
  sheet_priced i lt = known (λ b. (All-get_or (TradeBounded (length (view l).accounts)) (view l).sheet i no_trade lt b.trades_in).2)

  module _ (i : ℕ) (lt : i < length (view l).accounts) where
    here : Registered (length (view l).accounts) (i + 1)
    here = (omega arith, omega arith)

    account_known : (f : Account → ℕ) {n : ℕ} → (Bounded (terms_of l) (view l) → f (find (view l) (i + 1)) ≤ n) → f (get_or (view l).accounts i nobody) ≤ n
    account_known f {n} g = subst (λ (a : Account). f a ≤ n) (row_number (view l) i) (known g)

    account_in : AccountIn (get_or (view l).accounts i nobody)
    account_in = (
      (
        account_known (λ a. nat_abs a.carried) (λ b. let z = (b.accounts_in (i + 1) here).carried_in in omega (arith, ints, z.0, z.1)),
        account_known (λ a. a.bought) (λ b. (b.accounts_in (i + 1) here).bought_in),
        account_known (λ a. a.sold) (λ b. (b.accounts_in (i + 1) here).sold_in),
      ),
      account_known (λ a. nat_abs a.total) (λ b. total_small l.terms.size l.session (cond l.expired 1 0) _ (b.accounts_in (i + 1) here).total_in size_in session_in (cond_both l.expired 1 0 (λ n. n ≤ 1) (λ _. omega arith) (λ _. omega arith))),
    )

    pub dealt : Dealt (view l).sheet (i + 1) (get_or (view l).accounts i nobody)
    dealt =
        let find_is = row_number (view l) i in
        let k = i + 1 in
        let bs = length (prices k (buys (view l).sheet)) in
        let ss = length (prices k (sells (view l).sheet)) in
        let d = λ (r : Reached (terms_of l) (view l)). dealt_reached (terms_of l) (view l) r k here in
        let b1 : (find (view l) k).bought ≤ bs = holds (λ r. omega (arith, (d r).0)) in
        let b2 : bs ≤ (find (view l) k).bought = holds (λ r. omega (arith, (d r).0)) in
        let s1 : (find (view l) k).sold ≤ ss = holds (λ r. omega (arith, (d r).1)) in
        let s2 : ss ≤ (find (view l) k).sold = holds (λ r. omega (arith, (d r).1)) in
        (sym (ap (λ a. a.bought) find_is) ∙ omega arith, sym (ap (λ a. a.sold) find_is) ∙ omega arith)

  pub accounts_in : AllByRecursion AccountIn (view l).accounts
  accounts_in = All-from_get_or AccountIn (view l).accounts nobody account_in

  pub contracts_in : AllByRecursion InLimits (view l).accounts
  contracts_in = All-from_get_or InLimits (view l).accounts nobody (λ i lt. (account_in i lt).0)

  -- what a page has to know of each account
  pub owable : (i : ℕ) → i < length (view l).accounts → Owable (view l).sheet (i + 1) (get_or (view l).accounts i nobody)
  owable i lt = ((account_in i lt).0, dealt i lt)
