-- A page of a ledger as the rules have it, and what a marking and an expiry leave.
use Rattle.std.proofs.Common.{◌≡◌, ℕ, ◌+◌, ◌≤◌, true, not, eqb, leb, List, [], ◌∷◌, map, length, ℤ, pos, ◌+ℤ◌, Some, None, sym, refl, ap, ◌∙◌, arith}
use lib.Lanes.{zip2}
use borrow.Author.Differences.{ints}
use Rattle.std.proofs.lemmas.Bool.{and_from, and_parts, eqb-true, le-leb, leb-true}
use Rattle.arrayvec.specs.ArrayVec.{with_items}
use Rattle.arrayvec.proofs.ArrayVecLemmas.{items-with_items}
use Rattle.money.specs.Ranges.{is_price, is_rate}
use Rattle.tally.specs.declared.call.Marking.{Marking as MarkingCall}
use Rattle.tally.specs.declared.rows.Account.{Account}
use Rattle.tally.specs.declared.rows.Lot.{Lot}
use Rattle.tally.specs.declared.rows.Trade.{Trade}
use Rattle.tally.specs.Book.{Terms, numbered}
use Rattle.tally.specs.Events.{expiring, marking}
use Rattle.tally.specs.Pages.{Listed, Owed as OwedAmounts, by_expiry, by_marking, line_of, lines, roll, row_of, sums}
use Rattle.tally.specs.Questions.{questions, verdict}
use Rattle.tally.specs.Steps.{expire, expired_account, mark, marked_account, turned}
use Rattle.tally.proofs.Facts.{met, length_numbered}
use Rattle.tally.proofs.Numbered.{map_numbered, numbered_same}
use Rattle.ledger.specs.declared.owed.Owed.{Owed}
use Rattle.ledger.specs.declared.owed.Settling.{Settling}
use Rattle.ledger.specs.declared.owed.Settling.TheVariants.{Marking, Expiry}
use Rattle.ledger.specs.declared.state.Ledger.{Ledger}
use Rattle.ledger.specs.Ledgers.{view, terms_of}
use Rattle.ledger.specs.Owings.{changed, lines_to, owed_at, row_to, settled_with}
use Rattle.ledger.specs.Payouts.{owed_by}
use Rattle.ledger.specs.Reached.{viewed}
use Rattle.ledger.proofs.Beside.{beside_numbered, length_beside}

-- ---- the page
-- what the rules owe an account
abbrev pub owes_by : Ledger → Settling → ℕ → Listed → OwedAmounts
owes_by l Marking price = by_marking (terms_of l) (view l) price
owes_by l Expiry price = by_expiry (terms_of l) (view l) price

abbrev listed : ℕ → Account → Listed
listed k a = record { number = k; account = a }

abbrev owed_of : OwedAmounts → Owed
owed_of o = record { day_trade = o.day_trade; margin = o.margin }

rows_of : (l : Ledger) (s : Settling) (price rate : ℕ) → zip2 (row_to l.terms.currency rate) (view l).accounts (owed_by l s price) ≡ map (row_of (terms_of l) rate (owes_by l s price)) (roll (view l))
rows_of l Marking price rate =
    beside_numbered (row_to l.terms.currency rate) (owed_at Marking l.terms.size (view l).sheet l.price price) 1 (view l).accounts
    ∙ sym (map_numbered (row_of (terms_of l) rate (owes_by l Marking price)) listed 1 (view l).accounts)
rows_of l Expiry price rate =
    beside_numbered (row_to l.terms.currency rate) (owed_at Expiry l.terms.size (view l).sheet l.price price) 1 (view l).accounts
    ∙ sym (map_numbered (row_of (terms_of l) rate (owes_by l Expiry price)) listed 1 (view l).accounts)

lines_of : (c : Terms) (rate : ℕ) (owes : Listed → OwedAmounts) (n : ℕ) (xs : List Account) → lines_to c.currency rate xs (numbered (λ k a. owed_of (owes (listed k a))) n xs) ≡ lines c rate owes (numbered listed n xs)
unfolding numbered lines
lines_of c rate owes n [] = refl
lines_of c rate owes n (x ∷ xs) = ap (λ ls. line_of c rate x.residency (owes (listed n x)).day_trade ∷ line_of c rate x.residency (owes (listed n x)).margin ∷ ls) (lines_of c rate owes (n + 1) xs)

all_lines : (l : Ledger) (s : Settling) (price rate : ℕ) → lines_to l.terms.currency rate (view l).accounts (owed_by l s price) ≡ lines (terms_of l) rate (owes_by l s price) (roll (view l))
all_lines l Marking price rate = lines_of (terms_of l) rate (owes_by l Marking price) 1 (view l).accounts
all_lines l Expiry price rate = lines_of (terms_of l) rate (owes_by l Expiry price) 1 (view l).accounts

module _ (l : Ledger) (s : Settling) (price : ℕ) {os : List Owed} (eo : os ≡ owed_by l s price) where
  pub page_rows : (rate : ℕ) → zip2 (row_to l.terms.currency rate) (view l).accounts os ≡ map (row_of (terms_of l) rate (owes_by l s price)) (roll (view l))
  page_rows rate = ap (zip2 (row_to l.terms.currency rate) (view l).accounts) eo ∙ rows_of l s price rate

  pub page_sums : (rate : ℕ) → sums (lines_to l.terms.currency rate (view l).accounts os) ≡ sums (lines (terms_of l) rate (owes_by l s price) (roll (view l)))
  page_sums rate = ap (λ o. sums (lines_to l.terms.currency rate (view l).accounts o)) eo ∙ ap sums (all_lines l s price rate)

  pub owed_many : length os ≡ length (view l).accounts
  owed_many = ap length eo ∙ length_numbered (owed_at s l.terms.size (view l).sheet l.price price) 1 (view l).accounts

  -- the accounts' rows after the page
  pub settled_rows : zip2 (settled_with s) (view l).accounts os ≡ numbered (λ k a. settled_with s a (owed_at s l.terms.size (view l).sheet l.price price k a)) 1 (view l).accounts
  settled_rows = ap (zip2 (settled_with s) (view l).accounts) eo ∙ beside_numbered (settled_with s) (owed_at s l.terms.size (view l).sheet l.price price) 1 (view l).accounts

-- the accounts once their slice, in which each was settled, is handed back
pub settled_back : (l : Ledger) (s : Settling) {owed os : List Owed} {xs after : List Account} → after ≡ zip2 (settled_with s) xs os → xs ≡ (view l).accounts → os ≡ owed → length owed ≡ length (view l).accounts →
    (with_items l.accounts after).items ≡ zip2 (settled_with s) (view l).accounts owed
settled_back l s {owed} {after = after} ea ex eo many =
    let e = ea ∙ (λ i. zip2 (settled_with s) (ex i) (eo i)) in
    items-with_items l.accounts after (ap length e ∙ length_beside (settled_with s) (view l).accounts owed many) ∙ e

pub price_is : (n : ℕ) → (1 ≤ n) × (n ≤ 999999) → is_price n ≡ true
price_is n h = and_from (leb 1 n) (leb n 999999) (le-leb 1 n h.0) (le-leb n 999999 h.1)

-- ---- a marking
pub record Marked (l : Ledger) (m : MarkingCall) (rows : ℕ) : Type 0 where
  pub opened : l.session ≤ l.terms.last
  pub priced : is_price m.price ≡ true
  pub rated : is_rate m.rate ≡ true
  pub room : length (view l).accounts ≤ rows

pub marking_met : (l : Ledger) (m : MarkingCall) (rows : ℕ) → verdict (terms_of l) (view l) (marking m rows) ≡ None → Marked l m rows
unfolding questions
marking_met l m rows q =
    let q2 = met _ _ q in
    let q19 = met _ _ q2.1 in
    let q7 = met _ _ q19.1 in
    let q20 = met _ _ q7.1 in
    let q21 = met _ _ q20.1 in
    record { opened = leb-true l.session l.terms.last q2.0; priced = q7.0; rated = q20.0; room = leb-true (length (view l).accounts) rows q21.0 }

-- the view that it leaves
pub closed : (l : Ledger) (m : MarkingCall) {accounts : List Account} {lots : List Lot} {price rate : ℕ} →
    accounts ≡ numbered (λ k a. settled_with Marking a (owed_at Marking l.terms.size (view l).sheet l.price m.price k a)) 1 (view l).accounts →
    lots ≡ turned l.session 1 (map changed (view l).accounts) (view l).lots → price ≡ m.price → rate ≡ m.rate →
    viewed accounts [] lots (view l).notices (l.session + 1) price rate l.expired ≡ mark (terms_of l) (view l) m
unfolding mark marked_account
closed l m ea el ep er = λ i. viewed (ea i) [] (el i) (view l).notices (l.session + 1) (ep i) (er i) l.expired

pub marked_view : (l : Ledger) (m : MarkingCall) {owed os : List Owed} {slice seen accounts : List Account} {sheet : List Trade} {lots : List Lot} {p price rate : ℕ} → p ≡ m.price → owed ≡ owed_by l Marking p →
    accounts ≡ zip2 (settled_with Marking) slice os → slice ≡ (view l).accounts → os ≡ owed → sheet ≡ [] → lots ≡ turned l.session 1 (map changed seen) (view l).lots → seen ≡ (view l).accounts → price ≡ p → rate ≡ m.rate →
    viewed (with_items l.accounts accounts).items sheet lots (view l).notices (l.session + 1) price rate l.expired ≡ mark (terms_of l) (view l) m
marked_view l m {lots = lots} {price = price} {rate = rate} ep eo ea es eos et el ev e er =
    let rows = settled_back l Marking ea es eos (owed_many l Marking _ eo) ∙ settled_rows l Marking m.price (eo ∙ ap (owed_by l Marking) ep) in
    (λ i. viewed (rows i) (et i) lots (view l).notices (l.session + 1) price rate l.expired)
    ∙ closed l m refl (el ∙ ap (λ xs. turned l.session 1 (map changed xs) (view l).lots) ev) (e ∙ ep) er

-- ---- an expiry
pub record Expiring (l : Ledger) (rows : ℕ) : Type 0 where
  pub over_last : l.session ≡ l.terms.last + 1
  pub room : length (view l).accounts ≤ rows

pub expiry_met : (l : Ledger) (final rows : ℕ) → verdict (terms_of l) (view l) (expiring (Some final) rows) ≡ None → Expiring l rows
unfolding questions
expiry_met l final rows q =
    let q22 = met _ _ q in
    let q23 = met _ _ q22.1 in
    let q21 = met _ _ q23.1 in
    let ends = (and_parts (not l.terms.delivers) _ q22.0).1 in
    record { over_last = eqb-true l.session (l.terms.last + 1) (and_parts (eqb l.session (l.terms.last + 1)) _ ends).0; room = leb-true (length (view l).accounts) rows q21.0 }

-- an expiry has no day trade
no_day_trade : (total margin : ℤ) → total +ℤ (pos 0 +ℤ margin) ≡ total +ℤ margin
no_day_trade total margin = omega (arith, ints)

expired_row : (l : Ledger) (final k : ℕ) (a : Account) → settled_with Expiry a (owed_at Expiry l.terms.size (view l).sheet l.price final k a) ≡ expired_account (terms_of l) (view l) final k a
unfolding expired_account
expired_row l final k a =
    ap (λ (z : ℤ). record { identity = a.identity; residency = a.residency; carried = pos 0; bought = a.bought; sold = a.sold; total = z })
    (no_day_trade a.total (by_expiry (terms_of l) (view l) final (listed k a)).margin)

ended : (l : Ledger) (final : ℕ) {accounts : List Account} {lots : List Lot} → accounts ≡ numbered (expired_account (terms_of l) (view l) final) 1 (view l).accounts → lots ≡ [] →
    viewed accounts (view l).sheet lots (view l).notices l.session l.price l.rate true ≡ expire (terms_of l) (view l) final
unfolding expire
ended l final ea el = λ i. viewed (ea i) (view l).sheet (el i) (view l).notices l.session l.price l.rate true

-- the view that it leaves
pub expired_view : (l : Ledger) (final : ℕ) {owed os : List Owed} {slice accounts : List Account} {lots : List Lot} → owed ≡ owed_by l Expiry final → accounts ≡ zip2 (settled_with Expiry) slice os → slice ≡ (view l).accounts → os ≡ owed → lots ≡ [] →
    viewed (with_items l.accounts accounts).items (view l).sheet lots (view l).notices l.session l.price l.rate true ≡ expire (terms_of l) (view l) final
expired_view l final eo ea es eos el =
    ended l final
    (settled_back l Expiry ea es eos (owed_many l Expiry final eo) ∙ settled_rows l Expiry final eo ∙ numbered_same _ (expired_account (terms_of l) (view l) final) 1 (view l).accounts (λ k a _ _. expired_row l final k a))
    el
