-- A trade: what its questions tell, and what its rows make of the view.
use Rattle.std.proofs.Common.{◌≡◌, ℕ, ◌+◌, ◌-◌, ◌<◌, ◌≤◌, Bool, true, cond, not, ◌&&◌, eqb, leb, List, [], ◌∷◌, ◌++◌, length, get_or, take, set, nat_abs, None, count_by, sym, ap, ◌∙◌, subst, ⊎_elim, add-zero, arith}
use mathlib.Core.Logic.{∥∥₁_elim}
use native.Mathlib.Bridge.{le_prop}
use borrow.Author.Differences.{ints}
use Rattle.std.proofs.lemmas.List.{take_all}
use Rattle.std.proofs.lemmas.List.Sums.{sum_by_more}
use Rattle.std.proofs.lemmas.Bool.{and_parts, not-true, eqb-false, leb-true, ltb-true, cases_eq, eq-eqb, ne_eqb}
use Rattle.arrayvec.specs.ArrayVec.{with_items}
use Rattle.tally.specs.declared.rows.Account.{Account}
use Rattle.tally.specs.declared.rows.Trade.{Trade}
use Rattle.tally.specs.Book.{numbered}
use Rattle.tally.specs.Events.{trading}
use Rattle.tally.specs.Law.{Registered}
use Rattle.tally.specs.Questions.{at_most_3000, between, find, net_of, nobody, opens_lot, questions, registered, traded_account, verdict}
use Rattle.tally.specs.Steps.{trade}
use Rattle.tally.proofs.Facts.{between_is, get_d_numbered, length_numbered, met}
use Rattle.ledger.specs.Limits.{InLimits}
use Rattle.ledger.specs.declared.state.Ledger.{Ledger}
use Rattle.ledger.specs.Ledgers.{view, terms_of}
use Rattle.ledger.specs.Reached.{viewed}
use Rattle.ledger.specs.Trades.{are_parties, buyer_net, keeps_day_limits, keeps_limits, seller_net}
use Rattle.ledger.proofs.Changes.{handed_back, numbered_both}
use Rattle.ledger.proofs.Tables.{bounded, contracts, is_registered, registers}

-- the two sides of a trade
pub record Parties (l : Ledger) (t : Trade) : Type 0 where
  pub buyer : registered (view l) t.buyer ≡ true
  pub seller : registered (view l) t.seller ≡ true
  pub apart : t.buyer ≡ t.seller → ⊥

pub parties : (l : Ledger) (t : Trade) → are_parties (view l) t ≡ true → Parties l t
parties l t e =
    let p = and_parts (registered (view l) t.buyer) (registered (view l) t.seller && not (eqb t.buyer t.seller)) e in
    let q = and_parts (registered (view l) t.seller) (not (eqb t.buyer t.seller)) p.1 in
    record { buyer = p.0; seller = q.0; apart = eqb-false t.buyer t.seller (not-true (eqb t.buyer t.seller) q.1) }

-- the net of an account is within its limit
net_within : (l : Ledger) (k : ℕ) → registered (view l) k ≡ true → nat_abs (net_of (find (view l) k)) ≤ 3000
net_within l k e = ∥∥₁_elim l.reached le_prop (λ x. let b = ((bounded (terms_of l) (view l) x).accounts_in k (registers l k e)).net_in in omega (arith, ints, b.0, b.1))

-- what is known of the nets of the two sides, and of the contracts
pub record Nets (l : Ledger) (t : Trade) : Type 0 where
  pub buyer : nat_abs (net_of (find (view l) t.buyer)) ≤ 3000
  pub seller : nat_abs (net_of (find (view l) t.seller)) ≤ 3000
  pub few : t.contracts ≤ 3000

pub nets : (l : Ledger) (t : Trade) → are_parties (view l) t ≡ true → between 1 3000 t.contracts ≡ true → Nets l t
nets l t e k = let p = parties l t e in record { buyer = net_within l t.buyer p.buyer; seller = net_within l t.seller p.seller; few = (between_is 1 3000 t.contracts k).1 }

-- ---- the limits
-- what the day's limits say of the two rows
pub day_limits : (l : Ledger) (t : Trade) → keeps_limits (view l) t ≡ true → ((find (view l) t.buyer).bought + t.contracts ≤ 3000) × ((find (view l) t.seller).sold + t.contracts ≤ 3000)
day_limits l t e =
    let b = find (view l) t.buyer in
    let s = find (view l) t.seller in
    let p = and_parts (at_most_3000 (buyer_net (view l) t)) (at_most_3000 (seller_net (view l) t) && keeps_day_limits (view l) t) e in
    let q = and_parts (at_most_3000 (seller_net (view l) t)) (keeps_day_limits (view l) t) p.1 in
    let d = and_parts (leb (b.bought + t.contracts) 3000) (leb (s.sold + t.contracts) 3000) q.1 in
    (leb-true (b.bought + t.contracts) 3000 d.0, leb-true (s.sold + t.contracts) 3000 d.1)

-- a side's count stays within the limit in every row, where it does in the side's own
side_within : (of : Account → ℕ) (side n : ℕ) (xs : List Account) (i : ℕ) → of (get_or xs i nobody) ≤ 3000 → of (get_or xs (side - 1) nobody) + n ≤ 3000 → of (get_or xs i nobody) + cond (eqb side (i + 1)) n 0 ≤ 3000
side_within of side n xs i all own =
    ⊎_elim
    (λ (e : side ≡ i + 1). rw (eq-eqb side (i + 1) e) (subst (λ (j : ℕ). of (get_or xs j nobody) + n ≤ 3000) (omega arith) own))
    (λ (ne : side ≡ i + 1 → ⊥). rw (ne_eqb side (i + 1) ne) (omega arith))
    (cases_eq side (i + 1))

-- all accounts are within the limits after the trade
pub limits_after : (l : Ledger) (t : Trade) → keeps_limits (view l) t ≡ true → (i : ℕ) → i < length (view l).accounts → InLimits (traded_account t (i + 1) (get_or (view l).accounts i nobody))
unfolding traded_account
limits_after l t e i lt =
    let xs = (view l).accounts in
    let own = day_limits l t e in
    let k = contracts l (i + 1) (is_registered l (i + 1) (omega arith, omega arith)) in
    let at : i + 1 - 1 ≡ i = omega arith in (
      subst (λ (j : ℕ). nat_abs (get_or xs j nobody).carried ≤ 3000) at k.carried_in,
      side_within (λ a. a.bought) t.buyer t.contracts xs i (subst (λ (j : ℕ). (get_or xs j nobody).bought ≤ 3000) at k.bought_in) own.0,
      side_within (λ a. a.sold) t.seller t.contracts xs i (subst (λ (j : ℕ). (get_or xs j nobody).sold ≤ 3000) at k.sold_in) own.1,
    )

-- ---- the lots that would be opened
pub opened_more : (t : Trade) (xs : List Account) (i n : ℕ) {m : ℕ} (opens : Bool) → i < length xs → opens ≡ opens_lot (traded_account t (i + 1) (get_or xs i nobody)) →
    n ≡ count_by opens_lot (take i (numbered (traded_account t) 1 xs)) → m ≡ n + cond opens 1 0 → m ≡ count_by opens_lot (take (i + 1) (numbered (traded_account t) 1 xs))
opened_more t xs i n opens lt e h one =
    let ys = numbered (traded_account t) 1 xs in
    let row : get_or ys i nobody ≡ traded_account t (i + 1) (get_or xs i nobody) = get_d_numbered (traded_account t) 1 xs i nobody nobody lt ∙ ap (λ k. traded_account t k (get_or xs i nobody)) (omega arith) in
    one ∙ ap (λ b. n + cond b 1 0) (e ∙ ap opens_lot (sym row)) ∙ ap (λ m. m + cond (opens_lot (get_or ys i nobody)) 1 0) h
    ∙ sym (sum_by_more (λ a. cond (opens_lot a) 1 0) ys i nobody (omega (arith, length_numbered (traded_account t) 1 xs)))

pub opened_all : (t : Trade) (xs : List Account) (i : ℕ) → length xs ≤ i → count_by opens_lot (take i (numbered (traded_account t) 1 xs)) ≡ count_by opens_lot (numbered (traded_account t) 1 xs)
opened_all t xs i le = ap (count_by opens_lot) (take_all i (numbered (traded_account t) 1 xs) (omega (arith, length_numbered (traded_account t) 1 xs)))

-- ---- the rows
-- so many contracts more on one side of an account
abbrev pub with_bought : Account → ℕ → Account
with_bought a n = record { identity = a.identity; residency = a.residency; carried = a.carried; bought = a.bought + n; sold = a.sold; total = a.total }

abbrev pub with_sold : Account → ℕ → Account
with_sold a n = record { identity = a.identity; residency = a.residency; carried = a.carried; bought = a.bought; sold = a.sold + n; total = a.total }

-- the buyer's row and the seller's, written one after the other, are the accounts after the trade
pub handed : (t : Trade) (xs : List Account) → Registered (length xs) t.buyer → Registered (length xs) t.seller →
    let ys = set xs (t.buyer - 1) (with_bought (get_or xs (t.buyer - 1) nobody) t.contracts) in
    set ys (t.seller - 1) (with_sold (get_or ys (t.seller - 1) nobody) t.contracts) ≡ numbered (traded_account t) 1 xs
unfolding traded_account
handed t xs rb rs = sym (
    numbered_both
    with_bought
    with_sold
    (λ a. ap (λ n. record { identity = a.identity; residency = a.residency; carried = a.carried; bought = n; sold = a.sold; total = a.total }) (add-zero a.bought))
    (λ a. ap (λ n. record { identity = a.identity; residency = a.residency; carried = a.carried; bought = a.bought; sold = n; total = a.total }) (add-zero a.sold))
    t.buyer
    t.seller
    t.contracts
    xs
    nobody
    rb
    rs
    )

-- ---- an accepted trade
pub record Taken (l : Ledger) (t : Trade) : Type 0 where
  pub sides : Parties l t
  pub room : length (view l).sheet < 1024
  pub bought : (find (view l) t.buyer).bought + t.contracts ≤ 3000
  pub sold : (find (view l) t.seller).sold + t.contracts ≤ 3000

pub taken : (l : Ledger) (t : Trade) → verdict (terms_of l) (view l) (trading t) ≡ None → Taken l t
unfolding questions
taken l t q =
    let q2 = met _ _ q in
    let q6 = met _ _ q2.1 in
    let q7 = met _ _ q6.1 in
    let q8 = met _ _ q7.1 in
    let q9 = met _ _ q8.1 in
    let q10 = met _ _ q9.1 in
    let limits = day_limits l t q10.0 in
    record {
      sides = parties l t q6.0;
      room = ltb-true (length (view l).sheet) 1024 q9.0;
      bought = limits.0;
      sold = limits.1;
    }

-- the accounts as their slice is handed back, and the sheet with its row, are the view that the rules give
pub entered : (l : Ledger) (t : Trade) {slice accounts : List Account} {sheet : List Trade} → slice ≡ (view l).accounts → accounts ≡ numbered (traded_account t) 1 slice → sheet ≡ (view l).sheet ++ t ∷ [] →
    viewed (with_items l.accounts accounts).items sheet (view l).lots (view l).notices l.session l.price l.rate l.expired ≡ trade (view l) t
entered l t es ea et = λ i. viewed (handed_back l.accounts (traded_account t) es ea i) (et i) (view l).lots (view l).notices l.session l.price l.rate l.expired
