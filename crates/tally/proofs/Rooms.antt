-- How many rows a tally takes, those that the next marking opens with them.
use Rattle.std.proofs.lemmas.Grind.{common_steps}
use Rattle.std.proofs.Common.{◌≡◌, ℕ, ◌+◌, ◌<◌, ◌≤◌, false, cond, ltb, List, [], ◌∷◌, ◌++◌, length, None, count_by, refl, ap, arith}
use Rattle.std.proofs.lemmas.List.{length-append}
use Rattle.std.proofs.lemmas.List.Sums.{sum_by-cons}
use Rattle.std.proofs.lemmas.Bool.{leb-true}
use Rattle.tally.specs.declared.rows.Trade.{Trade}
use Rattle.tally.specs.declared.rows.Lot.{Lot}
use Rattle.tally.specs.declared.rows.Notice.{Notice}
use Rattle.tally.specs.declared.call.Registration.{Registration}
use Rattle.tally.specs.declared.call.Notification.{Notification}
use Rattle.tally.specs.declared.call.Marking.{Marking}
use Rattle.tally.specs.Account.{long}
use Rattle.tally.specs.Book.{Terms, Tally, View, numbered, prices, buys, sells, carried, account, seen}
use Rattle.tally.specs.Events.{registering, trading, noticing}
use Rattle.tally.specs.Questions.{questions, verdict, opens_lot, traded_account}
use Rattle.tally.specs.Runs.{begun}
use Rattle.tally.specs.Steps.{Change, change, paired, done, entered, fed_marking, fed_designation, fed_expiry}
use Rattle.tally.proofs.Facts.{met, length_numbered, today, today_is, one_is_0, prices_stranger}
use Rattle.tally.proofs.Kept.{waited}
use Rattle.tally.proofs.Lots.{openings, length_turned, length_less_oldest}
use Rattle.tally.proofs.Notices.{length_less_notices}
use Rattle.tally.proofs.Numbered.{numbered_push}
use Rattle.tally.proofs.Positions.{net_is}
use Rattle.tally.proofs.Runs.{square_done}
use Rattle.tally.proofs.Sound.{Sound, next, sides, carries, nets, first_notice}
use Rattle.tally.proofs.Square.{net_marked}

-- ---- changes that open a lot
abbrev opens : Change → ℕ
opens x = cond (ltb (long x.before) (long x.after)) 1 0

opens_none : (x : Change) → long x.after ≤ long x.before → opens x ≡ 0
opens_none x le = grind arith

opens_one : (x : Change) → long x.before < long x.after → opens x ≡ 1
opens_one x lt = grind arith

opens_less : (x y : Change) → (long x.before < long x.after → long y.before < long y.after) → opens x ≤ opens y
opens_less x y f = grind arith

openings_push : (cs : List Change) (x : Change) → openings (cs ++ x ∷ []) ≡ openings cs + opens x
unfolding openings
openings_push [] x = omega arith
openings_push (y ∷ cs) x = omega (arith, openings_push cs x)

openings_length : (cs : List Change) → openings cs ≤ length cs
unfolding openings
openings_length [] = omega arith
openings_length (x ∷ cs) = grind (arith, openings_length cs)

module _ {X : Type 0} where
  openings_less : (f g : ℕ → X → Change) (n : ℕ) (xs : List X) → ((k : ℕ) (x : X) → n ≤ k → k < n + length xs → opens (f k x) ≤ opens (g k x)) → openings (numbered f n xs) ≤ openings (numbered g n xs)
  unfolding openings numbered
  openings_less f g n [] h = omega arith
  openings_less f g n (x ∷ xs) h = grind (arith, openings_less f g (n + 1) xs (λ k y a b. h k y (omega arith) (omega arith)))

  openings_none : (f : ℕ → X → Change) (n : ℕ) (xs : List X) → ((k : ℕ) (x : X) → opens (f k x) ≡ 0) → openings (numbered f n xs) ≡ 0
  unfolding openings numbered
  openings_none f n [] h = refl
  openings_none f n (x ∷ xs) h = omega (arith, h n x, openings_none f (n + 1) xs h)

-- the accounts that the tally shows open as many
pub openings_shown : (c : Terms) (t : Tally) (n : ℕ) (ps : List Registration) → count_by opens_lot (numbered (account c.size t) n ps) ≡ openings (numbered (change t) n ps)
unfolding openings numbered account
openings_shown c t n [] = refl
openings_shown c t n (p ∷ ps) =
    omega (
      arith,
      sum_by-cons (λ a. cond (opens_lot a) 1 0) (account c.size t n p) (numbered (account c.size t) (n + 1) ps),
      ap {B = ℕ} (λ z. cond (ltb (long (carried t n)) (long z)) 1 0) (net_marked c t 0 n p),
      openings_shown c t (n + 1) ps,
    )

-- ---- the tables have room
pub record Roomy (t : Tally) : Type 0 where
  pub few_parties : length t.parties ≤ 64
  pub few_trades : length t.waiting ≤ 1024
  pub few_notices : length t.notices ≤ 64
  pub few_lots : length t.lots + openings (numbered (change t) 1 t.parties) ≤ 1024

pub roomy_begun : Roomy begun
unfolding openings numbered
roomy_begun = grind arith

module _ (c : Terms) (windows : c.delivers ≡ false → c.closes ≡ 0) (t : Tally) (h : Sound c t) (d : Roomy t) where
  abbrev v : View
  v = seen c.size t

  pub roomy_register : (p : Registration) → verdict c v (registering p) ≡ None → Roomy (entered t (registering p))
  unfolding entered questions
  roomy_register p e =
      let n = length t.parties in
      let q3 = met _ _ (met _ _ e).1 in
      let q = waited n t.waiting h.balanced.traders in
      let own = 1 + n in
      let lt : n < own = omega arith in
      record {
        few_parties = grind (arith, length_numbered, length-append);
        few_trades = d.few_trades;
        few_notices = d.few_notices;
        few_lots = omega (
          arith,
          d.few_lots,
          ap openings (numbered_push (change t) 1 t.parties p),
          openings_push (numbered (change t) 1 t.parties) (change t own p),
          opens_none (change t own p) (omega (
            arith,
            today_is t own,
            one_is_0 (today t own),
            ap length (prices_stranger n own t.bought lt h.balanced.buyers),
            ap length (prices_stranger n own t.sold lt h.balanced.sellers),
            ap length (prices_stranger n own (buys t.waiting) lt q.0),
            ap length (prices_stranger n own (sells t.waiting) lt q.1),
          )),
        );
      }

  pub roomy_trade : (w : Trade) → verdict c v (trading w) ≡ None → Roomy (entered t (trading w))
  unfolding entered questions done
  roomy_trade w e =
      let q2 = met _ _ e in
      let q6 = met _ _ q2.1 in
      let q7 = met _ _ q6.1 in
      let q8 = met _ _ q7.1 in
      let q9 = met _ _ q8.1 in
      let q10 = met _ _ q9.1 in
      let q11 = met _ _ q10.1 in
      let q12 = met _ _ q11.1 in
      let q13 = met _ _ q12.1 in
      record {
        few_parties = d.few_parties;
        few_trades = grind (arith, length-append);
        few_notices = d.few_notices;
        few_lots = omega (
          arith,
          leb-true (length t.lots + count_by opens_lot (numbered (traded_account w) 1 v.accounts)) 1024 q13.0,
          ap (λ u. count_by opens_lot u.accounts) (square_done c windows t h (trading w)),
          openings_shown c (entered t (trading w)) 1 t.parties,
        );
      }

  pub roomy_notice : (n : Notification) → verdict c v (noticing n) ≡ None → Roomy (entered t (noticing n))
  unfolding entered questions
  roomy_notice n e = grind (arith, met, length-append)

  pub roomy_marking : (m : Marking) → Roomy (fed_marking t m)
  unfolding fed_marking prices
  roomy_marking m = grind (arith, common_steps, length_turned, openings_none)

  pub roomy_expiry : (final : ℕ) → Roomy (fed_expiry t final)
  unfolding fed_expiry
  roomy_expiry final = grind (arith, openings_length, length_numbered)

  -- an account that opens a lot after a designation did so before
  pub roomy_designation : (x : Notice) (l : Lot) (xs : List Notice) (ls : List Lot) → t.notices ≡ x ∷ xs → t.lots ≡ l ∷ ls → x.session < t.session → Roomy (fed_designation t x l)
  unfolding fed_designation next
  roomy_designation x l xs ls nx lx due_now = record {
    few_parties = d.few_parties;
    few_trades = d.few_trades;
    few_notices = grind (arith, length_less_notices);
    few_lots = omega (
      arith,
      d.few_lots,
      length_less_oldest (paired x l) t.lots,
      openings_less (change (fed_designation t x l)) (change t) 1 t.parties (λ k p low high. opens_less (change (fed_designation t x l) k p) (change t k p) (λ lt.
          let y = sides c windows t h x l xs ls nx lx due_now k in
          omega (
            arith,
            lt,
            y.0,
            y.1 (low, omega arith),
            h.under_short k,
            first_notice c windows t h x l xs ls nx lx due_now k,
            carries c windows t h x l xs ls nx lx due_now k,
            nets c windows t h x l xs ls nx lx due_now k,
            today_is t k,
            net_is (prices k t.bought) (prices k t.sold),
            one_is_0 (carried t k),
            one_is_0 (carried (fed_designation t x l) k),
            one_is_0 (today t k),
            one_is_0 (today (fed_designation t x l) k),
          ))),
    );
  }
