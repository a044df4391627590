-- No number of a run is large.
use Rattle.std.proofs.Common.{◌≡◌, ℕ, ◌+◌, ◌-◌, ◌*◌, ◌≤◌, true, false, cond, not, ◌&&◌, eqb, List, [], ◌∷◌, length, get_or, nat_abs, Some, None, fold, sym, refl, ap, subst, arith}
use borrow.Author.Differences.{down}
use Rattle.std.specs.List.{AllByRecursion}
use Rattle.std.proofs.lemmas.Bool.{ltb-true, not-true, and_parts, eq-eqb}
use Rattle.tally.specs.declared.rows.Trade.{Trade}
use Rattle.tally.specs.declared.rows.Lot.{Lot}
use Rattle.tally.specs.declared.rows.Notice.{Notice}
use Rattle.tally.specs.declared.call.Registration.{Registration}
use Rattle.tally.specs.Account.{position}
use Rattle.tally.specs.Book.{Terms, Tally, View, prices, account, seen}
use Rattle.tally.specs.Bounds.{FinalPriced, Limited, AccountBounded, TradeBounded, LotBounded, NoticeBounded, Bounded, BoundsLaw}
use Rattle.tally.specs.Events.{Event, registering, trading, quoting, noticing, designating, marking, expiring}
use Rattle.tally.specs.Law.{Registered, LotsInOrder}
use Rattle.tally.specs.Questions.{questions, verdict, is_due, in_lots, under_notice}
use Rattle.tally.specs.Rows.{lot_counting}
use Rattle.tally.specs.Runs.{fed, begun, tally}
use Rattle.tally.specs.Steps.{entered, fed_oldest}
use Rattle.tally.proofs.Aging.{held_cons}
use Rattle.tally.proofs.Bounded.{TradeIn, BoundedTally, limit, product, bounded_begun, bounded_register, bounded_trade, bounded_notice, bounded_designation, bounded_marking, bounded_expiry}
use Rattle.tally.proofs.Clock.{Clocked, clocked_begun, clocked_fed}
use Rattle.tally.proofs.Facts.{met, between_is, length_numbered, someone}
use Rattle.tally.proofs.Law.{shows_account}
use Rattle.tally.proofs.Notices.{Ordered, notices_cons}
use Rattle.tally.proofs.Owed.{marking_fits, expiry_fits}
use Rattle.tally.proofs.Positions.{position_worth}
use Rattle.tally.proofs.Rooms.{Roomy, openings_shown, roomy_begun, roomy_register, roomy_trade, roomy_notice, roomy_designation, roomy_marking, roomy_expiry}
use Rattle.tally.proofs.Runs.{no_window, sound_fed, shown_is_seen}
use Rattle.tally.proofs.Sound.{Sound, sound_begun}
use Rattle.tally.proofs.Square.{net_marked}

-- ---- runs
record Standing (c : Terms) (t : Tally) : Type 0 where
  sound : Sound c t
  clock : Clocked c t
  small : BoundedTally t
  roomy : Roomy t

module _ (c : Terms) (windows : c.delivers ≡ false → c.closes ≡ 0) (t : Tally) (h : Standing c t) where
  abbrev Both : Tally → Type 0
  Both u = BoundedTally u × Roomy u

  both_oldest : (ns : List Notice) (ls : List Lot) → t.notices ≡ ns → t.lots ≡ ls → is_due t.session ns ≡ true → Both (fed_oldest t ns ls)
  both_oldest [] ls en el due = (h.small, h.roomy)
  both_oldest (x ∷ xs) [] en el due = (h.small, h.roomy)
  both_oldest (x ∷ xs) (l ∷ ls) en el due =
      let lt = ltb-true _ _ due in
      (bounded_designation c windows t h.sound h.small x l xs ls en el lt, roomy_designation c windows t h.sound h.roomy x l xs ls en el lt)

  both_entered : (e : Event) → FinalPriced e → verdict c (seen c.size t) e ≡ None → Both (entered t e)
  unfolding entered questions
  both_entered (registering p) f e = (bounded_register c windows t h.sound h.small p, roomy_register c windows t h.sound h.roomy p e)
  both_entered (trading w) f e = grind (arith, bounded_trade, roomy_trade)
  both_entered (quoting q r) f e = (h.small, h.roomy)
  both_entered (noticing n) f e = grind (arith, bounded_notice, roomy_notice)
  both_entered designating f e = both_oldest t.notices t.lots refl refl (met _ _ e).0
  both_entered (marking m r) f e =
      let q19 = met _ _ (met _ _ e).1 in
      let q7 = met _ _ q19.1 in
      (bounded_marking c windows t h.sound h.small h.clock m (between_is 1 999999 m.price q7.0).1, roomy_marking c windows t h.sound h.roomy m)
  both_entered (expiring None r) f e = (h.small, h.roomy)
  both_entered (expiring (Some final) r) f e =
      let q22 = and_parts (not c.delivers) (eqb t.session (c.last + 1) && not t.expired) (met _ _ e).0 in
      let fresh = not-true t.expired (and_parts (eqb t.session (c.last + 1)) (not t.expired) q22.1).1 in
      (bounded_expiry c windows t h.sound h.small h.clock final (between_is 1 999999 final f).1 fresh, roomy_expiry c windows t h.sound h.roomy final)

  standing_fed : (e : Event) → FinalPriced e → Standing c (fed c t e)
  standing_fed e f = grind (arith, both_entered, sound_fed, clocked_fed)

module _ (c : Terms) (windows : c.delivers ≡ false → c.closes ≡ 0) where
  standing_from : (t : Tally) → Standing c t → (es : List Event) → AllByRecursion FinalPriced es → Standing c (fold (fed c) t es)
  standing_from t h [] f = h
  standing_from t h (e ∷ es) f = standing_from (fed c t e) (standing_fed c windows t h e f.0) es f.1

  standing : (es : List Event) → AllByRecursion FinalPriced es → Standing c (tally c es)
  standing es f = standing_from begun (record { sound = sound_begun c; clock = clocked_begun c; small = bounded_begun; roomy = roomy_begun }) es f

-- ---- rows: none counts more than all that its account has
trades_fit : (n : ℕ) (ws : List Trade) → AllByRecursion (λ w. Registered n w.buyer × Registered n w.seller) ws → AllByRecursion TradeIn ws → AllByRecursion (TradeBounded n) ws
trades_fit n [] r h = tt
trades_fit n (w ∷ ws) r h = grind (arith, trades_fit n ws r.1 h.1)

lots_cons : (k : ℕ) (l : Lot) (ls : List Lot) → in_lots k (l ∷ ls) ≡ cond (eqb l.owner k) l.count 0 + in_lots k ls
unfolding in_lots
lots_cons k l ls = held_cons lot_counting (λ x. x.owner) (λ _ _. refl) k l ls

lots_fit : (n s k open_now : ℕ) (ls : List Lot) → AllByRecursion (λ l. Registered n l.owner) ls → LotsInOrder s k open_now ls → ((j : ℕ) → Registered n j → in_lots j ls ≤ 3000) → AllByRecursion (LotBounded n) ls
lots_fit n s k open_now [] r o le = tt
lots_fit n s k open_now (l ∷ ls) r o le = (
  (r.0, o.2, omega (arith, le l.owner r.0, lots_cons l.owner l ls, ap (λ b. cond b l.count 0) (eq-eqb l.owner l.owner refl))),
  lots_fit n l.session l.owner open_now ls r.1 o.3 (λ j i. omega (arith, le j i, lots_cons j l ls)),
)

notices_fit : (n lo hi : ℕ) (ns : List Notice) → AllByRecursion (λ x. Registered n x.seller) ns → Ordered lo hi ns → ((j : ℕ) → Registered n j → under_notice j ns ≤ 3000) → AllByRecursion (NoticeBounded n hi) ns
notices_fit n lo hi [] r o le = tt
notices_fit n lo hi (x ∷ ns) r o le = (
  (r.0, o.2, omega (arith, le x.seller r.0, notices_cons x.seller x ns, ap (λ b. cond b x.count 0) (eq-eqb x.seller x.seller refl)), o.1),
  notices_fit n x.session hi ns r.1 o.3 (λ j i. omega (arith, le j i, notices_cons j x ns)),
)

-- ---- what a standing tally shows
module _ (c : Terms) (sized : c.size ≤ 100) (t : Tally) (h : Standing c t) where
  abbrev v : View
  v = seen c.size t

  total_fits : (k : ℕ) → Registered (length t.parties) k → nat_abs (position c.size t.price (prices k t.bought) (prices k t.sold)) ≤ c.size * limit t
  total_fits k r = grind (arith, position_worth, product)

  account_fits : (k : ℕ) (p : Registration) → Registered (length t.parties) k → AccountBounded c v k (account c.size t k p)
  unfolding account
  account_fits k p r =
      let d = h.small in
      let e = net_marked c t 0 k p in
      record {
        carried_in = d.carried_in k r;
        net_in = subst (λ z. Limited z) (sym e) (d.net_in k r);
        bought_in = d.bought_in k r;
        sold_in = d.sold_in k r;
        covered = omega (arith, h.sound.under_short k, ap down e);
        lots_are_long = h.sound.lots_are k r;
        total_in = total_fits k r;
      }

  bounded_seen : Bounded c v
  bounded_seen =
      let n = length t.parties in
      let many : length v.accounts ≡ n = length_numbered (account c.size t) 1 t.parties in
      record {
        session_from = h.clock.started;
        session_to = h.clock.until;
        price_in = h.clock.priced;
        rate_in = h.clock.rated;
        few_accounts = omega (arith, many, h.roomy.few_parties);
        few_trades = h.roomy.few_trades;
        few_notices = h.roomy.few_notices;
        few_lots = grind (arith, openings_shown);
        accounts_in = λ k r.
            let own : Registered n k = (r.0, omega (arith, r.1, many)) in
            subst (λ a. AccountBounded c v k a) (sym (shows_account c t k own)) (account_fits k (get_or t.parties (k - 1) someone) own);
        trades_in = subst (λ i. AllByRecursion (TradeBounded i) t.waiting) (sym many) (trades_fit n t.waiting h.sound.balanced.traders h.small.trades_in);
        lots_in = subst (λ i. AllByRecursion (LotBounded i) t.lots) (sym many)
            (lots_fit n 0 0 t.session t.lots h.sound.holders h.sound.lots_ordered (λ j r. omega (arith, h.sound.lots_are j r, (h.small.carried_in j r).0)));
        notices_in = subst (λ i. AllByRecursion (NoticeBounded i t.session) t.notices) (sym many)
            (notices_fit n 0 t.session t.notices h.sound.sellers h.sound.ordered (λ j r. omega (arith, h.sound.under_short j, (h.small.net_in j r).1)));
        marking_in = λ price e. grind (arith, marking_fits);
        expiry_in = λ final e. grind (arith, expiry_fits);
      }

pub bounds : BoundsLaw
bounds c b es f =
    let windows = no_window c b in
    subst (λ w. Bounded c w) (sym (shown_is_seen c windows es)) (bounded_seen c b.sized.1 (tally c es) (standing c windows es f))
