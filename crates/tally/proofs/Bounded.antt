-- How large the numbers of a tally can get.
use Rattle.std.proofs.lemmas.Grind.{common_steps}
use Rattle.std.proofs.Common.{◌≡◌, ℕ, zero, suc, ◌+◌, ◌*◌, ◌<◌, ◌≤◌, false, cond, List, [], ◌∷◌, ◌++◌, length, replicate, ℤ, pos, ◌+ℤ◌, ◌-ℤ◌, neg_ℤ, None, sum, sym, refl, ap, subst, ⊎_elim, mul-le-mul, arith}
use borrow.Author.Differences.{up, down, sum_is_lem, neg_is}
use Rattle.std.specs.List.{AllByRecursion}
use Rattle.std.proofs.ByRecursion.{All-push, All-map, All-weaker, sum_by_le}
use Rattle.std.proofs.lemmas.List.Sums.{sum_by-append}
use Rattle.std.proofs.lemmas.Bool.{and_parts, leb-true, eq-eqb, ne_eqb, cases_eq, cases_lt}
use Rattle.tally.specs.declared.rows.Account.{Account}
use Rattle.tally.specs.declared.rows.Trade.{Trade}
use Rattle.tally.specs.declared.rows.Lot.{Lot}
use Rattle.tally.specs.declared.rows.Notice.{Notice}
use Rattle.tally.specs.declared.call.Registration.{Registration}
use Rattle.tally.specs.declared.call.Notification.{Notification}
use Rattle.tally.specs.declared.call.Marking.{Marking}
use Rattle.tally.specs.Account.{long, short}
use Rattle.tally.specs.Book.{Terms, Posting, Tally, View, numbered, prices, buy, sell, buys, sells, carried, account, seen}
use Rattle.tally.specs.Events.{registering, trading, noticing}
use Rattle.tally.specs.Law.{Registered}
use Rattle.tally.specs.Questions.{questions, verdict, find, net_of}
use Rattle.tally.specs.Runs.{begun}
use Rattle.tally.specs.Steps.{entered, fed_marking, fed_designation, fed_expiry}
use Rattle.tally.proofs.Clock.{Clocked}
use Rattle.tally.proofs.Facts.{met, someone, today, found, today_is, today_traded, count_buys, count_sells, one_is_0, prices_stranger}
use Rattle.tally.proofs.Kept.{waited}
use Rattle.tally.proofs.Law.{shows_account}
use Rattle.tally.proofs.Numbered.{prices_append, prices_one, each, prices_each}
use Rattle.tally.proofs.Positions.{net_is, worth, worth_is, worth_net, worth_at, sum_replicate}
use Rattle.tally.proofs.Ring.{times}
use Rattle.tally.proofs.Sound.{Sound, registers, next, sides, carries, nets, first_notice}
use Rattle.tally.proofs.Square.{closed_carried}

-- what an account's position is worth, for a size of one
abbrev pub worth_of : Tally → ℕ → ℤ
worth_of t k = worth t.price (prices k t.bought) (prices k t.sold)

-- 9,000 contracts at the highest price, each session
abbrev pub limit : Tally → ℕ
limit t = 8999991000 * (t.session + cond t.expired 1 0)

abbrev pub Small : ℕ → ℤ → Type 0
Small n z = (up z ≤ n) × (down z ≤ n)

-- a trade's price and contracts
abbrev pub TradeIn : Trade → Type 0
TradeIn w = (w.price ≤ 999999) × (1 ≤ w.contracts) × (w.contracts ≤ 3000)

pub record BoundedTally (t : Tally) : Type 0 where
  pub trades_in : AllByRecursion TradeIn t.waiting
  pub bought_in : (k : ℕ) → Registered (length t.parties) k → length (prices k (buys t.waiting)) ≤ 3000
  pub sold_in : (k : ℕ) → Registered (length t.parties) k → length (prices k (sells t.waiting)) ≤ 3000
  pub carried_in : (k : ℕ) → Registered (length t.parties) k → Small 3000 (carried t k)
  pub net_in : (k : ℕ) → Registered (length t.parties) k → Small 3000 (today t k)
  pub worth_in : (k : ℕ) → Registered (length t.parties) k → Small (limit t) (worth_of t k)

pub product : (a b m n : ℕ) → a ≤ m → b ≤ n → a * b ≤ m * n
product a b m n p q = mul-le-mul p q

-- ---- prices of a side of the sheet
all_replicate : (n p : ℕ) → p ≤ 999999 → AllByRecursion (λ x. x ≤ 999999) (replicate n p)
all_replicate zero p le = tt
all_replicate (suc n) p le = (le, all_replicate n p le)

prices_in : (k : ℕ) (ps : List Posting) → AllByRecursion (λ p. p.price ≤ 999999) ps → AllByRecursion (λ x. x ≤ 999999) (prices k ps)
unfolding prices
prices_in k [] h = tt
prices_in k (p ∷ ps) h = grind (arith, common_steps, all_replicate, prices_in k ps h.1)

pub sides_in : (k : ℕ) (ws : List Trade) → AllByRecursion TradeIn ws → AllByRecursion (λ x. x ≤ 999999) (prices k (buys ws)) × AllByRecursion (λ x. x ≤ 999999) (prices k (sells ws))
sides_in k ws h =
    let le = All-weaker TradeIn (λ w. w.price ≤ 999999) (λ _ x. x.0) ws h in
    (prices_in k (buys ws) (All-map (λ p. p.price ≤ 999999) buy ws le), prices_in k (sells ws) (All-map (λ p. p.price ≤ 999999) sell ws le))

pub sum_in : (xs : List ℕ) → AllByRecursion (λ x. x ≤ 999999) xs → sum xs ≤ 999999 * length xs
sum_in xs h = omega (arith, sum_by_le (λ x. x) 999999 xs h)

pub bounded_begun : BoundedTally begun
bounded_begun = grind arith

-- what an accepted trade tells
record Told (t : Tally) (w : Trade) (b s : Account) : Type 0 where
  buyer : Registered (length t.parties) w.buyer
  seller : Registered (length t.parties) w.seller
  apart : w.buyer ≡ w.seller → ⊥
  fits : TradeIn w
  buyer_net : Small 3000 (net_of b +ℤ pos w.contracts)
  seller_net : Small 3000 (net_of s -ℤ pos w.contracts)
  buys_in : b.bought + w.contracts ≤ 3000
  sells_in : s.sold + w.contracts ≤ 3000

module _ (c : Terms) (windows : c.delivers ≡ false → c.closes ≡ 0) (t : Tally) (h : Sound c t) (d : BoundedTally t) where
  abbrev v : View
  v = seen c.size t

  told : (w : Trade) → verdict c v (trading w) ≡ None → Told t w (find v w.buyer) (find v w.seller)
  unfolding questions
  told w e = grind (arith, met, and_parts, registers, leb-true)

  -- what the account shows of today
  shows : (k : ℕ) → Registered (length t.parties) k → ((find v k).bought ≡ length (prices k (buys t.waiting))) × ((find v k).sold ≡ length (prices k (sells t.waiting)))
  unfolding account
  shows k r = grind (arith, shows_account)

  net_traded : (w : Trade) → Told t w (find v w.buyer) (find v w.seller) → (k : ℕ) → Registered (length t.parties) k → Small 3000 (today (entered t (trading w)) k)
  net_traded w f k r = ⊎_elim
      (λ (p : w.buyer ≡ k). subst (λ j. Small 3000 (today (entered t (trading w)) j)) p (
      let b = w.buyer in
      let z = today t b +ℤ pos w.contracts in
      let g = f.buyer_net in
      omega (
        arith,
        g,
        ap (λ y. up (y +ℤ pos w.contracts)) (found c t b f.buyer),
        ap (λ y. down (y +ℤ pos w.contracts)) (found c t b f.buyer),
        sum_is_lem (today t b) (pos w.contracts),
        one_is_0 z,
        one_is_0 (today (entered t (trading w)) b),
        today_is t b,
        today_traded t w b,
        ap (λ x. cond x w.contracts 0) (eq-eqb b b refl),
        ap (λ x. cond x w.contracts 0) (ne_eqb w.seller b (λ q. f.apart (sym q))),
      )))
      (λ (p : w.buyer ≡ k → ⊥). ⊎_elim
      (λ (q : w.seller ≡ k). subst (λ j. Small 3000 (today (entered t (trading w)) j)) q (
      let s = w.seller in
      let z = today t s -ℤ pos w.contracts in
      let g = f.seller_net in
      omega (
        arith,
        g,
        ap (λ y. up (y -ℤ pos w.contracts)) (found c t s f.seller),
        ap (λ y. down (y -ℤ pos w.contracts)) (found c t s f.seller),
        sum_is_lem (today t s) (neg_ℤ (pos w.contracts)),
        neg_is (pos w.contracts),
        one_is_0 z,
        one_is_0 (today (entered t (trading w)) s),
        today_is t s,
        today_traded t w s,
        ap (λ x. cond x w.contracts 0) (eq-eqb s s refl),
        ap (λ x. cond x w.contracts 0) (ne_eqb w.buyer s f.apart),
      )))
      (λ (q : w.seller ≡ k → ⊥).
      let g = d.net_in k r in
      omega (arith, g, one_is_0 (today t k), one_is_0 (today (entered t (trading w)) k), today_is t k, today_traded t w k, ap (λ x. cond x w.contracts 0) (ne_eqb w.buyer k p), ap (λ x. cond x w.contracts 0) (ne_eqb w.seller k q)))
      (cases_eq w.seller k))
      (cases_eq w.buyer k)

  pub bounded_trade : (w : Trade) → verdict c v (trading w) ≡ None → BoundedTally (entered t (trading w))
  unfolding entered
  bounded_trade w e =
      let f = told w e in
      record {
        trades_in = All-push TradeIn t.waiting w d.trades_in f.fits;
        bought_in = λ k r. grind (arith, count_buys, shows);
        sold_in = λ k r. grind (arith, count_sells, shows);
        carried_in = d.carried_in;
        net_in = λ k r. net_traded w f k r;
        worth_in = d.worth_in;
      }

  pub bounded_notice : (n : Notification) → BoundedTally (entered t (noticing n))
  unfolding entered
  bounded_notice n = grind arith

  pub bounded_register : (p : Registration) → BoundedTally (entered t (registering p))
  unfolding entered
  bounded_register p =
      let n = length t.parties in
      let q = waited n t.waiting h.balanced.traders in
      let pick = λ (P : ℕ → Type 0) (old : (k : ℕ) → Registered n k → P k) (new : (k : ℕ) → n < k → P k) (k : ℕ) (r : Registered (length (t.parties ++ p ∷ [])) k).
      ⊎_elim (λ (a : k < n + 1). old k (r.0, omega arith)) (λ (a : n + 1 ≤ k). new k (omega arith)) (cases_lt k (n + 1)) in
      let B = λ (k : ℕ) (a : n < k). prices_stranger n k t.bought a h.balanced.buyers in
      let S = λ (k : ℕ) (a : n < k). prices_stranger n k t.sold a h.balanced.sellers in
      let b = λ (k : ℕ) (a : n < k). prices_stranger n k (buys t.waiting) a q.0 in
      let s = λ (k : ℕ) (a : n < k). prices_stranger n k (sells t.waiting) a q.1 in
      record {
        trades_in = d.trades_in;
        bought_in = pick _ d.bought_in (λ k a. omega (arith, ap length (b k a)));
        sold_in = pick _ d.sold_in (λ k a. omega (arith, ap length (s k a)));
        carried_in = pick _ d.carried_in (λ k a. omega (arith, ap length (B k a), ap length (S k a), net_is (prices k t.bought) (prices k t.sold), one_is_0 (carried t k)));
        net_in = pick _ d.net_in (λ k a. omega (arith, ap length (B k a), ap length (S k a), ap length (b k a), ap length (s k a), today_is t k, one_is_0 (today t k)));
        worth_in = pick _ d.worth_in (λ k a. omega (arith, ap sum (B k a), ap sum (S k a), times t.price (ap length (B k a)), times t.price (ap length (S k a)), worth_is t.price (prices k t.bought) (prices k t.sold), one_is_0 (worth_of t k)));
      }

  pub bounded_designation : (x : Notice) (l : Lot) (xs : List Notice) (ls : List Lot) → t.notices ≡ x ∷ xs → t.lots ≡ l ∷ ls → x.session < t.session → BoundedTally (fed_designation t x l)
  unfolding fed_designation next
  bounded_designation x l xs ls nx lx due_now =
      record {
        trades_in = d.trades_in;
        bought_in = d.bought_in;
        sold_in = d.sold_in;
        carried_in = λ k r.
            let g = d.carried_in k r in
            let y = sides c windows t h x l xs ls nx lx due_now k in
            omega (arith, g, y.0, y.1 r, carries c windows t h x l xs ls nx lx due_now k, net_is (prices k t.bought) (prices k t.sold), one_is_0 (carried t k), one_is_0 (carried (fed_designation t x l) k));
        net_in = λ k r.
            let g = d.net_in k r in
            let y = sides c windows t h x l xs ls nx lx due_now k in
            omega (
              arith,
              g,
              y.0,
              y.1 r,
              d.bought_in k r,
              d.sold_in k r,
              h.under_short k,
              first_notice c windows t h x l xs ls nx lx due_now k,
              nets c windows t h x l xs ls nx lx due_now k,
              today_is t k,
              net_is (prices k t.bought) (prices k t.sold),
              one_is_0 (carried t k),
              one_is_0 (today t k),
              one_is_0 (today (fed_designation t x l) k),
            );
        worth_in = λ k r. grind (arith, prices_append, prices_one, worth_at);
      }

  -- a marking changes the worth by what is carried at the old price, what is net at the new one, and the prices of the day: 3,000 contracts each
  pub bounded_marking : Clocked c t → (m : Marking) → m.price ≤ 999999 → BoundedTally (fed_marking t m)
  unfolding fed_marking prices
  bounded_marking clock m le = record {
    trades_in = tt;
    bought_in = λ k r. omega arith;
    sold_in = λ k r. omega arith;
    carried_in = d.net_in;
    net_in = λ k r. grind (arith, common_steps);
    worth_in = λ k r.
        let B = prices k t.bought in
        let S = prices k t.sold in
        let b = prices k (buys t.waiting) in
        let s = prices k (sells t.waiting) in
        let g = d.net_in k r in
        let i = d.carried_in k r in
        let w = d.worth_in k r in
        let x = sides_in k t.waiting d.trades_in in
        omega (
          arith,
          w,
          sum_in b x.0,
          sum_in s x.1,
          d.bought_in k r,
          d.sold_in k r,
          worth_net t.price B S,
          worth_net m.price (prices k (t.bought ++ buys t.waiting)) (prices k (t.sold ++ sells t.waiting)),
          one_is_0 (worth_of t k),
          one_is_0 (worth m.price (prices k (t.bought ++ buys t.waiting)) (prices k (t.sold ++ sells t.waiting))),
          ap sum (prices_append k t.bought (buys t.waiting)),
          ap sum (prices_append k t.sold (sells t.waiting)),
          sum_by-append (λ y. y) B b,
          sum_by-append (λ y. y) S s,
          product m.price (up (today t k)) 999999 3000 le g.0,
          product m.price (down (today t k)) 999999 3000 le g.1,
          product t.price (up (carried t k)) 999999 3000 clock.priced i.0,
          product t.price (down (carried t k)) 999999 3000 clock.priced i.1,
        );
  }

  pub bounded_expiry : Clocked c t → (final : ℕ) → final ≤ 999999 → t.expired ≡ false → BoundedTally (fed_expiry t final)
  unfolding fed_expiry
  bounded_expiry clock final le fresh =
      let none = λ (k : ℕ) (r : Registered (length t.parties) k). closed_carried c t final k someone r.0 (omega arith) in
      record {
        trades_in = d.trades_in;
        bought_in = d.bought_in;
        sold_in = d.sold_in;
        carried_in = λ k r. omega (arith, ap up (none k r), ap down (none k r));
        net_in = λ k r.
            omega (arith, d.bought_in k r, d.sold_in k r, ap up (none k r), ap down (none k r), net_is (prices k (fed_expiry t final).bought) (prices k (fed_expiry t final).sold), today_is (fed_expiry t final) k, one_is_0 (today (fed_expiry t final) k));
        worth_in = λ k r.
            let bs = numbered (each final (λ j. short (carried t j))) 1 t.parties in
            let ss = numbered (each final (λ j. long (carried t j))) 1 t.parties in
            let i = d.carried_in k r in
            let w = d.worth_in k r in
            omega (
              arith,
              w,
              ap up (none k r),
              ap down (none k r),
              ap {B = ℕ} (λ b. cond b 1 0) fresh,
              worth_net t.price (prices k t.bought) (prices k t.sold),
              worth_net t.price (prices k (t.bought ++ bs)) (prices k (t.sold ++ ss)),
              times t.price (ap up (none k r)),
              times t.price (ap down (none k r)),
              one_is_0 (worth_of t k),
              one_is_0 (worth t.price (prices k (t.bought ++ bs)) (prices k (t.sold ++ ss))),
              ap sum (prices_append k t.bought bs),
              ap sum (prices_append k t.sold ss),
              sum_by-append (λ y. y) (prices k t.bought) (prices k bs),
              sum_by-append (λ y. y) (prices k t.sold) (prices k ss),
              ap sum (prices_each final (λ j. short (carried t j)) k 1 t.parties r.0 (omega arith)),
              ap sum (prices_each final (λ j. long (carried t j)) k 1 t.parties r.0 (omega arith)),
              sum_replicate (short (carried t k)) final,
              sum_replicate (long (carried t k)) final,
              product final (up (carried t k)) 999999 3000 le i.0,
              product final (down (carried t k)) 999999 3000 le i.1,
              product t.price (up (carried t k)) 999999 3000 clock.priced i.0,
              product t.price (down (carried t k)) 999999 3000 clock.priced i.1,
            );
      }
