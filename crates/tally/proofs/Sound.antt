-- What holds of the tally of every run.
use Rattle.std.proofs.Common.{◌≡◌, ℕ, ◌+◌, ◌<◌, ◌≤◌, true, false, cond, ◌&&◌, eqb, ltb, leb, List, [], ◌∷◌, ◌++◌, length, pos, ◌+ℤ◌, Some, None, sym, refl, ap, ◌∙◌, subst, ⊎_elim, arith}
use borrow.Author.Differences.{up, down, sum_is_lem}
use Rattle.std.specs.List.{AllByRecursion}
use Rattle.std.proofs.ByRecursion.{All-push, All-weaker}
use Rattle.std.proofs.lemmas.List.{length-append}
use Rattle.std.proofs.lemmas.Bool.{and_parts, leb-true, eq-eqb, ne_eqb, cases_eq, cases_lt, lt-ltb}
use Rattle.tally.specs.declared.rows.Trade.{Trade}
use Rattle.tally.specs.declared.rows.Lot.{Lot}
use Rattle.tally.specs.declared.rows.Notice.{Notice}
use Rattle.tally.specs.declared.call.Registration.{Registration}
use Rattle.tally.specs.declared.call.Notification.{Notification}
use Rattle.tally.specs.declared.call.Marking.{Marking}
use Rattle.tally.specs.Account.{long, short, net}
use Rattle.tally.specs.Book.{Terms, Tally, View, prices, buys, sells, carried, seen}
use Rattle.tally.specs.Events.{registering, trading, noticing, marking, expiring}
use Rattle.tally.specs.Law.{Registered, LotsInOrder}
use Rattle.tally.specs.Questions.{verdict, questions, find, net_of, in_lots, under_notice}
use Rattle.tally.specs.Runs.{begun}
use Rattle.tally.specs.Steps.{Change, paired, noticed_in, less_oldest_lots, less_oldest_notices, entered, fed_marking, fed_designation, fed_expiry}
use Rattle.tally.proofs.Balance.{Balanced}
use Rattle.tally.proofs.Positions.{net_is}
use Rattle.tally.proofs.Square.{closed_carried}
use Rattle.tally.proofs.Kept.{balanced_marking, balanced_designation, balanced_expiry, longs_are_shorts}
use Rattle.tally.proofs.Zero.{over}
use Rattle.tally.proofs.Lots.{lots_first, lots_stranger, none_in_lots, turned_own, all_less_oldest, all_turned, order_less_oldest, order_until, order_turned, below_any}
use Rattle.tally.proofs.Notices.{notices_push, notices_first, none_under_notice, all_less_notices, Ordered, due, due_all, due_push, due_first, ordered_push, ordered_later, ordered_less}
use Rattle.tally.proofs.Facts.{met, between_is, length_numbered, today, found, today_is, count_push, one_is_0, carried_stranger, today_traded}

pub record Sound (c : Terms) (t : Tally) : Type 0 where
  pub balanced : Balanced t
  pub sellers : AllByRecursion (λ n. Registered (length t.parties) n.seller) t.notices
  pub holders : AllByRecursion (λ l. Registered (length t.parties) l.owner) t.lots
  pub ordered : Ordered 0 t.session t.notices
  pub lots_ordered : LotsInOrder 0 0 t.session t.lots
  pub started : 1 ≤ t.session
  pub lots_are : (k : ℕ) → Registered (length t.parties) k → in_lots k t.lots ≡ long (carried t k)
  pub due_short : (k : ℕ) → due t.session k t.notices ≤ short (carried t k)
  pub under_short : (k : ℕ) → under_notice k t.notices ≤ short (today t k)
  pub mini : c.delivers ≡ false → t.notices ≡ []

pub sound_begun : (c : Terms) → Sound c begun
unfolding due prices net
sound_begun c = grind (arith, none_under_notice)

module _ (c : Terms) (windows : c.delivers ≡ false → c.closes ≡ 0) (t : Tally) (h : Sound c t) where
  abbrev v : View
  v = seen c.size t

  pub sound_register : (p : Registration) → Sound c (entered t (registering p))
  unfolding entered
  sound_register p =
      let more : length (t.parties ++ p ∷ []) ≡ length t.parties + 1 = length-append t.parties (p ∷ []) in
      let wider : (k : ℕ) → Registered (length t.parties) k → Registered (length (t.parties ++ p ∷ [])) k = λ k r. (r.0, omega arith) in
      record {
        balanced = record {
          buyers = All-weaker _ _ (λ x. wider x.holder) t.bought h.balanced.buyers;
          sellers = All-weaker _ _ (λ x. wider x.holder) t.sold h.balanced.sellers;
          traders = All-weaker _ _ (λ x b. (wider x.buyer b.0, wider x.seller b.1)) t.waiting h.balanced.traders;
          evenly = h.balanced.evenly;
          values = h.balanced.values;
        };
        sellers = All-weaker _ _ (λ x. wider x.seller) t.notices h.sellers;
        holders = All-weaker _ _ (λ x. wider x.owner) t.lots h.holders;
        ordered = h.ordered;
        lots_ordered = h.lots_ordered;
        started = h.started;
        lots_are = λ k r. ⊎_elim
            (λ (lt : k < length t.parties + 1). h.lots_are k (r.0, omega arith))
            (λ (le : length t.parties + 1 ≤ k). omega (arith, lots_stranger (length t.parties) k t.lots (omega arith) h.holders, carried_stranger t k h.balanced (omega arith)))
            (cases_lt k (length t.parties + 1));
        due_short = h.due_short;
        under_short = h.under_short;
        mini = h.mini;
      }

  pub registers : (k : ℕ) → leb 1 k && leb k (length v.accounts) ≡ true → Registered (length t.parties) k
  registers k e = grind (arith, length_numbered)

  pub sound_trade : (w : Trade) → verdict c v (trading w) ≡ None → Sound c (entered t (trading w))
  unfolding entered questions
  sound_trade w e =
      let a = met _ _ e in
      let b = met _ _ a.1 in
      let q7 = met _ _ b.1 in
      let q8 = met _ _ q7.1 in
      let q9 = met _ _ q8.1 in
      let q10 = met _ _ q9.1 in
      let q11 = met _ _ q10.1 in
      let b6 = and_parts _ _ b.0 in
      let s6 = and_parts _ _ b6.1 in
      let buyer : Registered (length t.parties) w.buyer = registers w.buyer b6.0 in
      let seller : Registered (length t.parties) w.seller = registers w.seller s6.0 in
      let covered : under_notice w.buyer t.notices ≤ short (net_of (find v w.buyer) +ℤ pos w.contracts) = leb-true _ _ q11.0 in
      record {
        balanced = record {
          buyers = h.balanced.buyers;
          sellers = h.balanced.sellers;
          traders = All-push _ t.waiting w h.balanced.traders (buyer, seller);
          evenly = h.balanced.evenly;
          values = h.balanced.values;
        };
        sellers = h.sellers;
        holders = h.holders;
        ordered = h.ordered;
        lots_ordered = h.lots_ordered;
        started = h.started;
        lots_are = h.lots_are;
        due_short = h.due_short;
        under_short = λ k. ⊎_elim
            (λ (e : w.buyer ≡ k). subst (λ j. under_notice j t.notices ≤ short (today next j)) e
            (omega (
              arith,
              covered,
              ap down (ap (λ z. z +ℤ pos w.contracts) (found c t w.buyer buyer)),
              sum_is_lem (today t w.buyer) (pos w.contracts),
              one_is_0 (today t w.buyer +ℤ pos w.contracts),
              one_is_0 (today next w.buyer),
              today_is t w.buyer,
              today_traded t w w.buyer,
              ap (λ b. cond b w.contracts 0) (eq-eqb w.buyer w.buyer refl),
            )))
            (λ (d : w.buyer ≡ k → ⊥).
            (omega (arith, h.under_short k, one_is_0 (today t k), one_is_0 (today next k), today_is t k, today_traded t w k, ap (λ b. cond b w.contracts 0) (ne_eqb w.buyer k d))))
            (cases_eq w.buyer k);
        mini = h.mini;
      }
    where
      next : Tally
      next = entered t (trading w)

  pub sound_notice : (n : Notification) → verdict c v (noticing n) ≡ None → Sound c (entered t (noticing n))
  unfolding entered questions
  sound_notice n e =
      let x = n.seller in
      let m = n.contracts in
      let r : Notice = noticed_in t.session n in
      let a = met _ _ e in
      let q15 = met _ _ a.1 in
      let q6 = met _ _ q15.1 in
      let q8 = met _ _ q6.1 in
      let q16 = met _ _ q8.1 in
      let seller : Registered (length t.parties) x = registers x q6.0 in
      let some = between_is 1 3000 m q8.0 in
      let open_now = between_is c.opens c.closes t.session q15.0 in
      let covered : under_notice x t.notices + m ≤ short (net_of (find v x)) = leb-true _ _ q16.0 in
      record {
        balanced = grind arith;
        sellers = All-push _ t.notices r h.sellers seller;
        holders = h.holders;
        ordered = grind (arith, ordered_push);
        lots_ordered = h.lots_ordered;
        started = h.started;
        lots_are = h.lots_are;
        due_short = λ k. grind (arith, due_push);
        under_short = λ k. grind (arith, found, notices_push);
        mini = λ no. absurd (omega (arith, windows no, h.started, open_now.1));
      }

  pub sound_marking : (m : Marking) (room : ℕ) → Sound c (entered t (marking m room))
  unfolding entered fed_marking prices
  sound_marking m room =
      let changed : (k : ℕ) → Change = λ k. record { before = carried t k; after = today t k } in
      record {
        balanced = balanced_marking t m h.balanced;
        sellers = h.sellers;
        holders = grind (arith, all_turned, length_numbered);
        ordered = grind (arith, ordered_later);
        lots_ordered = grind (arith, order_turned, below_any, order_until);
        started = omega arith;
        lots_are = λ k r. turned_own t.session changed k 1 t.parties t.lots r.0 (omega arith) (h.lots_are k r);
        due_short = λ k. grind (arith, due_all);
        under_short = λ k. omega (
          arith,
          h.under_short k,
          today_is (fed_marking t m) k,
          one_is_0 (today t k),
          one_is_0 (today (fed_marking t m) k),
          net_is (prices k (t.bought ++ buys t.waiting)) (prices k (t.sold ++ sells t.waiting)),
        );
        mini = h.mini;
      }

  pub sound_expiry : (final room : ℕ) → verdict c v (expiring (Some final) room) ≡ None → Sound c (entered t (expiring (Some final) room))
  unfolding entered questions fed_expiry due
  sound_expiry final room e = grind (arith, met, balanced_expiry, none_in_lots, closed_carried, none_under_notice)

  -- the oldest notice, which is due, and the oldest lot
  module _ (x : Notice) (l : Lot) (xs : List Notice) (ls : List Lot) (nx : t.notices ≡ x ∷ xs) (lx : t.lots ≡ l ∷ ls) (is_due : x.session < t.session) where
    abbrev pub m : ℕ
    m = paired x l

    -- neither is empty
    some : (1 ≤ x.count) × (1 ≤ l.count)
    some = ((rw nx at h.ordered).2, (rw lx at h.lots_ordered).2)

    unfoldable pub next : Tally
    next = fed_designation t x l

    -- the part of account k
    unfoldable pub i : ℕ → ℕ
    i k = cond (eqb x.seller k) m 0

    unfoldable pub j : ℕ → ℕ
    j k = cond (eqb l.owner k) m 0

    pub first_due : (k : ℕ) → due t.session k (less_oldest_notices m t.notices) + i k ≡ due t.session k t.notices
    unfolding i
    first_due k = grind (arith, due_first)

    pub first_notice : (k : ℕ) → under_notice k (less_oldest_notices m t.notices) + i k ≡ under_notice k t.notices
    unfolding i
    first_notice k = grind (arith, notices_first)

    pub first_lot : (k : ℕ) → in_lots k (less_oldest_lots m t.lots) + j k ≡ in_lots k t.lots
    unfolding j
    first_lot k = grind (arith, lots_first)

    pub carries : (k : ℕ) → up (carried next k) + (length (prices k t.sold) + j k) ≡ down (carried next k) + (length (prices k t.bought) + i k)
    unfolding next fed_designation i j
    carries k = grind (arith, net_is, count_push)

    pub nets : (k : ℕ) → up (today next k) + (length (prices k t.sold) + j k + length (prices k (sells t.waiting))) ≡ down (today next k) + (length (prices k t.bought) + i k + length (prices k (buys t.waiting)))
    unfolding next fed_designation i j
    nets k = omega (arith, today_is next k, count_push k t.bought (record { holder = x.seller; price = t.price; contracts = m }), count_push k t.sold (record { holder = l.owner; price = t.price; contracts = m }))

    -- the seller is short, and the holder long, by that much at least
    pub sides : (k : ℕ) → (i k ≤ down (carried t k)) × (Registered (length t.parties) k → j k ≤ up (carried t k))
    sides k = (omega (arith, first_due k, h.due_short k), λ r. omega (arith, first_lot k, h.lots_are k r))

    owners : Registered (length t.parties) x.seller × Registered (length t.parties) l.owner
    owners = ((rw nx at h.sellers).0, (rw lx at h.holders).0)

    pub sound_designation : Sound c (fed_designation t x l)
    unfolding next fed_designation
    sound_designation = record {
      balanced = balanced_designation t x l owners.0 owners.1 h.balanced;
      sellers = grind (arith, all_less_notices);
      holders = grind (arith, all_less_oldest);
      ordered = grind (arith, ordered_less);
      lots_ordered = order_less_oldest t.session m t.lots h.lots_ordered;
      started = h.started;
      lots_are = λ k r. grind (arith, first_lot, carries, net_is, sides);
      due_short = λ k. omega (arith, h.due_short k, first_due k, carries k, net_is (prices k t.bought) (prices k t.sold), one_is_0 (carried t k), one_is_0 (carried next k));
      under_short = λ k. omega (arith, h.under_short k, first_notice k, nets k, today_is t k, one_is_0 (today t k), one_is_0 (today next k));
      mini = λ no. grind arith;
    }

-- ---- a due notice finds a lot
module _ {X : Type 0} (g : ℕ → ℕ) where
  over_at_least : (k n : ℕ) (xs : List X) → n ≤ k → k < n + length xs → g k ≤ over g n xs
  unfolding over
  over_at_least k n [] a b = absurd (omega arith)
  over_at_least k n (x ∷ xs) a b = ⊎_elim
      (λ (e : n ≡ k). omega (arith, ap g e))
      (λ (d : n ≡ k → ⊥). omega (arith, over_at_least k (n + 1) xs (omega arith) (omega arith)))
      (cases_eq n k)

  over_zero : (n : ℕ) (xs : List X) → ((k : ℕ) → n ≤ k → k < n + length xs → g k ≡ 0) → over g n xs ≡ 0
  unfolding over
  over_zero n [] z = refl
  over_zero n (x ∷ xs) z = grind (arith, over_zero (n + 1) xs (λ k a b. z k (omega arith) (omega arith)))

pub finds_lot : (c : Terms) (t : Tally) → Sound c t → (x : Notice) (xs : List Notice) → t.notices ≡ x ∷ xs → x.session < t.session → t.lots ≡ [] → ⊥
unfolding due
finds_lot c t h x xs nx is_due none =
    let own : Registered (length t.parties) x.seller = (rw nx at h.sellers).0 in
    let some : 1 ≤ x.count = (rw nx at h.ordered).2 in
    let short_by : 1 ≤ short (carried t x.seller) =
    omega (
      arith,
      h.due_short x.seller,
      ap (due t.session x.seller) nx,
      ap (λ b. cond b (cond (ltb x.session t.session) x.count 0) 0) (eq-eqb x.seller x.seller refl),
      ap (λ b. cond b x.count 0) (lt-ltb x.session t.session is_due),
    ) in
    omega (
      arith,
      short_by,
      over_at_least (λ k. short (carried t k)) x.seller 1 t.parties own.0 (omega arith),
      longs_are_shorts t h.balanced,
      over_zero (λ k. long (carried t k)) 1 t.parties (λ k a b. sym (h.lots_are k (a, omega arith)) ∙ ap (in_lots k) none ∙ none_in_lots k),
    )
