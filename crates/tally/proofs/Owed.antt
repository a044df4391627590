-- What a page owes an account fits a line of money.
use Rattle.std.proofs.Common.{◌≡◌, ℕ, ◌+◌, ◌*◌, ◌<◌, ◌≤◌, true, List, [], ◌∷◌, length, take, drop, ℤ, pos, negsuc, ◌+ℤ◌, ◌-ℤ◌, ◌*ℤ◌, neg_ℤ, sum, sym, refl, subst, arith}
use borrow.Author.Differences.{sum_is_lem, neg_is}
use Rattle.std.specs.List.{AllByRecursion}
use Rattle.std.proofs.ByRecursion.{All-drop}
use Rattle.std.proofs.lemmas.List.{length-drop}
use Rattle.std.proofs.lemmas.List.Sums.{sum_by-take-le}
use Rattle.money.specs.Ranges.{is_amount}
use Rattle.tally.specs.declared.rows.Account.{Account}
use Rattle.tally.specs.declared.call.Registration.{Registration}
use Rattle.tally.specs.Account.{above, offset, day_trade, margin}
use Rattle.tally.specs.Book.{Terms, Tally, View, numbered, prices, buys, sells, carried, account, seen}
use Rattle.tally.specs.Bounds.{OwedBounded}
use Rattle.tally.specs.Law.{Registered}
use Rattle.tally.specs.Pages.{Listed, roll, by_marking, by_expiry}
use Rattle.tally.proofs.Bounded.{Small, BoundedTally, product, sides_in, sum_in}
use Rattle.tally.proofs.Clock.{Clocked}
use Rattle.tally.proofs.Facts.{one_is_0}
use Rattle.tally.proofs.Numbered.{numbered_twice}
use Rattle.tally.proofs.Positions.{above_is, span_is}

-- ---- signed numbers of limited size
small_sum : (m n : ℕ) (a b : ℤ) → Small m a → Small n b → Small (m + n) (a +ℤ b)
small_sum m n a b p q = omega (arith, p, q, sum_is_lem a b, one_is_0 (a +ℤ b))

small_neg : (n : ℕ) (a : ℤ) → Small n a → Small n (neg_ℤ a)
small_neg n a p = omega (arith, p, neg_is a)

small_in : (m n : ℕ) (a : ℤ) → m ≤ n → Small m a → Small n a
small_in m n a le p = omega (arith, p)

-- a contract's size is 100 at most
sized_in : (size n : ℕ) (z : ℤ) → size ≤ 100 → Small n z → Small (100 * n) (pos size *ℤ z)
sized_in size n z le p = grind (arith, product)

amount_in : (n : ℕ) (z : ℤ) → n ≤ 600000000000 → Small n z → is_amount z ≡ true
amount_in n z le p = grind arith

-- 3,000 contracts from one price to another
span_in : (z : ℤ) (p q : ℕ) → p ≤ 999999 → q ≤ 999999 → Small 3000 z → Small 2999997000 (z *ℤ (pos p -ℤ pos q))
span_in (pos n) p q a b s = grind (arith, product)
span_in (negsuc n) p q a b s = grind (arith, span_is, one_is_0, product)

above_in : (p : ℕ) (xs : List ℕ) → p ≤ 999999 → AllByRecursion (λ x. x ≤ 999999) xs → Small (999999 * length xs) (above p xs)
above_in p xs le h = omega (arith, above_is p xs, one_is_0 (above p xs), sum_in xs h, product p (length xs) 999999 (length xs) le (omega arith))

module _ (size : ℕ) (sized : size ≤ 100) (b s : List ℕ) (few_b : length b ≤ 3000) (few_s : length s ≤ 3000) (low_b : AllByRecursion (λ x. x ≤ 999999) b) (low_s : AllByRecursion (λ x. x ≤ 999999) s) where
  day_trade_in : is_amount (day_trade size b s) ≡ true
  unfolding day_trade
  day_trade_in =
      let o = offset b s in
      let z = pos (sum (take o s)) -ℤ pos (sum (take o b)) in
      let i : Small 2999997000 z =
      omega (
        arith,
        sum_is_lem (pos (sum (take o s))) (neg_ℤ (pos (sum (take o b)))),
        neg_is (pos (sum (take o b))),
        one_is_0 z,
        sum_by-take-le (λ x. x) s o,
        sum_by-take-le (λ x. x) b o,
        sum_in s low_s,
        sum_in b low_b,
      ) in
      amount_in (100 * 2999997000) (pos size *ℤ z) (omega arith) (sized_in size 2999997000 z sized i)

  -- after the offset one side is empty
  left_over : length (drop (offset b s) b) + length (drop (offset b s) s) ≤ 3000
  unfolding offset
  left_over = simp length-drop (omega arith)

  margin_in : (z : ℤ) (before price : ℕ) → Small 3000 z → before ≤ 999999 → price ≤ 999999 → is_amount (margin size z before price b s) ≡ true
  unfolding margin
  margin_in z before price limited le le' =
      let o = offset b s in
      let carries = z *ℤ (pos price -ℤ pos before) in
      let buying = above price (drop o b) in
      let selling = above price (drop o s) in
      let m = 999999 * length (drop o b) in
      let n = 999999 * length (drop o s) in
      let all = small_sum (2999997000 + m) n (carries +ℤ buying) (neg_ℤ selling)
      (small_sum 2999997000 m carries buying (span_in z price before le' le limited) (above_in price (drop o b) le' (All-drop (λ x. x ≤ 999999) o b low_b)))
      (small_neg n selling (above_in price (drop o s) le' (All-drop (λ x. x ≤ 999999) o s low_s))) in
      let gain = (carries +ℤ buying) -ℤ selling in
      amount_in (100 * 5999994000) (pos size *ℤ gain) (omega arith)
      (sized_in size 5999994000 gain sized (small_in (2999997000 + m + n) 5999994000 gain (omega (arith, left_over)) all))

-- ---- all accounts
all_numbered : {X Y : Type 0} (P : Y → Type 0) (f : ℕ → X → Y) (n : ℕ) (xs : List X) → ((k : ℕ) (x : X) → n ≤ k → k < n + length xs → P (f k x)) → AllByRecursion P (numbered f n xs)
unfolding numbered
all_numbered P f n [] h = tt
all_numbered P f n (x ∷ xs) h = grind (arith, all_numbered P f (n + 1) xs (λ k y a b. h k y (omega arith) (omega arith)))

module _ (c : Terms) (sized : c.size ≤ 100) (t : Tally) (clock : Clocked c t) (d : BoundedTally t) where
  abbrev v : View
  v = seen c.size t

  abbrev listed : ℕ → Account → Listed
  listed k a = record { number = k; account = a }

  all_listed : (P : Listed → Type 0) → ((k : ℕ) (p : Registration) → Registered (length t.parties) k → P (listed k (account c.size t k p))) → AllByRecursion P (roll v)
  all_listed P h =
      subst (λ xs. AllByRecursion P xs) (sym (numbered_twice listed (account c.size t) 1 t.parties))
      (all_numbered P (λ k p. listed k (account c.size t k p)) 1 t.parties (λ k p low high. h k p (low, omega arith)))

  pub marking_fits : (price : ℕ) → price ≤ 999999 → AllByRecursion (λ x. OwedBounded (by_marking c v price x)) (roll v)
  unfolding account
  marking_fits price le = all_listed (λ x. OwedBounded (by_marking c v price x)) (λ k p r.
      let low = sides_in k t.waiting d.trades_in in
      let b = prices k (buys t.waiting) in
      let s = prices k (sells t.waiting) in (
        day_trade_in c.size sized b s (d.bought_in k r) (d.sold_in k r) low.0 low.1,
        margin_in c.size sized b s (d.bought_in k r) (d.sold_in k r) low.0 low.1 (carried t k) t.price price (d.carried_in k r) clock.priced le,
      ))

  pub expiry_fits : (final : ℕ) → final ≤ 999999 → AllByRecursion (λ x. OwedBounded (by_expiry c v final x)) (roll v)
  unfolding account
  expiry_fits final le = all_listed (λ x. OwedBounded (by_expiry c v final x)) (λ k p r.
      let gain = carried t k *ℤ (pos final -ℤ pos t.price) in
      (refl, amount_in (100 * 2999997000) (pos c.size *ℤ gain) (omega arith) (sized_in c.size 2999997000 gain sized (span_in (carried t k) final t.price le clock.priced (d.carried_in k r)))))
