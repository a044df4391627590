-- Each call keeps a tally balanced, so what a page owes sums to zero.
use Rattle.std.proofs.lemmas.Grind.{common_steps}
use Rattle.std.proofs.Common.{◌≡◌, ℕ, ◌+◌, ◌*◌, ◌≤◌, List, [], ◌∷◌, map, length, ℤ, pos, ◌+ℤ◌, sum_by, sym, refl, ap, ◌∙◌, arith}
use borrow.Author.Differences.{ints}
use Rattle.std.specs.List.{AllByRecursion}
use Rattle.std.proofs.ByRecursion.{All-append}
use Rattle.std.proofs.lemmas.List.Sums.{sum_by-cons, sum_by-append}
use Rattle.tally.specs.declared.rows.Account.{Account}
use Rattle.tally.specs.declared.rows.Trade.{Trade}
use Rattle.tally.specs.declared.rows.Lot.{Lot}
use Rattle.tally.specs.declared.rows.Notice.{Notice}
use Rattle.tally.specs.declared.call.Marking.{Marking}
use Rattle.tally.specs.Account.{long, short}
use Rattle.tally.specs.Book.{Terms, Tally, View, numbered, prices, buys, sells, carried, seen}
use Rattle.tally.specs.Steps.{fed_marking, fed_designation, fed_expiry, mark, marked_account, expire, expired_account}
use Rattle.tally.specs.Law.{Registered, totals}
use Rattle.tally.specs.Pages.{sumℤ, by_marking, by_expiry}
use Rattle.tally.proofs.Balance.{contracts, worth_of, Balanced}
use Rattle.tally.proofs.Positions.{net_is}
use Rattle.tally.proofs.Numbered.{map_numbered, each}
use Rattle.tally.proofs.Zero.{over, all_contracts, totals_zero}
use Rattle.tally.proofs.Square.{mark_square, expire_square}

-- ---- marking
pub waited : (n : ℕ) (ts : List Trade) → AllByRecursion (λ w. Registered n w.buyer × Registered n w.seller) ts →
    AllByRecursion (λ p. Registered n p.holder) (buys ts) × AllByRecursion (λ p. Registered n p.holder) (sells ts)
waited n [] h = (tt, tt)
waited n (t ∷ ts) h = grind (arith, waited n ts h.1)

matched : (ts : List Trade) → (sum_by contracts (buys ts) ≡ sum_by contracts (sells ts)) × (sum_by worth_of (buys ts) ≡ sum_by worth_of (sells ts))
matched [] = (refl, refl)
matched (t ∷ ts) = grind (arith, common_steps)

pub balanced_marking : (t : Tally) (m : Marking) → Balanced t → Balanced (fed_marking t m)
unfolding fed_marking
balanced_marking t m h = let w = waited (length t.parties) t.waiting h.traders in record {
  buyers = All-append _ t.bought (buys t.waiting) h.buyers w.0;
  sellers = All-append _ t.sold (sells t.waiting) h.sellers w.1;
  traders = tt;
  evenly = grind (arith, sum_by-append, matched);
  values = grind (arith, common_steps);
}

-- ---- designation
pub balanced_designation : (t : Tally) (notice : Notice) (lot : Lot) → Registered (length t.parties) notice.seller → Registered (length t.parties) lot.owner → Balanced t → Balanced (fed_designation t notice lot)
unfolding fed_designation
balanced_designation t notice lot a b h = grind (arith, common_steps)

-- ---- expiry
module _ {X : Type 0} (price : ℕ) (of : ℕ → ℕ) where
  each_in : (n m : ℕ) (xs : List X) → 1 ≤ n → n + length xs ≤ m + 1 → AllByRecursion (λ p. Registered m p.holder) (numbered (each price of) n xs)
  unfolding numbered
  each_in n m [] a b = tt
  each_in n m (x ∷ xs) a b = ((a, omega arith), each_in (n + 1) m xs (omega arith) (omega arith))

  each_sums : (n : ℕ) (xs : List X) → (sum_by contracts (numbered (each price of) n xs) ≡ over of n xs) × (sum_by worth_of (numbered (each price of) n xs) ≡ price * over of n xs)
  unfolding numbered over
  each_sums n [] = (refl, omega arith)
  each_sums n (x ∷ xs) = grind (arith, common_steps, sum_by-cons, contracts, each, worth_of, each_sums (n + 1) xs)

-- long and short contracts, all accounts together
module _ {X : Type 0} where
  pub over_net : (t : Tally) (n : ℕ) (xs : List X) →
      over (λ k. long (carried t k)) n xs + over (λ k. length (prices k t.sold)) n xs ≡ over (λ k. short (carried t k)) n xs + over (λ k. length (prices k t.bought)) n xs
  unfolding over
  over_net t n [] = refl
  over_net t n (x ∷ xs) = grind (arith, net_is, over_net t (n + 1) xs)

pub longs_are_shorts : (t : Tally) → Balanced t → over (λ k. long (carried t k)) 1 t.parties ≡ over (λ k. short (carried t k)) 1 t.parties
longs_are_shorts t h = omega (arith, over_net t 1 t.parties, all_contracts t.bought t.parties h.buyers, all_contracts t.sold t.parties h.sellers, h.evenly)

pub balanced_expiry : (t : Tally) (final : ℕ) → Balanced t → Balanced (fed_expiry t final)
unfolding fed_expiry
balanced_expiry t final h =
    let ss = λ (j : ℕ). short (carried t j) in
    let ls = λ (j : ℕ). long (carried t j) in
    let bs = numbered (each final ss) 1 t.parties in
    let es = numbered (each final ls) 1 t.parties in
    let same = longs_are_shorts t h in
    let b = each_sums final ss 1 t.parties in
    let e = each_sums final ls 1 t.parties in
    record {
      buyers = All-append _ t.bought bs h.buyers (each_in final ss 1 (length t.parties) t.parties (omega arith) (omega arith));
      sellers = All-append _ t.sold es h.sellers (each_in final ls 1 (length t.parties) t.parties (omega arith) (omega arith));
      traders = h.traders;
      evenly = grind (arith, sum_by-append);
      values = grind (arith, sum_by-append);
    }

-- ---- pages
module _ {X : Type 0} where
  sum_added : (f g : ℕ → X → ℤ) (n : ℕ) (xs : List X) → sumℤ (numbered (λ k x. f k x +ℤ g k x) n xs) ≡ sumℤ (numbered f n xs) +ℤ sumℤ (numbered g n xs)
  unfolding sumℤ numbered
  sum_added f g n [] = refl
  sum_added f g n (x ∷ xs) = omega (arith, ints, sum_added f g (n + 1) xs)

  map_is : {Y : Type 0} (f : X → Y) (n : ℕ) (xs : List X) → map f xs ≡ numbered (λ _ x. f x) n xs
  unfolding numbered
  map_is f n [] = refl
  map_is f n (x ∷ xs) = ap (λ l. f x ∷ l) (map_is f (n + 1) xs)

rest_zero : (a b c : ℤ) → a +ℤ b ≡ c → a ≡ pos 0 → c ≡ pos 0 → b ≡ pos 0
rest_zero a b c e p q = omega (arith, ints)

-- what a marking owes all accounts, and what an expiry does
unfoldable pub owed : Terms → View → ℕ → List ℤ
owed c v price = numbered (λ k a. let o = by_marking c v price (record { number = k; account = a }) in o.day_trade +ℤ o.margin) 1 v.accounts

unfoldable pub owed_last : Terms → View → ℕ → List ℤ
owed_last c v final = numbered (λ k a. (by_expiry c v final (record { number = k; account = a })).margin) 1 v.accounts

pub owed_zero : (c : Terms) (t : Tally) (m : Marking) → Balanced t → sumℤ (owed c (seen c.size t) m.price) ≡ pos 0
unfolding mark marked_account owed
owed_zero c t m h =
    let v = seen c.size t in
    let owes = λ (k : ℕ) (a : Account). (by_marking c v m.price (record { number = k; account = a })).day_trade +ℤ (by_marking c v m.price (record { number = k; account = a })).margin in
    let after : sumℤ (totals (mark c v m)) ≡ pos 0 = ap (λ w. sumℤ (totals w)) (mark_square c t m) ∙ totals_zero c.size (fed_marking t m) (balanced_marking t m h) in
    let split : sumℤ (totals v) +ℤ sumℤ (owed c v m.price) ≡ sumℤ (totals (mark c v m)) =
    ap (λ l. sumℤ l +ℤ sumℤ (owed c v m.price)) (map_is (λ a. a.total) 1 v.accounts)
    ∙ sym (sum_added (λ _ a. a.total) owes 1 v.accounts)
    ∙ ap sumℤ (sym (map_numbered (λ a. a.total) (marked_account c v m.price) 1 v.accounts)) in
    rest_zero _ _ _ split (totals_zero c.size t h) after

pub owed_last_zero : (c : Terms) (t : Tally) (final : ℕ) → Balanced t → sumℤ (owed_last c (seen c.size t) final) ≡ pos 0
unfolding expire expired_account owed_last
owed_last_zero c t final h =
    let v = seen c.size t in
    let owes = λ (k : ℕ) (a : Account). (by_expiry c v final (record { number = k; account = a })).margin in
    let after : sumℤ (totals (expire c v final)) ≡ pos 0 = ap (λ w. sumℤ (totals w)) (expire_square c t final) ∙ totals_zero c.size (fed_expiry t final) (balanced_expiry t final h) in
    let split : sumℤ (totals v) +ℤ sumℤ (owed_last c v final) ≡ sumℤ (totals (expire c v final)) =
    ap (λ l. sumℤ l +ℤ sumℤ (owed_last c v final)) (map_is (λ a. a.total) 1 v.accounts)
    ∙ sym (sum_added (λ _ a. a.total) owes 1 v.accounts)
    ∙ ap sumℤ (sym (map_numbered (λ a. a.total) (expired_account c v final) 1 v.accounts)) in
    rest_zero _ _ _ split (totals_zero c.size t h) after
