-- What the book shows after a call is what the fed tally shows.
use Rattle.std.proofs.Common.{arith}
use Rattle.std.proofs.Common.{◌≡◌, ℕ, ◌+◌, ◌<◌, ◌≤◌, cond, eqb, List, [], ◌∷◌, ◌++◌, length, replicate, ℤ, pos, ◌+ℤ◌, ◌-ℤ◌, sym, ap, ◌∙◌}
use Rattle.std.proofs.lemmas.List.{length-replicate}
use Rattle.tally.specs.declared.rows.Account.{Account}
use Rattle.tally.specs.declared.rows.Lot.{Lot}
use Rattle.tally.specs.declared.rows.Notice.{Notice}
use Rattle.tally.specs.declared.call.Registration.{Registration}
use Rattle.tally.specs.declared.call.Marking.{Marking}
use Rattle.tally.specs.Account.{long, short, net, position}
use Rattle.tally.specs.Book.{Terms, Posting, Tally, View, numbered, prices, buys, sells, carried, account, seen}
use Rattle.tally.specs.Questions.{net_of}
use Rattle.tally.specs.Steps.{Change, change, paired, turned, marked_account, mark, fed_marking, designated_account, designate, fed_designation, expired_account, expire, fed_expiry}
use Rattle.tally.proofs.Positions.{marked_position, net_append, position_at, closed_position, closed_net}
use Rattle.tally.proofs.Numbered.{numbered_same, map_numbered, numbered_twice, prices_append, prices_one, each, prices_each}

pub two : {A B C : Type 0} (f : A → B → C) {a a' : A} {b b' : B} → a ≡ a' → b ≡ b' → f a b ≡ f a' b'
two f {a' = a'} {b = b} e d = ap (λ x. f x b) e ∙ ap (λ y. f a' y) d

module _ (c : Terms) (t : Tally) where
  abbrev size : ℕ
  size = c.size

  abbrev made : Registration → ℕ → ℕ → ℤ → ℤ → Account
  made p b s y z = record { identity = p.identity; residency = p.residency; carried = y; bought = b; sold = s; total = z }

  -- ---- marking
  both : (price k : ℕ) → (net (prices k (t.bought ++ buys t.waiting)) (prices k (t.sold ++ sells t.waiting)) ≡ net (prices k t.bought ++ prices k (buys t.waiting)) (prices k t.sold ++ prices k (sells t.waiting))) × (position size price (prices k (t.bought ++ buys t.waiting)) (prices k (t.sold ++ sells t.waiting)) ≡ position size price (prices k t.bought ++ prices k (buys t.waiting)) (prices k t.sold ++ prices k (sells t.waiting)))
  both price k = grind (arith, prices_append)

  pub net_marked : (price k : ℕ) (p : Registration) → net_of (account size t k p) ≡ net (prices k (t.bought ++ buys t.waiting)) (prices k (t.sold ++ sells t.waiting))
  unfolding account
  net_marked price k p = net_append (prices k t.bought) (prices k t.sold) (prices k (buys t.waiting)) (prices k (sells t.waiting)) ∙ sym (both price k).0

  marked : (m : Marking) (k : ℕ) (p : Registration) → marked_account c (seen size t) m.price k (account size t k p) ≡ account size (fed_marking t m) k p
  unfolding account marked_account fed_marking prices
  marked m k p = two (made p 0 0) (net_marked m.price k p)
      (marked_position size t.price m.price (prices k t.bought) (prices k t.sold) (prices k (buys t.waiting)) (prices k (sells t.waiting)) ∙ sym (both m.price k).1)

  changes : (k : ℕ) (p : Registration) → Change
  changes k p = record { before = (account size t k p).carried; after = net_of (account size t k p) }

  pub mark_square : (m : Marking) → mark c (seen size t) m ≡ seen size (fed_marking t m)
  unfolding mark fed_marking changes account
  mark_square m = two shown
      (numbered_twice (marked_account c (seen size t) m.price) (account size t) 1 t.parties
      ∙ numbered_same (λ k p. marked_account c (seen size t) m.price k (account size t k p)) (account size (fed_marking t m)) 1 t.parties (λ k p _ _. marked m k p))
      (ap (λ cs. turned t.session 1 cs t.lots)
      (map_numbered (λ a. record { before = a.carried; after = net_of a }) (account size t) 1 t.parties
      ∙ numbered_same changes (change t) 1 t.parties (λ k p _ _. ap (λ z. record { before = carried t k; after = z }) (net_marked m.price k p))))
    where
      shown : List Account → List Lot → View
      shown xs ls = record { accounts = xs; sheet = []; notices = t.notices; lots = ls; session = t.session + 1; price = m.price; rate = m.rate; expired = t.expired }

  -- ---- designation
  module _ (notice : Notice) (lot : Lot) where
    abbrev count : ℕ
    count = paired notice lot

    abbrev got : Posting
    got = record { holder = notice.seller; price = t.price; contracts = count }

    abbrev gave : Posting
    gave = record { holder = lot.owner; price = t.price; contracts = count }

    designated : (k : ℕ) (p : Registration) → designated_account notice lot k (account size t k p) ≡ account size (fed_designation t notice lot) k p
    unfolding account designated_account fed_designation
    designated k p =
        let b = cond (eqb notice.seller k) count 0 in
        let s = cond (eqb lot.owner k) count 0 in
        let B = prices k t.bought in
        let S = prices k t.sold in
        let e : prices k (t.bought ++ got ∷ []) ≡ B ++ replicate b t.price = prices_append k t.bought (got ∷ []) ∙ ap (λ l. B ++ l) (prices_one k got) in
        let d : prices k (t.sold ++ gave ∷ []) ≡ S ++ replicate s t.price = prices_append k t.sold (gave ∷ []) ∙ ap (λ l. S ++ l) (prices_one k gave) in
        let n : (net B S +ℤ pos b) -ℤ pos s ≡ net (B ++ replicate b t.price) (S ++ replicate s t.price) =
        two (λ i j. (net B S +ℤ pos i) -ℤ pos j) (sym (length-replicate b t.price)) (sym (length-replicate s t.price)) ∙ net_append B S (replicate b t.price) (replicate s t.price) in
        two (made p (length (prices k (buys t.waiting))) (length (prices k (sells t.waiting))))
        (n ∙ sym (two net e d))
        (sym (position_at size t.price b s B S) ∙ sym (two (position size t.price) e d))

    pub designate_square : designate (seen size t) notice lot ≡ seen size (fed_designation t notice lot)
    unfolding designate fed_designation
    designate_square = ap shown
        (numbered_twice (designated_account notice lot) (account size t) 1 t.parties
        ∙ numbered_same (λ k p. designated_account notice lot k (account size t k p)) (account size (fed_designation t notice lot)) 1 t.parties (λ k p _ _. designated k p))
      where
        shown : List Account → View
        shown xs = let v = designate (seen size t) notice lot in
            record { accounts = xs; sheet = v.sheet; notices = v.notices; lots = v.lots; session = v.session; price = v.price; rate = v.rate; expired = v.expired }

  -- ---- expiry
  module _ (final : ℕ) where
    closed : (k : ℕ) (p : Registration) → 1 ≤ k → k < 1 + length t.parties → expired_account c (seen size t) final k (account size t k p) ≡ account size (fed_expiry t final) k p
    unfolding account expired_account fed_expiry
    closed k p low high =
        let B = prices k t.bought in
        let S = prices k t.sold in
        let bs = numbered (each final (λ j. short (carried t j))) 1 t.parties in
        let ss = numbered (each final (λ j. long (carried t j))) 1 t.parties in
        let e : prices k (t.bought ++ bs) ≡ B ++ replicate (short (carried t k)) final = prices_append k t.bought bs ∙ ap (λ l. B ++ l) (prices_each final (λ j. short (carried t j)) k 1 t.parties low high) in
        let d : prices k (t.sold ++ ss) ≡ S ++ replicate (long (carried t k)) final = prices_append k t.sold ss ∙ ap (λ l. S ++ l) (prices_each final (λ j. long (carried t j)) k 1 t.parties low high) in
        two (made p (length (prices k (buys t.waiting))) (length (prices k (sells t.waiting))))
        (closed_net final B S ∙ sym (two net e d))
        (closed_position size t.price final B S ∙ sym (two (position size t.price) e d))

    pub closed_carried : (k : ℕ) (p : Registration) → 1 ≤ k → k < 1 + length t.parties → pos 0 ≡ carried (fed_expiry t final) k
    unfolding account expired_account
    closed_carried k p low high = ap (λ a. a.carried) (closed k p low high)

    pub expire_square : expire c (seen size t) final ≡ seen size (fed_expiry t final)
    unfolding expire fed_expiry
    expire_square = ap shown
        (numbered_twice (expired_account c (seen size t) final) (account size t) 1 t.parties
        ∙ numbered_same (λ k p. expired_account c (seen size t) final k (account size t k p)) (account size (fed_expiry t final)) 1 t.parties closed)
      where
        shown : List Account → View
        shown xs = let v = expire c (seen size t) final in
            record { accounts = xs; sheet = v.sheet; notices = v.notices; lots = v.lots; session = v.session; price = v.price; rate = v.rate; expired = v.expired }
