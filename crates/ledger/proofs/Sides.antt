-- One side of the sheet, row by row.
use Rattle.std.proofs.Common.{◌≡◌, ℕ, zero, suc, ◌+◌, ◌-◌, ◌*◌, ◌<◌, ◌≤◌, min, cond, eqb, List, [], ◌∷◌, ◌++◌, length, get_or, take, drop, replicate, sum, sym, refl, ap, ◌∙◌, arith}
use Rattle.std.proofs.lemmas.List.{map-append, take-append-drop, take_more, length-append, length-replicate, length-drop}
use Rattle.std.proofs.lemmas.List.Sums.{sum_by-append, sum_by-take-drop}
use Rattle.tally.specs.declared.rows.Trade.{Trade}
use Rattle.tally.specs.Book.{Posting, prices, buy, sell}
use Rattle.tally.proofs.Numbered.{prices_append, prices_one}
use Rattle.tally.proofs.Offsets.{first_push}
use Rattle.tally.proofs.Ring.{times}
use Rattle.tally.proofs.Positions.{sum_replicate}
use Rattle.ledger.specs.declared.sheet.Side.{Side}
use Rattle.ledger.specs.declared.sheet.Side.TheVariants.{Bought, Sold}
use Rattle.ledger.specs.Sheets.{on_side, contracts_on}

-- the posting of a trade on one side
abbrev pub posting : Side → Trade → Posting
posting Bought t = buy t
posting Sold t = sell t

sides_append : (side : Side) (ts us : List Trade) → on_side side (ts ++ us) ≡ on_side side ts ++ on_side side us
sides_append Bought ts us = map-append buy ts us
sides_append Sold ts us = map-append sell ts us

one : (side : Side) (t : Trade) → on_side side (t ∷ []) ≡ posting side t ∷ []
one Bought t = refl
one Sold t = refl

own : (k : ℕ) (side : Side) (t : Trade) → cond (eqb (posting side t).holder k) (posting side t).contracts 0 ≡ contracts_on k side t
own k Bought t = refl
own k Sold t = refl

priced : (side : Side) (t : Trade) → (posting side t).price ≡ t.price
priced Bought t = refl
priced Sold t = refl

-- what was read of a side: the first o contracts, and the others
pub record Read (xs : List ℕ) (o offset offset_value left left_value : ℕ) : Type 0 where
  pub offset_is : offset ≡ min o (length xs)
  pub value_is : offset_value ≡ sum (take o xs)
  pub left_is : left ≡ length (drop o xs)
  pub left_value_is : left_value ≡ sum (drop o xs)

none_first : (o : ℕ) → 0 ≡ sum (take o [])
none_first zero = refl
none_first (suc o) = refl

none_left : (o : ℕ) → 0 ≡ sum (drop o [])
none_left zero = refl
none_left (suc o) = refl

pub read_none : (o : ℕ) → Read [] o 0 0 0 0
read_none o = record { offset_is = omega arith; value_is = none_first o; left_is = omega (arith, length-drop {A = ℕ} o []); left_value_is = none_left o }

-- some contracts more, at one price
pub read_more : (xs : List ℕ) (o a v l w n x : ℕ) → Read xs o a v l w →
    Read (xs ++ replicate n x) o (a + min n (o - a)) (v + x * min n (o - a)) (l + (n - min n (o - a))) (w + x * (n - min n (o - a)))
read_more xs o a v l w n x h =
    let m = min n (o - a) in
    let same : min (o - length xs) n ≡ m = omega (arith, h.offset_is) in
    let long : length (xs ++ replicate n x) ≡ length xs + n = length-append xs (replicate n x) ∙ ap (λ i. length xs + i) (length-replicate n x) in
    let first : sum (take o (xs ++ replicate n x)) ≡ sum (take o xs) + x * m = first_push o n x xs ∙ ap (λ i. sum (take o xs) + x * i) same in
    let whole : n ≡ m + (n - m) = omega arith in
    record {
      offset_is = omega (arith, h.offset_is, long);
      value_is = omega (arith, h.value_is, first);
      left_is = omega (arith, h.left_is, h.offset_is, length-drop o xs, length-drop o (xs ++ replicate n x), long);
      left_value_is = omega (arith, h.left_value_is, h.value_is, first, sum_by-take-drop (λ y. y) xs o, sum_by-take-drop (λ y. y) (xs ++ replicate n x) o, sum_by-append (λ y. y) xs (replicate n x), sum_replicate n x, times x whole);
    }

-- one row of the sheet more
pub read_row : (k : ℕ) (side : Side) (ts : List Trade) (i : ℕ) (d : Trade) (o a v l w : ℕ) → i < length ts → Read (prices k (on_side side (take i ts))) o a v l w →
    let n = contracts_on k side (get_or ts i d) in
    let x = (get_or ts i d).price in
    Read (prices k (on_side side (take (i + 1) ts))) o (a + min n (o - a)) (v + x * min n (o - a)) (l + (n - min n (o - a))) (w + x * (n - min n (o - a)))
read_row k side ts i d o a v l w lt h =
    let t = get_or ts i d in
    let grows : prices k (on_side side (take (i + 1) ts)) ≡ prices k (on_side side (take i ts)) ++ replicate (contracts_on k side t) t.price =
    ap (λ l. prices k (on_side side l)) (take_more ts i d lt) ∙ ap (prices k) (sides_append side (take i ts) (t ∷ [])) ∙ ap (λ ps. prices k (on_side side (take i ts) ++ ps)) (one side t)
    ∙ prices_append k (on_side side (take i ts)) (posting side t ∷ [])
    ∙ ap (λ l. prices k (on_side side (take i ts)) ++ l) (prices_one k (posting side t) ∙ ap (λ n. replicate n (posting side t).price) (own k side t) ∙ ap (λ p. replicate (contracts_on k side t) p) (priced side t)) in
    rw grows (read_more (prices k (on_side side (take i ts))) o a v l w (contracts_on k side t) t.price h)

-- the same for what the code has of the row
pub read_next : (k : ℕ) (side : Side) (ts : List Trade) (i : ℕ) (d : Trade) (o a v l w : ℕ) {n m p q : ℕ} → i < length ts →
    n ≡ contracts_on k side (get_or ts i d) → m ≡ min n (o - a) → p ≡ (get_or ts i d).price * m → q ≡ (get_or ts i d).price * (n - m) →
    Read (prices k (on_side side (take i ts))) o a v l w → Read (prices k (on_side side (take (i + 1) ts))) o (a + m) (v + p) (l + (n - m)) (w + q)
read_next k side ts i d o a v l w {n} {m} {p} {q} lt en em ep eq h =
    let row = read_row k side ts i d o a v l w lt h in
    let x = (get_or ts i d).price in
    let c = contracts_on k side (get_or ts i d) in
    let same : m ≡ min c (o - a) = em ∙ ap (λ y. min y (o - a)) en in
    record {
      offset_is = ap (λ y. a + y) same ∙ row.offset_is;
      value_is = ap (λ y. v + y) (ep ∙ ap (λ y. x * y) same) ∙ row.value_is;
      left_is = ap (λ y. l + (y - m)) en ∙ ap (λ y. l + (c - y)) same ∙ row.left_is;
      left_value_is = ap (λ y. w + y) (eq ∙ ap (λ y. x * (y - m)) en ∙ ap (λ y. x * (c - y)) same) ∙ row.left_value_is;
    }

-- before the first row
pub read_start : (k : ℕ) (side : Side) (o : ℕ) → Read (prices k (on_side side [])) o 0 0 0 0
unfolding prices
read_start k Bought o = read_none o
read_start k Sold o = read_none o

-- what a side has in the first rows is not more than it has in all
prefix_within : (k : ℕ) (side : Side) (ts : List Trade) (j : ℕ) → length (prices k (on_side side (take j ts))) ≤ length (prices k (on_side side ts))
prefix_within k side ts j =
    let parts : prices k (on_side side ts) ≡ prices k (on_side side (take j ts)) ++ prices k (on_side side (drop j ts)) =
    ap (λ l. prices k (on_side side l)) (sym (take-append-drop j ts)) ∙ ap (prices k) (sides_append side (take j ts) (drop j ts)) ∙ prices_append k (on_side side (take j ts)) (on_side side (drop j ts)) in
    omega (arith, ap length parts, length-append (prices k (on_side side (take j ts))) (prices k (on_side side (drop j ts))))

-- so neither part grows past what the side has in all
pub row_within : (k : ℕ) (side : Side) (ts : List Trade) (i : ℕ) (d : Trade) (o a v l w : ℕ) {n m : ℕ} → i < length ts → n ≡ contracts_on k side (get_or ts i d) → m ≡ min n (o - a) →
    Read (prices k (on_side side (take i ts))) o a v l w → (a + m ≤ length (prices k (on_side side ts))) × (l + (n - m) ≤ length (prices k (on_side side ts)))
row_within k side ts i d o a v l w {n} {m} lt en em h =
    let row = read_next k side ts i d o a v l w lt en em refl refl h in
    let all = prefix_within k side ts (i + 1) in
    (omega (arith, row.offset_is, all), omega (arith, row.left_is, all, length-drop o (prices k (on_side side (take (i + 1) ts)))))
