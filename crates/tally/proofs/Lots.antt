-- Lots: what each account holds after a marking or a designation, their order, and how many rows they take.
use Rattle.std.proofs.lemmas.Grind.{common_steps}
use Rattle.std.proofs.Common.{◌≡◌, ℕ, ◌+◌, ◌-◌, ◌<◌, ◌≤◌, Bool, cond, eqb, ltb, List, [], ◌∷◌, ◌++◌, length, ℤ, refl, ◌∙◌, ⊎_elim, arith}
use Rattle.std.specs.List.{AllByRecursion}
use Rattle.std.proofs.lemmas.List.{length-append}
use Rattle.std.proofs.lemmas.Bool.{cases_eq, leb-false}
use Rattle.aged.specs.Line.{take_picked, every}
use Rattle.tally.specs.declared.rows.Lot.{Lot}
use Rattle.tally.specs.Account.{long}
use Rattle.tally.specs.Book.{numbered}
use Rattle.tally.specs.Law.{Registered, Behind, LotsInOrder}
use Rattle.tally.specs.Questions.{in_lots}
use Rattle.tally.specs.Rows.{lot_counting}
use Rattle.tally.specs.Steps.{Change, less_lots, less_oldest_lots, aged, turned}
use Rattle.tally.proofs.Aging.{all_left, no_longer, held_push, held_own, held_other, held_first}

abbrev whose : Lot → ℕ
whose l = l.owner

same_owner : (l : Lot) (n : ℕ) → whose (lot_counting.recount l n) ≡ whose l
same_owner l n = refl

pub lots_push : (k : ℕ) (ls : List Lot) (l : Lot) → in_lots k (ls ++ l ∷ []) ≡ in_lots k ls + cond (eqb l.owner k) l.count 0
unfolding in_lots
lots_push k ls l = held_push lot_counting whose same_owner k ls l

pub lots_first : (k m : ℕ) (l : Lot) (ls : List Lot) → 1 ≤ l.count → m ≤ l.count → in_lots k (less_oldest_lots m (l ∷ ls)) + cond (eqb l.owner k) m 0 ≡ in_lots k (l ∷ ls)
unfolding in_lots less_oldest_lots
lots_first k m l ls some le = held_first lot_counting whose same_owner k m l ls some le

less_own : (k n : ℕ) (ls : List Lot) → in_lots k (less_lots k n ls) ≡ in_lots k ls - n
unfolding in_lots less_lots
less_own k n ls = held_own lot_counting whose same_owner k n ls

less_other : (j k n : ℕ) (ls : List Lot) → (j ≡ k → ⊥) → in_lots k (less_lots j n ls) ≡ in_lots k ls
unfolding in_lots less_lots
less_other j k n ls d = held_other lot_counting whose same_owner j k n d ls

pub lots_stranger : (n k : ℕ) (ls : List Lot) → n < k → AllByRecursion (λ l. Registered n l.owner) ls → in_lots k ls ≡ 0
unfolding in_lots
lots_stranger n k [] lt h = refl
lots_stranger n k (l ∷ ls) lt h = grind (arith, lots_stranger n k ls lt h.1)

pub none_in_lots : (k : ℕ) → in_lots k [] ≡ 0
unfolding in_lots
none_in_lots k = refl

-- ---- one account at a marking
abbrev new_lot : ℕ → ℕ → ℤ → ℤ → Lot
new_lot s k before after = record { owner = k; session = s; count = long after - long before }

aged_own : (s k : ℕ) (before after : ℤ) (ls : List Lot) → in_lots k ls ≡ long before → in_lots k (aged s k before after ls) ≡ long after
unfolding aged
aged_own s k before after ls e = grind (arith, lots_push, less_own)

aged_other : (s j k : ℕ) (before after : ℤ) (ls : List Lot) → (j ≡ k → ⊥) → in_lots k (aged s j before after ls) ≡ in_lots k ls
unfolding aged
aged_other s j k before after ls d = grind (arith, lots_push, less_other)

-- ---- all accounts at a marking
module _ {X : Type 0} (s : ℕ) (c : ℕ → Change) where
  abbrev of : ℕ → X → Change
  of k _ = c k

  turned_before : (k n : ℕ) (xs : List X) (ls : List Lot) → k < n → in_lots k (turned s n (numbered of n xs) ls) ≡ in_lots k ls
  unfolding turned numbered
  turned_before k n [] ls lt = refl
  turned_before k n (x ∷ xs) ls lt = grind (arith, aged_other, turned_before k (n + 1) xs (aged s n (c n).before (c n).after ls) (omega arith))

  pub turned_own : (k n : ℕ) (xs : List X) (ls : List Lot) → n ≤ k → k < n + length xs → in_lots k ls ≡ long (c k).before → in_lots k (turned s n (numbered of n xs) ls) ≡ long (c k).after
  unfolding turned numbered
  turned_own k n [] ls a b h = absurd (omega arith)
  turned_own k n (x ∷ xs) ls a b h = ⊎_elim
      at_own
      (λ (d : n ≡ k → ⊥). turned_own k (n + 1) xs (aged s n (c n).before (c n).after ls) (omega arith) (omega arith) (aged_other s n k (c n).before (c n).after ls d ∙ h))
      (cases_eq n k)
    where
      at_own : n ≡ k → in_lots k (turned s (n + 1) (numbered of (n + 1) xs) (aged s n (c n).before (c n).after ls)) ≡ long (c k).after
      at_own e = grind (arith, turned_before, aged_own)

-- ---- what stays true of every lot
module _ (P : Lot → Type 0) (stays : (l : Lot) (m : ℕ) → 1 ≤ m → m ≤ l.count → P l → P (lot_counting.recount l m)) where
  pub all_less_oldest : (n : ℕ) (ls : List Lot) → AllByRecursion P ls → AllByRecursion P (less_oldest_lots n ls)
  unfolding less_oldest_lots
  all_less_oldest n ls h = all_left lot_counting every P stays n ls h

  all_aged : (s k : ℕ) (b a : ℤ) (ls : List Lot) → (long b < long a → P (new_lot s k b a)) → AllByRecursion P ls → AllByRecursion P (aged s k b a ls)
  unfolding aged less_lots
  all_aged s k b a ls new h = grind (arith, common_steps, all_left)

  pub all_turned : (s n : ℕ) (cs : List Change) (ls : List Lot) → ((k : ℕ) (b a : ℤ) → n ≤ k → k < n + length cs → long b < long a → P (new_lot s k b a)) → AllByRecursion P ls → AllByRecursion P (turned s n cs ls)
  unfolding turned
  all_turned s n [] ls new h = h
  all_turned s n (x ∷ cs) ls new h = grind (arith, all_aged, all_turned s (n + 1) cs (aged s n x.before x.after ls) (λ k b a i j. new k b a (omega arith) (omega arith)))

-- ---- order
-- a bound further down bounds as well
pub order_from : (s k s' k' n : ℕ) (ls : List Lot) → s ≤ s' → (s ≡ s' → k ≤ k') → LotsInOrder s' k' n ls → LotsInOrder s k n ls
order_from s k s' k' n [] le same o = tt
order_from s k s' k' n (l ∷ ls) le same o = grind arith

pub order_until : (s k n m : ℕ) (ls : List Lot) → n ≤ m → LotsInOrder s k n ls → LotsInOrder s k m ls
order_until s k n m [] le o = tt
order_until s k n m (l ∷ ls) le o = grind (arith, order_until l.session l.owner n m ls le o.3)

module _ (picks : Lot → Bool) where
  order_left : (s k n m : ℕ) (ls : List Lot) → LotsInOrder s k n ls → LotsInOrder s k n (take_picked lot_counting picks m ls)
  order_left s k n m [] o = tt
  order_left s k n m (l ∷ ls) o = grind (arith, order_from, leb-false, order_left l.session l.owner n (m - l.count) ls o.3, order_left l.session l.owner n m ls o.3)

pub order_less_oldest : (n m : ℕ) (ls : List Lot) → LotsInOrder 0 0 n ls → LotsInOrder 0 0 n (less_oldest_lots m ls)
unfolding less_oldest_lots
order_less_oldest n m ls o = order_left every 0 0 n m ls o

-- within the open session, the owners so far lie below a number
abbrev Below : ℕ → ℕ → Lot → Type 0
Below s k l = l.session ≡ s → l.owner < k

order_push : (s k n : ℕ) (ls : List Lot) (l : Lot) → Behind s k l → l.session < n → 1 ≤ l.count → AllByRecursion (λ x. x.session ≤ l.session) ls → AllByRecursion (Below l.session l.owner) ls → LotsInOrder s k n ls → LotsInOrder s k n (ls ++ l ∷ [])
order_push s k n [] l b lt some le below o = (b, lt, some, tt)
order_push s k n (x ∷ ls) l b lt some le below o =
    (o.0, o.1, o.2, order_push x.session x.owner n ls l (le.0, λ e. below.0 e) lt some le.1 below.1 o.3)

sessions_below : (s k n : ℕ) (ls : List Lot) → LotsInOrder s k n ls → AllByRecursion (λ x. x.session < n) ls
sessions_below s k n [] o = tt
sessions_below s k n (l ∷ ls) o = (o.1, sessions_below l.session l.owner n ls o.3)

pub oldest_first : (s k n : ℕ) (ls : List Lot) → LotsInOrder s k n ls → AllByRecursion (λ x. s ≤ x.session) ls
oldest_first s k n ls o = from s k s ls (omega arith) o
  where
    from : (s k low : ℕ) (ls : List Lot) → low ≤ s → LotsInOrder s k n ls → AllByRecursion (λ x. low ≤ x.session) ls
    from s k low [] le o = tt
    from s k low (l ∷ ls) le o = (omega (arith, o.0.0), from l.session l.owner low ls (omega (arith, o.0.0)) o.3)

-- ---- order and length after a marking
pub below_any : (s k n : ℕ) (ls : List Lot) → LotsInOrder s k n ls → AllByRecursion (Below n 1) ls
below_any s k n [] o = tt
below_any s k n (l ∷ ls) o = grind (arith, below_any l.session l.owner n ls o.3)

below_more : (s k : ℕ) (ls : List Lot) → AllByRecursion (Below s k) ls → AllByRecursion (Below s (k + 1)) ls
below_more s k [] h = tt
below_more s k (l ∷ ls) h = (λ e. omega (arith, h.0 e), below_more s k ls h.1)

at_most : (s k n : ℕ) (ls : List Lot) → LotsInOrder s k (n + 1) ls → AllByRecursion (λ x. x.session ≤ n) ls
at_most s k n [] o = tt
at_most s k n (l ∷ ls) o = (omega (arith, o.1), at_most l.session l.owner n ls o.3)

order_aged : (s k : ℕ) (b a : ℤ) (ls : List Lot) → 1 ≤ k → AllByRecursion (Below s k) ls → LotsInOrder 0 0 (s + 1) ls → LotsInOrder 0 0 (s + 1) (aged s k b a ls)
unfolding aged less_lots
order_aged s k b a ls some below o = grind (arith, order_push, at_most, order_left)

pub order_turned : (s n : ℕ) (cs : List Change) (ls : List Lot) → 1 ≤ n → AllByRecursion (Below s n) ls → LotsInOrder 0 0 (s + 1) ls → LotsInOrder 0 0 (s + 1) (turned s n cs ls)
unfolding turned
order_turned s n [] ls some below o = o
order_turned s n (x ∷ cs) ls some below o =
    order_turned s (n + 1) cs (aged s n x.before x.after ls) (omega arith)
    (all_aged (Below s (n + 1)) (λ l m _ _ h. h) s n x.before x.after ls (λ _ _. omega arith) (below_more s n ls below))
    (order_aged s n x.before x.after ls some below o)

-- the changes that open a lot
unfoldable pub openings : List Change → ℕ
openings [] = 0
openings (x ∷ cs) = cond (ltb (long x.before) (long x.after)) 1 0 + openings cs

length_aged : (s k : ℕ) (b a : ℤ) (ls : List Lot) → length (aged s k b a ls) ≤ length ls + cond (ltb (long b) (long a)) 1 0
unfolding aged less_lots
length_aged s k b a ls = grind (arith, length-append, no_longer)

pub length_turned : (s n : ℕ) (cs : List Change) (ls : List Lot) → length (turned s n cs ls) ≤ length ls + openings cs
unfolding turned openings
length_turned s n [] ls = omega arith
length_turned s n (x ∷ cs) ls = grind (arith, length_aged, length_turned s (n + 1) cs (aged s n x.before x.after ls))

pub length_less_oldest : (m : ℕ) (ls : List Lot) → length (less_oldest_lots m ls) ≤ length ls
unfolding less_oldest_lots
length_less_oldest m ls = no_longer lot_counting every m ls
