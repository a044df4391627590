-- The lots of one account after another.
use Rattle.std.proofs.Common.{◌≡◌, ℕ, ◌+◌, ◌-◌, ◌<◌, ◌≤◌, cond, ltb, List, [], ◌∷◌, ◌++◌, map, length, get_or, drop, ℤ, nat_abs, count_by, sym, ap, ◌∙◌, arith}
use borrow.Author.Differences.{ints}
use Rattle.std.proofs.lemmas.List.{drop_more, drop_all}
use Rattle.std.proofs.lemmas.List.Sums.{sum_by-drop_more}
use Rattle.std.proofs.lemmas.Bool.{lt-ltb, le-ltb, cond-true, cond-false}
use Rattle.aged.specs.Line.{take_of}
use Rattle.tally.specs.declared.rows.Account.{Account}
use Rattle.tally.specs.declared.rows.Lot.{Lot}
use Rattle.tally.specs.Account.{long}
use Rattle.tally.specs.Questions.{net_of, opens_lot}
use Rattle.tally.specs.Rows.{lot_counting}
use Rattle.tally.specs.Steps.{aged, less_lots, turned}
use Rattle.ledger.specs.Limits.{InLimits}
use Rattle.ledger.specs.Owings.{changed}

-- ---- one account
module _ (before after : ℤ) {held left : ℕ} (eh : held ≡ long before) (el : left ≡ long after) where
  pub opens_one : held < left → ◌≡◌ {A = ℕ} (cond (ltb (long before) (long after)) 1 0) 1
  opens_one lt = ap (λ b. cond b 1 0) (lt-ltb (long before) (long after) (omega arith))

  -- more long contracts: a new lot
  pub aged_grows : (session owner : ℕ) (ls : List Lot) → held < left → ls ++ record { owner = owner; session = session; count = left - held } ∷ [] ≡ aged session owner before after ls
  unfolding aged
  aged_grows session owner ls lt =
      ap (λ n. ls ++ record { owner = owner; session = session; count = left - n } ∷ []) eh ∙ ap (λ n. ls ++ record { owner = owner; session = session; count = n - long before } ∷ []) el
      ∙ sym (cond-true (ltb (long before) (long after)) _ _ (lt-ltb (long before) (long after) (omega arith)))

  -- no more: the oldest go
  pub aged_shrinks : (session owner : ℕ) (ls : List Lot) → left ≤ held → take_of lot_counting (λ l. l.owner) owner (held - left) ls ≡ aged session owner before after ls
  unfolding aged less_lots
  aged_shrinks session owner ls le =
      ap (λ n. take_of lot_counting (λ l. l.owner) owner (n - left) ls) eh ∙ ap (λ n. take_of lot_counting (λ l. l.owner) owner (long before - n) ls) el
      ∙ sym (cond-false (ltb (long before) (long after)) _ _ (le-ltb (long before) (long after) (omega arith)))

-- ---- one account after the other
pub net_in : (a : Account) {z : ℤ} → z ≡ net_of a → InLimits a → nat_abs z ≤ 9000
net_in a e h = omega (arith, ints, e, h.0, h.1, h.2)

module _ (xs : List Account) (i : ℕ) (d : Account) (lt : i < length xs) where
  pub opens_next : {b z : ℤ} → b ≡ (get_or xs i d).carried → z ≡ net_of (get_or xs i d) → count_by opens_lot (drop i xs) ≡ cond (ltb (long b) (long z)) 1 0 + count_by opens_lot (drop (i + 1) xs)
  opens_next {b} {z} eb ez =
      sum_by-drop_more (λ a. cond (opens_lot a) 1 0) xs i d lt
      ∙ ap (λ t. cond (ltb (long t) (long (net_of (get_or xs i d)))) 1 0 + count_by opens_lot (drop (i + 1) xs)) (sym eb) ∙ ap (λ t. cond (ltb (long b) (long t)) 1 0 + count_by opens_lot (drop (i + 1) xs)) (sym ez)

  pub turned_next : (session : ℕ) (ls : List Lot) {b z : ℤ} {after : List Lot} → b ≡ (get_or xs i d).carried → z ≡ net_of (get_or xs i d) → after ≡ aged session (i + 1) b z ls →
      turned session (i + 1 + 1) (map changed (drop (i + 1) xs)) after ≡ turned session (i + 1) (map changed (drop i xs)) ls
  unfolding turned
  turned_next session ls {b} {z} eb ez ea =
      ap (turned session (i + 1 + 1) (map changed (drop (i + 1) xs))) (ea ∙ ap (λ t. aged session (i + 1) t z ls) eb ∙ ap (λ t. aged session (i + 1) (get_or xs i d).carried t ls) ez)
      ∙ sym (ap (λ l. turned session (i + 1) (map changed l) ls) (drop_more xs i d lt))

pub turned_all : (session i : ℕ) (xs : List Account) (ls : List Lot) → length xs ≤ i → ls ≡ turned session (i + 1) (map changed (drop i xs)) ls
unfolding turned
turned_all session i xs ls all = sym (ap (λ l. turned session (i + 1) (map changed l) ls) (drop_all i xs all))
