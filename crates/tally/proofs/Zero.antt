-- The totals of a balanced tally sum to zero.
use Rattle.std.proofs.Common.{◌≡◌, ℕ, ◌+◌, ◌*◌, ◌<◌, ◌≤◌, cond, eqb, List, [], ◌∷◌, length, pos, sum_by, sum, sym, refl, ap, ◌∙◌, ⊎_elim, arith}
use borrow.Author.Differences.{up, down, sum_is_lem, same_in}
use Rattle.std.specs.List.{AllByRecursion}
use Rattle.std.proofs.lemmas.List.{length-append, length-replicate}
use Rattle.std.proofs.lemmas.List.Sums.{sum_by-cons, sum_by-append}
use Rattle.std.proofs.lemmas.Bool.{eq-eqb, ne_eqb, cases_eq}
use Rattle.tally.specs.Account.{position}
use Rattle.tally.specs.Book.{Posting, Tally, numbered, prices, account, seen}
use Rattle.tally.specs.Law.{Registered, totals}
use Rattle.tally.specs.Pages.{sumℤ}
use Rattle.tally.proofs.Balance.{contracts, worth_of, Balanced}
use Rattle.tally.proofs.Ring.{times}
use Rattle.tally.proofs.Positions.{position_is, sum_replicate}
use Rattle.tally.proofs.Numbered.{map_numbered}

-- what account k has of f
pub share : (Posting → ℕ) → ℕ → List Posting → ℕ
share f k [] = 0
share f k (p ∷ ps) = cond (eqb p.holder k) (f p) 0 + share f k ps

prices_count : (k : ℕ) (ps : List Posting) → length (prices k ps) ≡ share contracts k ps
unfolding prices share
prices_count k [] = refl
prices_count k (p ∷ ps) = grind (arith, length-append, length-replicate, prices_count k ps)

prices_value : (k : ℕ) (ps : List Posting) → sum (prices k ps) ≡ share worth_of k ps
unfolding prices share
prices_value k [] = refl
prices_value k (p ∷ ps) = grind (arith, sum_by-append, sum_replicate, prices_value k ps)

module _ {X : Type 0} where
  -- g of each number, summed
  unfoldable pub over : (ℕ → ℕ) → ℕ → List X → ℕ
  over g n [] = 0
  over g n (x ∷ xs) = g n + over g (n + 1) xs

  pub over_same : (f g : ℕ → ℕ) (n : ℕ) (xs : List X) → ((k : ℕ) → f k ≡ g k) → over f n xs ≡ over g n xs
  unfolding over
  over_same f g n [] h = refl
  over_same f g n (x ∷ xs) h = omega (arith, h n, over_same f g (n + 1) xs h)

  over_add : (f g : ℕ → ℕ) (n : ℕ) (xs : List X) → over (λ k. f k + g k) n xs ≡ over f n xs + over g n xs
  unfolding over
  over_add f g n [] = refl
  over_add f g n (x ∷ xs) = omega (arith, over_add f g (n + 1) xs)

  over_none : (n : ℕ) (xs : List X) → over (λ _. 0) n xs ≡ 0
  unfolding over
  over_none n [] = refl
  over_none n (x ∷ xs) = omega (arith, over_none (n + 1) xs)

  over_before : (h m n : ℕ) (xs : List X) → h < n → over (λ k. cond (eqb h k) m 0) n xs ≡ 0
  unfolding over
  over_before h m n [] lt = refl
  over_before h m n (x ∷ xs) lt = grind (arith, ne_eqb, over_before h m (n + 1) xs (omega arith))

  over_one : (h m n : ℕ) (xs : List X) → n ≤ h → h < n + length xs → over (λ k. cond (eqb h k) m 0) n xs ≡ m
  unfolding over
  over_one h m n [] a b = absurd (omega arith)
  over_one h m n (x ∷ xs) a b = ⊎_elim
      (λ (e : h ≡ n). rw (eq-eqb h n e) (omega (arith, over_before h m (n + 1) xs (omega arith))))
      (λ (d : h ≡ n → ⊥). rw (ne_eqb h n d) (omega (arith, over_one h m (n + 1) xs (omega arith) (omega arith))))
      (cases_eq h n)

  pub over_share : (f : Posting → ℕ) (ps : List Posting) (xs : List X) → AllByRecursion (λ p. Registered (length xs) p.holder) ps → over (λ k. share f k ps) 1 xs ≡ sum_by f ps
  unfolding share
  over_share f [] xs all = over_none 1 xs
  over_share f (p ∷ ps) xs all =
      over_add (λ k. cond (eqb p.holder k) (f p) 0) (λ k. share f k ps) 1 xs
      ∙ omega (arith, over_one p.holder (f p) 1 xs all.0.0 (omega arith), over_share f ps xs all.1, sum_by-cons f p ps)

  -- over all accounts together
  pub all_contracts : (ps : List Posting) (xs : List X) → AllByRecursion (λ p. Registered (length xs) p.holder) ps → over (λ k. length (prices k ps)) 1 xs ≡ sum_by contracts ps
  all_contracts ps xs h = over_same (λ k. length (prices k ps)) (λ k. share contracts k ps) 1 xs (λ k. prices_count k ps) ∙ over_share contracts ps xs h

  pub all_values : (ps : List Posting) (xs : List X) → AllByRecursion (λ p. Registered (length xs) p.holder) ps → over (λ k. sum (prices k ps)) 1 xs ≡ sum_by worth_of ps
  all_values ps xs h = over_same (λ k. sum (prices k ps)) (λ k. share worth_of k ps) 1 xs (λ k. prices_value k ps) ∙ over_share worth_of ps xs h

  summed : (size price : ℕ) (bs ss : List Posting) (n : ℕ) (xs : List X) →
      let z = sumℤ (numbered (λ k _. position size price (prices k bs) (prices k ss)) n xs) in
      up z + (size * over (λ k. sum (prices k bs)) n xs + size * price * over (λ k. length (prices k ss)) n xs)
      ≡ down z + (size * over (λ k. sum (prices k ss)) n xs + size * price * over (λ k. length (prices k bs)) n xs)
  unfolding over sumℤ numbered
  summed size price bs ss n [] = omega arith
  summed size price bs ss n (x ∷ xs) = grind (arith, sum_is_lem, position_is, summed size price bs ss (n + 1) xs)

pub totals_zero : (size : ℕ) (t : Tally) → Balanced t → sumℤ (totals (seen size t)) ≡ pos 0
unfolding account
totals_zero size t h =
    ap sumℤ (map_numbered (λ a. a.total) (account size t) 1 t.parties)
    ∙ same_in _ _ (omega (
      arith,
      summed size t.price t.bought t.sold 1 t.parties,
      times size (all_values t.bought t.parties h.buyers ∙ h.values ∙ sym (all_values t.sold t.parties h.sellers)),
      times (size * t.price) (all_contracts t.bought t.parties h.buyers ∙ h.evenly ∙ sym (all_contracts t.sold t.parties h.sellers)),
    ))
