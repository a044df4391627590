-- The first contracts of a side of the sheet, row by row: the step of a loop over the sheet.
use Rattle.std.proofs.Common.{◌≡◌, ℕ, zero, suc, ◌+◌, ◌-◌, ◌*◌, min, List, [], ◌∷◌, ◌++◌, length, take, replicate, sum, ap, ◌∙◌, arith}
use Rattle.std.proofs.lemmas.List.Sums.{sum_by-cons}
use Rattle.tally.proofs.Ring.{times}

first_same : (n m x : ℕ) → sum (take n (replicate m x)) ≡ x * min n m
first_same zero m x = grind arith
first_same (suc n) zero x = grind arith
first_same (suc n) (suc m) x =
    let e : min (suc n) (suc m) ≡ min n m + 1 = omega arith in
    sum_by-cons (λ y. y) x (take n (replicate m x)) ∙ omega (arith, first_same n m x, times x e)

pub first_push : (n m x : ℕ) (xs : List ℕ) → sum (take n (xs ++ replicate m x)) ≡ sum (take n xs) + x * min (n - length xs) m
first_push n m x [] = first_same n m x ∙ ap (λ k. x * min k m) (omega arith) ∙ sum_nil n (x * min (n - 0) m)
  where
    sum_nil : (n z : ℕ) → z ≡ sum (take n []) + z
    sum_nil zero z = omega arith
    sum_nil (suc n) z = omega arith
first_push zero m x (y ∷ ys) = let e : min (0 - length (y ∷ ys)) m ≡ 0 = omega arith in omega (arith, times x e)
first_push (suc n) m x (y ∷ ys) =
    let e : min (suc n - length (y ∷ ys)) m ≡ min (n - length ys) m = omega arith in
    omega (arith, sum_by-cons (λ z. z) y (take n (ys ++ replicate m x)), sum_by-cons (λ z. z) y (take n ys), first_push n m x ys, times x e)
