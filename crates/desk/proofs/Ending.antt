-- The final price as a number: the right price for the quotations taken is the mean.
use Rattle.std.proofs.Common.{◌≡◌, ℕ, ◌+◌, ◌<◌, ltb, List, length, pos, ◌-ℤ◌, nat_abs, Some, None, Option, sym, ap, ◌∙◌, subst, ⊎_elim, eq-zero-or-pos, mul-zero, arith}
use Rattle.std.proofs.lemmas.Bool.{cond-true, cond-false, lt-ltb, le-ltb}
use Rattle.money.proofs.Rounding.{formula, unique}
use Rattle.money.specs.Nearest.{Nearest, nearest, nearest_size}
use Rattle.kinds.specs.Means.{MeanFrom}
use Rattle.kinds.specs.declared.quotation.Quotation.{Quotation}
use Rattle.desk.specs.Endings.{mean_from}

-- of no quantity nothing is nearest, since any number is as near as any other
none_nearest : (v p : ℕ) → Nearest (pos v) 0 (pos p) → ⊥
none_nearest v p h =
    let far = h.tie (pos (p + 1)) (ap (λ x. nat_abs (pos x -ℤ pos v)) (mul-zero (p + 1) ∙ sym (mul-zero p))) in
    omega arith

size_is : (v q p : ℕ) → 0 < q → Nearest (pos v) q (pos p) → p ≡ nearest_size v q
unfolding nearest
size_is v q p some h =
    let same : pos p ≡ pos (nearest_size v q) = unique (pos v) q (pos p) (pos (nearest_size v q)) some h (formula (pos v) q some) in
    cc

nearest_is : (v q p : ℕ) → Nearest (pos v) q (pos p) → p ≡ nearest_size v q
nearest_is v q p h =
    ⊎_elim (λ e. absurd (none_nearest v p (subst (λ d. Nearest (pos v) d (pos p)) e h))) (λ some. size_is v q p some h) (eq-zero-or-pos q)

pub mean_is : (first : ℕ) (done : List Quotation) (v q : ℕ) (o : Option ℕ) → MeanFrom first done v q o → o ≡ mean_from first done v q
mean_is first done v q None h = sym (cond-true (ltb (length done) first) None _ (lt-ltb _ _ h))
mean_is first done v q (Some p) h =
    ap Some (nearest_is v q p h.1) ∙ sym (cond-false (ltb (length done) first) None _ (le-ltb _ _ h.0))
