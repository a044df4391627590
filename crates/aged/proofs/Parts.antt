-- What a taking does to the rows, one by one, and what goes and stays then.
use Rattle.std.proofs.Common.{◌≡◌, ℕ, ◌+◌, ◌-◌, ◌<◌, min, Bool, true, false, cond, eqb, leb, List, [], ◌∷◌, ◌++◌, filter, refl, arith}
use Rattle.std.specs.List.{AllByRecursion}
use Rattle.std.proofs.lemmas.Bool.{eqb-true, eqb-false, leb-true, leb-false}
use Rattle.aged.specs.Line.{Counting, held, take_picked, taken_picked}
use Rattle.aged.specs.Laws.{Takes, SplitByCount}
use Rattle.aged.specs.Laws.Takes.{enough, ended, passed, whole, split}
use Rattle.aged.proofs.Rows.{kept_yes, kept_no}

pub held_append : {R : Type 0} (c : Counting R) (xs ys : List R) → held c (xs ++ ys) ≡ held c xs + held c ys
held_append c [] ys = omega arith
held_append c (x ∷ xs) ys = omega (arith, held_append c xs ys)

module _ {R : Type 0} (c : Counting R) (p : R → Bool) where
  pub takes : (n : ℕ) (rows : List R) → Takes c p n rows (taken_picked c p n rows) (take_picked c p n rows)
  takes n [] = ended
  takes n (x ∷ rows) =
      elim (eqb n 0) as (λ none. eqb n 0 ≡ none → Takes c p n (x ∷ rows)
      (cond none [] (cond (p x) (cond (leb (c.count x) n) (x ∷ taken_picked c p (n - c.count x) rows) (c.recount x n ∷ [])) (taken_picked c p n rows)))
      (cond none (x ∷ rows) (cond (p x) (cond (leb (c.count x) n) (take_picked c p (n - c.count x) rows) (c.recount x (c.count x - n) ∷ rows)) (x ∷ take_picked c p n rows)))) [
        | true ↦ λ e. rw (eqb-true n 0 e) enough
        | false ↦ λ some. elim (p x) as (λ mine. p x ≡ mine → Takes c p n (x ∷ rows)
            (cond mine (cond (leb (c.count x) n) (x ∷ taken_picked c p (n - c.count x) rows) (c.recount x n ∷ [])) (taken_picked c p n rows))
            (cond mine (cond (leb (c.count x) n) (take_picked c p (n - c.count x) rows) (c.recount x (c.count x - n) ∷ rows)) (x ∷ take_picked c p n rows))) [
              | false ↦ λ e. passed e (takes n rows)
              | true ↦ λ e. elim (leb (c.count x) n) as (λ covers. leb (c.count x) n ≡ covers → Takes c p n (x ∷ rows)
                  (cond covers (x ∷ taken_picked c p (n - c.count x) rows) (c.recount x n ∷ []))
                  (cond covers (take_picked c p (n - c.count x) rows) (c.recount x (c.count x - n) ∷ rows))) [
                    | true ↦ λ le. whole e (leb-true (c.count x) n le) (takes (n - c.count x) rows)
                    | false ↦ λ gt. split e (let ne = eqb-false n 0 some in omega arith) (leb-false (c.count x) n gt)
                  ] refl
            ] refl
      ] refl

  -- What goes and what is left count together what stood.
  pub held_parts : {n : ℕ} {rows gone left : List R} → Takes c p n rows gone left → held c gone + held c left ≡ held c rows
  held_parts enough = omega arith
  held_parts ended = omega arith
  held_parts (passed other h) = omega (arith, held_parts h)
  held_parts (whole mine le h) = omega (arith, held_parts h)
  held_parts {n} (split {x = x} mine some gt) = omega (arith, c.count_recount x n, c.count_recount x (c.count x - n))

  pub held_gone : {n : ℕ} {rows gone left : List R} → Takes c p n rows gone left → held c gone ≡ min n (held c (filter p rows))
  held_gone {n} {rows} enough = omega arith
  held_gone {n} ended = omega arith
  held_gone (passed {n = n} {x = x} {rows = rows} other h) = rw (kept_no p x rows other) (held_gone h)
  held_gone (whole {n = n} {x = x} {rows = rows} mine le h) = rw (kept_yes p x rows mine) (omega (arith, held_gone h))
  held_gone (split {n = n} {x = x} {rows = rows} mine some gt) = rw (kept_yes p x rows mine) (omega (arith, c.count_recount x n))

  -- Rows that all count something are left so.
  pub left_counts : {n : ℕ} {rows gone left : List R} → Takes c p n rows gone left → AllByRecursion (λ x. 0 < c.count x) rows → AllByRecursion (λ x. 0 < c.count x) left
  left_counts enough all = all
  left_counts ended all = all
  left_counts (passed other h) all = (all.0, left_counts h all.1)
  left_counts (whole mine le h) all = left_counts h all.1
  left_counts (split {n = n} {x = x} mine some gt) all = (omega (arith, c.count_recount x (c.count x - n)), all.1)

  pub split_by_count : SplitByCount c p
  split_by_count n rows = (takes n rows, held_gone (takes n rows))
