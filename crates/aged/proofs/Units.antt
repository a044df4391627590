-- Rows unit by unit, and those that a test picks.
use Rattle.std.proofs.Common.{◌≡◌, ℕ, ◌+◌, ◌-◌, ◌≤◌, Bool, true, false, List, [], ◌∷◌, ◌++◌, length, replicate, filter, sym, refl, ap, ◌∙◌, append_assoc, arith}
use Rattle.std.proofs.lemmas.List.{append-nil, length-append, length-replicate, replicate-append-replicate}
use Rattle.std.proofs.lemmas.List.Elements.{filter-append}
use Rattle.aged.specs.Line.{Counting, held}
use Rattle.aged.specs.Laws.{Takes, units}
use Rattle.aged.specs.Laws.Takes.{enough, ended, passed, whole, split}
use Rattle.aged.proofs.Rows.{kept_yes, kept_no}

module _ {R : Type 0} (c : Counting R) where
  pub units_append : (xs ys : List R) → units c (xs ++ ys) ≡ units c xs ++ units c ys
  units_append [] ys = refl
  units_append (x ∷ xs) ys = ap (λ l. replicate (c.count x) (c.recount x 1) ++ l) (units_append xs ys) ∙ sym (append_assoc (replicate (c.count x) (c.recount x 1)) (units c xs) (units c ys))

  pub length_units : (rows : List R) → length (units c rows) ≡ held c rows
  length_units [] = refl
  length_units (x ∷ rows) =
      length-append (replicate (c.count x) (c.recount x 1)) (units c rows) ∙ omega (arith, length-replicate (c.count x) (c.recount x 1), length_units rows)

  -- A row with another count has the same unit.
  units_recount : (x : R) (n : ℕ) → replicate (c.count (c.recount x n)) (c.recount (c.recount x n) 1) ≡ replicate n (c.recount x 1)
  units_recount x n = rw (c.count_recount x n, c.recount_recount x n 1)

  module _ (q : R → Bool) where
    pub picked_append : (xs ys : List R) → units c (filter q (xs ++ ys)) ≡ units c (filter q xs) ++ units c (filter q ys)
    picked_append xs ys = ap (units c) (filter-append q xs ys) ∙ units_append (filter q xs) (filter q ys)

    -- The parts of a row that is split have its units, since the test does not look at the count.
    picked_split : (x : R) (n : ℕ) → n ≤ c.count x → ((m : ℕ) → q (c.recount x m) ≡ q x) →
        units c (filter q (c.recount x n ∷ [])) ++ units c (filter q (c.recount x (c.count x - n) ∷ [])) ≡ units c (filter q (x ∷ []))
    picked_split x n le same =
        let u = c.recount x 1 in
        let m = c.count x - n in
        let all : n + m ≡ c.count x = omega arith in
        elim (q x) as (λ b. q x ≡ b → units c (filter q (c.recount x n ∷ [])) ++ units c (filter q (c.recount x m ∷ [])) ≡ units c (filter q (x ∷ []))) [
          | true ↦ λ e. rw (kept_yes q (c.recount x n) [] (same n ∙ e), kept_yes q (c.recount x m) [] (same m ∙ e), kept_yes q x [] e)
              (ap (λ l. (l ++ []) ++ (replicate (c.count (c.recount x m)) (c.recount (c.recount x m) 1) ++ [])) (units_recount x n)
              ∙ ap (λ l. (replicate n u ++ []) ++ (l ++ [])) (units_recount x m)
              ∙ ap (λ l. l ++ (replicate m u ++ [])) (append-nil (replicate n u))
              ∙ sym (append_assoc (replicate n u) (replicate m u) [])
              ∙ ap (λ l. l ++ []) (replicate-append-replicate n m u ∙ ap (λ k. replicate k u) all))
          | false ↦ λ e. rw (kept_no q (c.recount x n) [] (same n ∙ e), kept_no q (c.recount x m) [] (same m ∙ e), kept_no q x [] e)
        ] refl

    module _ (p : R → Bool) (same : (x : R) (n : ℕ) → q (c.recount x n) ≡ q x) where
      -- All rows of q are p's: the units that go, and then those that are left, are the units that stood.
      pub units_within : ((x : R) → p x ≡ false → q x ≡ false) → {n : ℕ} {rows gone left : List R} → Takes c p n rows gone left →
          units c (filter q gone) ++ units c (filter q left) ≡ units c (filter q rows)
      units_within within enough = refl
      units_within within ended = refl
      units_within within (passed {x = x} {rows = rows} {gone = gone} {left = left} other h) =
          let no_x = within x other in
          ap (λ l. units c (filter q gone) ++ units c l) (kept_no q x left no_x) ∙ units_within within h ∙ ap (units c) (sym (kept_no q x rows no_x))
      units_within within (whole {x = x} {rows = rows} {gone = gone} {left = left} mine le h) =
          ap (λ l. l ++ units c (filter q left)) (picked_append (x ∷ []) gone)
          ∙ append_assoc (units c (filter q (x ∷ []))) (units c (filter q gone)) (units c (filter q left))
          ∙ ap (λ l. units c (filter q (x ∷ [])) ++ l) (units_within within h)
          ∙ sym (picked_append (x ∷ []) rows)
      units_within within (split {n = n} {x = x} {rows = rows} mine some gt) =
          let a = units c (filter q (c.recount x n ∷ [])) in
          let b = units c (filter q (c.recount x (c.count x - n) ∷ [])) in
          ap (λ l. a ++ l) (picked_append (c.recount x (c.count x - n) ∷ []) rows)
          ∙ sym (append_assoc a b (units c (filter q rows)))
          ∙ ap (λ l. l ++ units c (filter q rows)) (picked_split x n (omega arith) (same x))
          ∙ sym (picked_append (x ∷ []) rows)

      -- No row of q is p's: none goes, and all are left as they are.
      pub gone_apart : ((x : R) → p x ≡ true → q x ≡ false) → {n : ℕ} {rows gone left : List R} → Takes c p n rows gone left → filter q gone ≡ []
      gone_apart apart enough = refl
      gone_apart apart ended = refl
      gone_apart apart (passed other h) = gone_apart apart h
      gone_apart apart (whole {x = x} {gone = gone} mine le h) = kept_no q x gone (apart x mine) ∙ gone_apart apart h
      gone_apart apart (split {n = n} {x = x} mine some gt) = kept_no q (c.recount x n) [] (same x n ∙ apart x mine)

      pub left_apart : ((x : R) → p x ≡ true → q x ≡ false) → {n : ℕ} {rows gone left : List R} → Takes c p n rows gone left → filter q left ≡ filter q rows
      left_apart apart enough = refl
      left_apart apart ended = refl
      left_apart apart (passed {x = x} {rows = rows} {left = left} other h) =
          filter-append q (x ∷ []) left ∙ ap (λ l. filter q (x ∷ []) ++ l) (left_apart apart h) ∙ sym (filter-append q (x ∷ []) rows)
      left_apart apart (whole {x = x} {rows = rows} mine le h) = left_apart apart h ∙ sym (kept_no q x rows (apart x mine))
      left_apart apart (split {n = n} {x = x} {rows = rows} mine some gt) =
          kept_no q (c.recount x (c.count x - n)) rows (same x (c.count x - n) ∙ apart x mine) ∙ sym (kept_no q x rows (apart x mine))

      pub units_apart : ((x : R) → p x ≡ true → q x ≡ false) → {n : ℕ} {rows gone left : List R} → Takes c p n rows gone left →
          units c (filter q gone) ++ units c (filter q left) ≡ units c (filter q rows)
      units_apart apart {gone = gone} {left = left} h = ap (λ l. units c l ++ units c (filter q left)) (gone_apart apart h) ∙ ap (units c) (left_apart apart h)
