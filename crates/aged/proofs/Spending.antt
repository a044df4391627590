-- One pass that counts n off the rows picked, and what is left once the rows that count nothing are gone.
use Rattle.std.proofs.Common.{◌≡◌, ℕ, ◌-◌, ◌<◌, ◌≤◌, min, Bool, true, false, cond, eqb, leb, ltb, ◌⊎◌, List, [], ◌∷◌, ◌++◌, length, take, drop, filter, sym, refl, ap, ◌∙◌, inl, inr, arith}
use Rattle.std.proofs.lemmas.Bool.{ne_eqb, eqb-true, le-leb, lt-leb, leb-true, leb-false, lt-ltb, ltb-true}
use Rattle.std.proofs.lemmas.List.{drop_all, take-append-drop}
use Rattle.aged.specs.Line.{Counting, AllCount, counts, held, take_picked, spent}
use Rattle.aged.proofs.Rows.{kept_yes, kept_no}

pub all_count : {R : Type 0} (c : Counting R) (rows : List R) → AllCount c (filter (counts c) rows)
all_count c [] = tt
all_count c (x ∷ rows) =
    elim (counts c x) as (λ b. counts c x ≡ b → AllCount c (cond b (x ∷ filter (counts c) rows) (filter (counts c) rows)))
    [ true ↦ λ e. (ltb-true 0 (c.count x) e, all_count c rows) | false ↦ λ e. all_count c rows ] refl

module _ {R : Type 0} (c : Counting R) (p : R → Bool) where
  none_spent : (n : ℕ) (rows : List R) → n ≡ 0 → spent c p n rows ≡ rows
  none_spent n [] e = refl
  none_spent n (x ∷ rows) e =
      elim (p x) as (λ b. cond b (c.recount x (c.count x - n) ∷ spent c p (n - c.count x) rows) (x ∷ spent c p n rows) ≡ x ∷ rows) [
        | true ↦ ap (λ m. c.recount x m ∷ spent c p (n - c.count x) rows) (omega arith) ∙ ap (λ y. y ∷ spent c p (n - c.count x) rows) (c.recount_count x) ∙ ap (λ l. x ∷ l) (none_spent (n - c.count x) rows (omega arith))
        | false ↦ ap (λ l. x ∷ l) (none_spent n rows e)
      ]

  -- xs became ys. The first i rows are done, and of the n asked for, `left` are still wanted.
  pub record Spending (xs : List R) (n : ℕ) (ys : List R) (i left : ℕ) : Type 0 where
    pub rest : take i ys ++ spent c p left (drop i ys) ≡ spent c p n xs
    pub wanted : left - held c (filter p (drop i ys)) ≡ n - held c (filter p xs)

  -- Once nothing is wanted, or no row is left, all is taken that could be.
  pub spending_all : {xs : List R} {n : ℕ} {ys : List R} {i left : ℕ} → Spending xs n ys i left → left ≤ n → (left ≡ 0) ⊎ (length ys ≤ i) → (n - left ≡ min n (held c (filter p xs))) × (ys ≡ spent c p n xs)
  spending_all {xs} {n} {ys} {i} {left} h most (inl none) =
      (omega (arith, h.wanted), sym (take-append-drop i ys) ∙ ap (λ t. take i ys ++ t) (sym (none_spent left (drop i ys) none)) ∙ h.rest)
  spending_all {xs} {n} {ys} {i} {left} h most (inr end) =
      let past : drop i ys ≡ [] = drop_all i ys end in
      (omega (arith, h.wanted, ap (λ l. held c (filter p l)) past), sym (take-append-drop i ys) ∙ ap (λ t. take i ys ++ t) (past ∙ ap (spent c p left) (sym past)) ∙ h.rest)

  pub none_taken : (n : ℕ) (rows : List R) → n ≡ 0 → take_picked c p n rows ≡ rows
  none_taken n [] e = refl
  none_taken n (x ∷ rows) e = rw e refl

  pub taken_past : (n : ℕ) (x : R) (rows : List R) → p x ≡ false → take_picked c p n (x ∷ rows) ≡ x ∷ take_picked c p n rows
  taken_past n x rows e =
      elim (eqb n 0) as (λ b. eqb n 0 ≡ b → take_picked c p n (x ∷ rows) ≡ x ∷ take_picked c p n rows)
      [ true ↦ λ z. rw (eqb-true n 0 z) (ap (λ l. x ∷ l) (sym (none_taken 0 rows refl))) | false ↦ λ z. rw (z, e) ] refl

  pub taken_whole : (n : ℕ) (x : R) (rows : List R) → p x ≡ true → (n ≡ 0 → ⊥) → c.count x ≤ n → take_picked c p n (x ∷ rows) ≡ take_picked c p (n - c.count x) rows
  taken_whole n x rows e some le = rw (ne_eqb n 0 some, e, le-leb (c.count x) n le)

  pub taken_part : (n : ℕ) (x : R) (rows : List R) → p x ≡ true → n < c.count x → take_picked c p n (x ∷ rows) ≡ c.recount x (c.count x - n) ∷ rows
  taken_part n x rows e lt =
      elim (eqb n 0) as (λ b. eqb n 0 ≡ b → take_picked c p n (x ∷ rows) ≡ c.recount x (c.count x - n) ∷ rows)
      [ true ↦ λ z. rw (eqb-true n 0 z) (ap (λ y. y ∷ rows) (sym (c.recount_count x) ∙ ap (c.recount x) (omega arith))) | false ↦ λ z. rw (z, e, lt-leb (c.count x) n lt) ] refl

  -- The rows that still count something are those that a taking leaves, if all counted something.
  pub spent_kept : (n : ℕ) (rows : List R) → AllCount c rows → filter (counts c) (spent c p n rows) ≡ take_picked c p n rows
  spent_kept n [] all = refl
  spent_kept n (x ∷ rows) all =
      let rest = spent_kept n rows all.1 in
      elim (p x) as (λ b. p x ≡ b → filter (counts c) (cond b (c.recount x (c.count x - n) ∷ spent c p (n - c.count x) rows) (x ∷ spent c p n rows)) ≡ take_picked c p n (x ∷ rows)) [
        | false ↦ λ e. kept_yes (counts c) x (spent c p n rows) (lt-ltb 0 (c.count x) all.0) ∙ ap (λ l. x ∷ l) rest ∙ sym (taken_past n x rows e)
        | true ↦ λ e. elim (leb (c.count x) n) as (λ b. leb (c.count x) n ≡ b → filter (counts c) (c.recount x (c.count x - n) ∷ spent c p (n - c.count x) rows) ≡ take_picked c p n (x ∷ rows)) [
          | true ↦ λ covers. let le : c.count x ≤ n = leb-true (c.count x) n covers in
              let none : c.count (c.recount x (c.count x - n)) ≡ 0 = omega (arith, c.count_recount x (c.count x - n)) in
              kept_no (counts c) (c.recount x (c.count x - n)) (spent c p (n - c.count x) rows) (ap (ltb 0) none)
              ∙ spent_kept (n - c.count x) rows all.1 ∙ sym (taken_whole n x rows e (λ z. omega (arith, all.0)) le)
          | false ↦ λ more. let lt : n < c.count x = leb-false (c.count x) n more in
              kept_yes (counts c) (c.recount x (c.count x - n)) (spent c p (n - c.count x) rows) (lt-ltb 0 (c.count (c.recount x (c.count x - n))) (omega (arith, c.count_recount x (c.count x - n))))
              ∙ ap (λ l. c.recount x (c.count x - n) ∷ l) (spent_kept (n - c.count x) rows all.1 ∙ none_taken (n - c.count x) rows (omega arith)) ∙ sym (taken_part n x rows e lt)
        ] refl
      ] refl
