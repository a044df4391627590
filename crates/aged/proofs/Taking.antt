-- One pass that takes from a line in a slice, row by row.
use Rattle.std.proofs.Common.{◌≡◌, ℕ, ◌+◌, ◌-◌, ◌<◌, ◌≤◌, min, Bool, true, false, ◌⊎◌, List, [], ◌∷◌, length, get_or, take, drop, set, filter, sym, refl, ap, ◌∙◌, inl, inr, arith}
use Rattle.aged.specs.Line.{Counting, line, held, take_picked}
use Rattle.aged.proofs.Rows.{kept_yes, kept_no}
use Rattle.aged.proofs.Spending.{none_taken, taken_past, taken_whole, taken_part}
use Rattle.aged.proofs.Closing.{Closing, none_left, closing_read, closing_put, closing_skip, closing_all}

module _ {R : Type 0} (c : Counting R) (p : R → Bool) where
  -- A row is passed over once nothing is left to take, and where it is not picked.
  passed_over : (n : ℕ) (x : R) (rows : List R) → (n ≡ 0) ⊎ (p x ≡ false) → take_picked c p n (x ∷ rows) ≡ x ∷ take_picked c p n rows
  passed_over n x rows (inl e) = none_taken c p n (x ∷ rows) e ∙ ap (λ l. x ∷ l) (sym (none_taken c p n rows e))
  passed_over n x rows (inr e) = taken_past c p n x rows e

  -- xs became ys. Rows are read at i and kept at k; of the n asked for, `left` are still wanted.
  pub record Taking (xs : List R) (used n : ℕ) (ys : List R) (k i left : ℕ) : Type 0 where
    pub closing : Closing xs ys k i (take_picked c p left (drop i (line used xs))) (take_picked c p n (line used xs))
    pub wanted : left - held c (filter p (drop i (line used xs))) ≡ n - held c (filter p (line used xs))

  module _ {xs : List R} {used n : ℕ} {ys : List R} {k i left : ℕ} {x : R} (h : Taking xs used n ys k i left) (lt : i < used) (in_xs : i < length xs) (is : x ≡ get_or ys i x) where
    reads : drop i (line used xs) ≡ x ∷ drop (i + 1) (line used xs)
    reads = closing_read used h.closing lt in_xs is

    wanted_reads : left - held c (filter p (x ∷ drop (i + 1) (line used xs))) ≡ n - held c (filter p (line used xs))
    wanted_reads = ap (λ rows. left - held c (filter p rows)) (sym reads) ∙ h.wanted

    pub taking_past : (left ≡ 0) ⊎ (p x ≡ false) → Taking xs used n (set ys k x) (k + 1) (i + 1) left
    taking_past why = record {
      closing = closing_put x h.closing in_xs (ap (take_picked c p left) reads ∙ passed_over left x _ why);
      wanted = elim why [ inl e ↦ omega (arith, wanted_reads) | inr e ↦ omega (arith, wanted_reads, ap (held c) (kept_no p x (drop (i + 1) (line used xs)) e)) ];
    }

    pub taking_whole : (a : ℕ) → a ≡ c.count x → (left ≡ 0 → ⊥) → p x ≡ true → a ≤ left → Taking xs used n ys k (i + 1) (left - a)
    taking_whole a counts some e le = record {
      closing = closing_skip h.closing (ap (take_picked c p left) reads ∙ taken_whole c p left x _ e some (omega arith) ∙ ap (λ m. take_picked c p (left - m) (drop (i + 1) (line used xs))) (sym counts));
      wanted = omega (arith, wanted_reads, ap (held c) (kept_yes p x (drop (i + 1) (line used xs)) e));
    }

    pub taking_part : (a : ℕ) (y : R) → a ≡ c.count x → y ≡ c.recount x (a - left) → p x ≡ true → left < a → Taking xs used n (set ys k y) (k + 1) (i + 1) 0
    taking_part a y counts recounted e gt = record {
      closing =
          let rest = drop (i + 1) (line used xs) in
          closing_put y h.closing in_xs (ap (take_picked c p left) reads ∙ taken_part c p left x rest e (omega arith)
          ∙ ap (λ m. c.recount x (m - left) ∷ rest) (sym counts) ∙ ap (λ z. z ∷ rest) (sym recounted)
          ∙ ap (λ l. y ∷ l) (sym (none_taken c p 0 rest refl)));
      wanted = omega (arith, wanted_reads, ap (held c) (kept_yes p x (drop (i + 1) (line used xs)) e));
    }

  -- At the end of the line all is taken that could be.
  pub taking_all : {xs : List R} {used n : ℕ} {ys : List R} {k i left : ℕ} → Taking xs used n ys k i left → left ≤ n → min used (length xs) ≤ i →
      (n - left ≡ min n (held c (filter p (line used xs)))) × (take k ys ≡ take_picked c p n (line used xs))
  taking_all {xs} {used} {n} {ys} {k} {i} {left} h most le =
      let end : drop i (line used xs) ≡ [] = none_left used i xs le in
      let nothing : left ≡ n - held c (filter p (line used xs)) = omega (arith, ap (λ rows. left - held c (filter p rows)) end, h.wanted) in
      (omega (arith, most), closing_all h.closing (ap (take_picked c p left) end))
