-- A change of one or two accounts, row by row.
use Rattle.std.proofs.Common.{◌≡◌, ℕ, suc, ◌+◌, ◌-◌, ◌<◌, ◌≤◌, cond, eqb, List, [], ◌∷◌, length, get_or, set, sym, refl, ap, ◌∙◌, ⊎_elim, arith}
use Rattle.std.proofs.lemmas.List.{length-set}
use Rattle.std.proofs.lemmas.Bool.{cases_eq, eq-eqb, ne_eqb}
use Rattle.arrayvec.specs.ArrayVec.{ArrayVec, with_items}
use Rattle.arrayvec.proofs.ArrayVecLemmas.{items-with_items}
use Rattle.tally.specs.Book.{numbered}
use Rattle.tally.specs.Law.{Registered}
use Rattle.tally.proofs.Facts.{length_numbered}
use Rattle.tally.proofs.Numbered.{numbered_twice}

-- a table as its slice is handed back, where each row was changed by its number
pub handed_back : {X : Type 0} (table : ArrayVec X) (f : ℕ → X → X) {slice rows : List X} → slice ≡ table.items → rows ≡ numbered f 1 slice → (with_items table rows).items ≡ numbered f 1 table.items
handed_back table f {rows = rows} es er =
    let e = er ∙ ap (numbered f 1) es in
    items-with_items table rows (ap length e ∙ length_numbered f 1 table.items) ∙ e

module _ {X : Type 0} where
  -- a change that leaves all from n on
  numbered_none : (f : ℕ → X → X) (n : ℕ) (xs : List X) → ((k : ℕ) (x : X) → n ≤ k → f k x ≡ x) → numbered f n xs ≡ xs
  unfolding numbered
  numbered_none f n [] h = refl
  numbered_none f n (x ∷ xs) h = ap (λ y. y ∷ numbered f (n + 1) xs) (h n x (omega arith)) ∙ ap (λ l. x ∷ l) (numbered_none f (n + 1) xs (λ k y le. h k y (omega arith)))

  set_next : (x y : X) (xs : List X) (m i : ℕ) → i ≡ suc m → x ∷ set xs m y ≡ set (x ∷ xs) i y
  set_next x y xs m i e = ap (λ j. set (x ∷ xs) j y) (sym e)

  getD_next : (x d : X) (xs : List X) (m i : ℕ) → i ≡ suc m → get_or xs m d ≡ get_or (x ∷ xs) i d
  getD_next x d xs m i e = ap (λ j. get_or (x ∷ xs) j d) (sym e)

  -- a change of one number is one row written
  pub numbered_one : (f : ℕ → X → X) (n i : ℕ) (xs : List X) (d : X) → n ≤ i → i < n + length xs → ((k : ℕ) (x : X) → (k ≡ i → ⊥) → f k x ≡ x) →
      numbered f n xs ≡ set xs (i - n) (f i (get_or xs (i - n) d))
  unfolding numbered
  numbered_one f n i [] d low high h = absurd (omega arith)
  numbered_one f n i (x ∷ xs) d low high h = ⊎_elim here (λ (ne : n ≡ i → ⊥). later ne (numbered_one f (n + 1) i xs d (omega arith) (omega arith) h)) (cases_eq n i)
    where
      rest : n ≡ i → numbered f (n + 1) xs ≡ xs
      rest e = numbered_none f (n + 1) xs (λ k y le. h k y (λ z. omega arith))

      here : n ≡ i → f n x ∷ numbered f (n + 1) xs ≡ set (x ∷ xs) (i - n) (f i (get_or (x ∷ xs) (i - n) d))
      here e =
          let zero_off : i - n ≡ 0 = omega arith in
          ap (λ l. f n x ∷ l) (rest e) ∙ ap (λ j. f j x ∷ xs) e ∙ sym (ap (λ m. set (x ∷ xs) m (f i (get_or (x ∷ xs) m d))) zero_off)

      later : (n ≡ i → ⊥) → numbered f (n + 1) xs ≡ set xs (i - (n + 1)) (f i (get_or xs (i - (n + 1)) d)) → f n x ∷ numbered f (n + 1) xs ≡ set (x ∷ xs) (i - n) (f i (get_or (x ∷ xs) (i - n) d))
      later ne more =
          let off : i - n ≡ suc (i - (n + 1)) = omega arith in
          ap (λ y. y ∷ numbered f (n + 1) xs) (h n x ne) ∙ ap (λ l. x ∷ l) more
          ∙ set_next x (f i (get_or xs (i - (n + 1)) d)) xs (i - (n + 1)) (i - n) off ∙ ap (λ y. set (x ∷ xs) (i - n) (f i y)) (getD_next x d xs (i - (n + 1)) (i - n) off)

  -- a count that only account i is due is one row written
  pub numbered_due : (h : X → ℕ → X) → ((x : X) → h x 0 ≡ x) → (i m : ℕ) (xs : List X) (d : X) → Registered (length xs) i →
      numbered (λ k x. h x (cond (eqb i k) m 0)) 1 xs ≡ set xs (i - 1) (h (get_or xs (i - 1) d) m)
  numbered_due h none i m xs d r =
      numbered_one (λ k x. h x (cond (eqb i k) m 0)) 1 i xs d r.0 (omega (arith, r.1)) (λ k x ne. ap (λ b. h x (cond b m 0)) (ne_eqb i k (λ e. ne (sym e))) ∙ none x)
      ∙ ap (λ b. set xs (i - 1) (h (get_or xs (i - 1) d) (cond b m 0))) (eq-eqb i i refl)

  -- and one that two accounts are due, each in its way, is two rows written, one after the other
  pub numbered_both : (h g : X → ℕ → X) → ((x : X) → h x 0 ≡ x) → ((x : X) → g x 0 ≡ x) → (i j m : ℕ) (xs : List X) (d : X) → Registered (length xs) i → Registered (length xs) j →
      let ys = set xs (i - 1) (h (get_or xs (i - 1) d) m) in
      numbered (λ k x. g (h x (cond (eqb i k) m 0)) (cond (eqb j k) m 0)) 1 xs ≡ set ys (j - 1) (g (get_or ys (j - 1) d) m)
  numbered_both h g none none' i j m xs d ri rj =
      let ys = set xs (i - 1) (h (get_or xs (i - 1) d) m) in
      sym (numbered_twice (λ k x. g x (cond (eqb j k) m 0)) (λ k x. h x (cond (eqb i k) m 0)) 1 xs)
      ∙ ap (λ l. numbered (λ k x. g x (cond (eqb j k) m 0)) 1 l) (numbered_due h none i m xs d ri)
      ∙ numbered_due g none' j m ys d (rj.0, omega (arith, rj.1, length-set xs (i - 1) (h (get_or xs (i - 1) d) m)))
