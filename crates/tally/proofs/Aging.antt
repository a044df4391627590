-- Aged rows: what each owner holds after a change, and what stays true of the rows.
use Rattle.std.proofs.lemmas.Grind.{common_steps}
use Rattle.std.proofs.Common.{◌≡◌, ℕ, ◌+◌, ◌-◌, ◌≤◌, Bool, true, false, cond, eqb, leb, List, [], ◌∷◌, ◌++◌, length, refl, ap, ◌∙◌, arith}
use Rattle.std.specs.List.{AllByRecursion}
use Rattle.std.proofs.lemmas.Bool.{ne_eqb, eqb-true, leb-true, leb-false}
use Rattle.aged.specs.Line.{Counting, held_by, take_picked, take_oldest, take_of}

-- ---- what stays true of rows when some is taken
module _ {R : Type 0} (c : Counting R) (picks : R → Bool) where
  pub all_left : (P : R → Type 0) → ((x : R) (m : ℕ) → 1 ≤ m → m ≤ c.count x → P x → P (c.recount x m)) → (n : ℕ) (rs : List R) → AllByRecursion P rs → AllByRecursion P (take_picked c picks n rs)
  all_left P stays n [] h = tt
  all_left P stays n (x ∷ rs) h = grind (arith, leb-false, all_left P stays (n - c.count x) rs h.1, all_left P stays n rs h.1)

  pub no_longer : (n : ℕ) (rs : List R) → length (take_picked c picks n rs) ≤ length rs
  no_longer n [] = omega arith
  no_longer n (x ∷ rs) = let a = no_longer (n - c.count x) rs in let b = no_longer n rs in grind arith

-- ---- what owners hold
module _ {R : Type 0} (c : Counting R) (owner : R → ℕ) (keeps : (x : R) (n : ℕ) → owner (c.recount x n) ≡ owner x) where
  pub held_cons : (k : ℕ) (x : R) (rs : List R) → held_by c owner k (x ∷ rs) ≡ cond (eqb (owner x) k) (c.count x) 0 + held_by c owner k rs
  held_cons k x rs = grind arith

  pub held_append : (k : ℕ) (xs ys : List R) → held_by c owner k (xs ++ ys) ≡ held_by c owner k xs + held_by c owner k ys
  held_append k [] ys = omega arith
  held_append k (x ∷ xs) ys = grind (arith, held_append k xs ys)

  pub held_push : (k : ℕ) (xs : List R) (x : R) → held_by c owner k (xs ++ x ∷ []) ≡ held_by c owner k xs + cond (eqb (owner x) k) (c.count x) 0
  held_push k xs x = held_append k xs (x ∷ []) ∙ omega (arith, held_cons k x [])

  abbrev left_over : ℕ → ℕ → List R → List R
  left_over j n rs = take_of c owner j n rs

  -- of a row split
  pub recounted : (k m : ℕ) (x : R) (rs : List R) → held_by c owner k (c.recount x m ∷ rs) ≡ cond (eqb (owner x) k) m 0 + held_by c owner k rs
  recounted k m x rs = grind arith

  pub held_own : (k n : ℕ) (rs : List R) → held_by c owner k (take_of c owner k n rs) ≡ held_by c owner k rs - n
  held_own k n [] = omega arith
  held_own k n (x ∷ rs) = grind (arith, held_cons, eqb-true, leb-true, recounted, leb-false, held_own k (n - c.count x) rs, held_own k n rs)

  pub held_other : (j k n : ℕ) → (j ≡ k → ⊥) → (rs : List R) → held_by c owner k (take_of c owner j n rs) ≡ held_by c owner k rs
  held_other j k n d [] = refl
  held_other j k n d (x ∷ rs) = grind (arith, common_steps, held_cons, ne_eqb, eqb-true, recounted, held_other j k (n - c.count x) d rs, held_other j k n d rs)

-- ---- the oldest row, which counts as much at least
module _ {R : Type 0} (c : Counting R) where
  none_taken : (rs : List R) → take_oldest c 0 rs ≡ rs
  none_taken [] = refl
  none_taken (x ∷ rs) = refl

  pub oldest_is : (m : ℕ) (x : R) (rs : List R) → 1 ≤ c.count x → m ≤ c.count x → take_oldest c m (x ∷ rs) ≡ cond (leb (c.count x) m) rs (c.recount x (c.count x - m) ∷ rs)
  oldest_is m x rs some le = grind (arith, none_taken)

module _ {R : Type 0} (c : Counting R) (owner : R → ℕ) (keeps : (x : R) (n : ℕ) → owner (c.recount x n) ≡ owner x) where
  pub held_first : (k m : ℕ) (x : R) (rs : List R) → 1 ≤ c.count x → m ≤ c.count x → held_by c owner k (take_oldest c m (x ∷ rs)) + cond (eqb (owner x) k) m 0 ≡ held_by c owner k (x ∷ rs)
  held_first k m x rs some le =
      let whole = held_cons c owner keeps k x rs in
      let part = recounted c owner keeps k (c.count x - m) x rs in
      rw (oldest_is c m x rs some le) (
      elim (leb (c.count x) m) as (λ l. leb (c.count x) m ≡ l → held_by c owner k (cond l rs (c.recount x (c.count x - m) ∷ rs)) + cond (eqb (owner x) k) m 0 ≡ held_by c owner k (x ∷ rs)) [
        | true ↦ λ l. let same : m ≡ c.count x = omega (arith, leb-true (c.count x) m l) in omega (arith, whole, ap (λ n. cond (eqb (owner x) k) n 0) same)
        | false ↦ λ l. elim (eqb (owner x) k) as (λ b. eqb (owner x) k ≡ b → held_by c owner k (c.recount x (c.count x - m) ∷ rs) + cond b m 0 ≡ held_by c owner k (x ∷ rs)) [
          | true ↦ λ e. omega (arith, whole, part, ap (λ b. cond b (c.count x) 0) e, ap (λ b. cond b (c.count x - m) 0) e)
          | false ↦ λ e. omega (arith, whole, part, ap (λ b. cond b (c.count x) 0) e, ap (λ b. cond b (c.count x - m) 0) e)
        ] refl
      ] refl)
