-- Two lists read side by side, and rows written from the top of a slice.
use Rattle.std.proofs.Common.{◌≡◌, ℕ, suc, ◌+◌, ◌-◌, ◌<◌, ◌≤◌, List, [], ◌∷◌, ◌++◌, length, get_or, take, drop, set, sym, refl, ap, ◌∙◌, arith}
use lib.Lanes.{zip2}
use Rattle.std.proofs.lemmas.List.{append_assoc, drop_more, set_at, take_more, length-take-le, get_or-append_right}
use Rattle.tally.specs.Book.{numbered}
use Rattle.tally.proofs.Numbered.{numbered_push}

none_off : (i : ℕ) → i - i ≡ 0
none_off i = omega arith

module _ {X Y Z : Type 0} (f : X → Y → Z) where
  pub length_beside : (xs : List X) (ys : List Y) → length ys ≡ length xs → length (zip2 f xs ys) ≡ length xs
  length_beside [] ys e = refl
  length_beside (x ∷ xs) [] e = e
  length_beside (x ∷ xs) (y ∷ ys) e = ap suc (length_beside xs ys (omega arith))

  beside_push : (xs : List X) (ys : List Y) (x : X) (y : Y) → length ys ≡ length xs → zip2 f (xs ++ x ∷ []) (ys ++ y ∷ []) ≡ zip2 f xs ys ++ f x y ∷ []
  beside_push [] [] x y e = refl
  beside_push [] (b ∷ ys) x y e = absurd (omega arith)
  beside_push (a ∷ xs) [] x y e = absurd (omega arith)
  beside_push (a ∷ xs) (b ∷ ys) x y e = ap (λ l. f a b ∷ l) (beside_push xs ys x y (omega arith))

  -- one row more
  pub beside_more : (xs : List X) (ys : List Y) (i : ℕ) (d : X) (e : Y) → i < length xs → length ys ≡ length xs →
      zip2 f (take (i + 1) xs) (take (i + 1) ys) ≡ zip2 f (take i xs) (take i ys) ++ f (get_or xs i d) (get_or ys i e) ∷ []
  beside_more xs ys i d e lt same =
      ap (λ l. zip2 f l (take (i + 1) ys)) (take_more xs i d lt) ∙ ap (λ l. zip2 f (take i xs ++ get_or xs i d ∷ []) l) (take_more ys i e (omega arith))
      ∙ beside_push (take i xs) (take i ys) (get_or xs i d) (get_or ys i e) (omega (arith, length-take-le i xs (omega arith), length-take-le i ys (omega arith)))

  -- the rows of a slice from the top on, i of them written
  pub length_top : (xs : List X) (ys : List Y) (i : ℕ) → i ≤ length xs → length ys ≡ length xs → length (zip2 f (take i xs) (take i ys)) ≡ i
  length_top xs ys i le same =
      length_beside (take i xs) (take i ys) (omega (arith, length-take-le i xs le, length-take-le i ys (omega arith))) ∙ length-take-le i xs le

  pub write_more : (xs : List X) (ys : List Y) (was now_is : List Z) (i : ℕ) (d : X) (e : Y) {z : Z} → i < length xs → length ys ≡ length xs → i < length was →
      z ≡ f (get_or xs i d) (get_or ys i e) → now_is ≡ zip2 f (take i xs) (take i ys) ++ drop i was → set now_is i z ≡ zip2 f (take (i + 1) xs) (take (i + 1) ys) ++ drop (i + 1) was
  write_more xs ys was now_is i d e {z} lt same room ez h =
      let ws = zip2 f (take i xs) (take i ys) in
      ap (λ l. set l i z) (h ∙ ap (λ l. ws ++ l) (drop_more was i z room))
      ∙ set_at ws (get_or was i z) (drop (i + 1) was) z i (length_top xs ys i (omega arith) same)
      ∙ ap (λ y. ws ++ y ∷ drop (i + 1) was) ez
      ∙ sym (append_assoc ws (f (get_or xs i d) (get_or ys i e) ∷ []) (drop (i + 1) was))
      ∙ ap (λ l. l ++ drop (i + 1) was) (sym (beside_more xs ys i d e lt same))

  -- a row that is not written yet is read as it was
  pub read_unwritten : (xs : List X) (ys : List Y) (was now_is : List Z) (i : ℕ) (d : Z) → i ≤ length xs → length ys ≡ length xs → i < length was →
      now_is ≡ zip2 f (take i xs) (take i ys) ++ drop i was → get_or now_is i d ≡ get_or was i d
  read_unwritten xs ys was now_is i d le same room h =
      let ws = zip2 f (take i xs) (take i ys) in
      ap (λ l. get_or l i d) (h ∙ ap (λ l. ws ++ l) (drop_more was i d room))
      ∙ get_or-append_right ws (get_or was i d ∷ drop (i + 1) was) i i d (length_top xs ys i le same) (omega arith)
      ∙ ap (λ n. get_or (get_or was i d ∷ drop (i + 1) was) n d) (none_off i)

-- what each row gives by its number, put beside the row
pub beside_numbered : {X Y Z : Type 0} (f : X → Y → Z) (g : ℕ → X → Y) (n : ℕ) (xs : List X) → zip2 f xs (numbered g n xs) ≡ numbered (λ k x. f x (g k x)) n xs
unfolding numbered
beside_numbered f g n [] = refl
beside_numbered f g n (x ∷ xs) = ap (λ l. f x (g n x) ∷ l) (beside_numbered f g (n + 1) xs)

-- what each row gives by its number, one row more
pub number_more : {X Y : Type 0} (f : ℕ → X → Y) (xs : List X) (i : ℕ) (d : X) {y : Y} {ys : List Y} → i < length xs → y ≡ f (i + 1) (get_or xs i d) →
    ys ≡ numbered f 1 (take i xs) → ys ++ y ∷ [] ≡ numbered f 1 (take (i + 1) xs)
number_more f xs i d {y} lt ey h =
    let n : 1 + length (take i xs) ≡ i + 1 = omega (arith, length-take-le i xs (omega arith)) in
    ap (λ l. l ++ y ∷ []) h ∙ ap (λ z. numbered f 1 (take i xs) ++ z ∷ []) (ey ∙ ap (λ k. f k (get_or xs i d)) (sym n))
    ∙ sym (numbered_push f 1 (take i xs) (get_or xs i d)) ∙ ap (numbered f 1) (sym (take_more xs i d lt))
