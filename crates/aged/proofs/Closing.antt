-- A pass that closes a list up in place: it reads at i and writes at k.
use Rattle.std.proofs.Common.{◌≡◌, ℕ, ◌+◌, ◌<◌, ◌≤◌, min, List, [], ◌∷◌, ◌++◌, length, get_or, take, drop, set, sym, ap, ◌∙◌, append_assoc, arith}
use Rattle.std.proofs.lemmas.List.{take_more_set, drop_more, drop_all, append-nil, length-set, length-take, drop-drop, drop-set-lt, get_or-drop, get_or-take}

-- ys began as xs. The first k of ys and then `rest` are `whole`, and from i on ys is as it was.
pub record Closing {X : Type 0} (xs ys : List X) (k i : ℕ) (rest whole : List X) : Type 0 where
  pub front : take k ys ++ rest ≡ whole
  pub back : drop i ys ≡ drop i xs
  pub behind : k ≤ i
  pub long : length ys ≡ length xs

next : {X : Type 0} (xs ys : List X) (i : ℕ) → drop i ys ≡ drop i xs → drop (i + 1) ys ≡ drop (i + 1) xs
next xs ys i e = sym (drop-drop 1 i ys) ∙ ap (drop 1) e ∙ drop-drop 1 i xs

-- What is read at i begins what is left.
pub begins : {X : Type 0} {x : X} (i : ℕ) (xs : List X) → i < length xs → x ≡ get_or xs i x → drop i xs ≡ x ∷ drop (i + 1) xs
begins {x = x} i xs lt is = drop_more xs i x lt ∙ ap (λ y. y ∷ drop (i + 1) xs) (sym is)

-- The same of what is left of the first n.
reads : {X : Type 0} {x : X} (n i : ℕ) (xs : List X) → i < n → i < length xs → x ≡ get_or xs i x → drop i (take n xs) ≡ x ∷ drop (i + 1) (take n xs)
reads {x = x} n i xs lt le is = begins i (take n xs) (simp length-take (omega arith)) (is ∙ sym (get_or-take n xs i x lt))

-- Past the end nothing is left.
pub none_left : {X : Type 0} (n i : ℕ) (xs : List X) → min n (length xs) ≤ i → drop i (take n xs) ≡ []
none_left n i xs le = drop_all i (take n xs) (simp length-take (omega arith))

module _ {X : Type 0} {xs ys : List X} {k i : ℕ} {rest whole : List X} where
  -- The row read is left out.
  pub closing_skip : {rest' : List X} → Closing xs ys k i rest whole → rest ≡ rest' → Closing xs ys k (i + 1) rest' whole
  closing_skip h e = record {
    front = ap (λ t. take k ys ++ t) (sym e) ∙ h.front;
    back = next xs ys i h.back;
    behind = omega arith;
    long = h.long;
  }

  -- A row is written at k.
  pub closing_put : {rest' : List X} (x : X) → Closing xs ys k i rest whole → i < length xs → rest ≡ x ∷ rest' → Closing xs (set ys k x) (k + 1) (i + 1) rest' whole
  closing_put {rest'} x h lt e =
      let in_ys : k < length ys = omega arith in
      record {
        front = ap (λ t. t ++ rest') (take_more_set ys k x in_ys) ∙ append_assoc (take k ys) (x ∷ []) rest' ∙ ap (λ t. take k ys ++ t) (sym e) ∙ h.front;
        back = drop-set-lt (i + 1) ys k x (omega arith) ∙ next xs ys i h.back;
        behind = omega arith;
        long = length-set ys k x ∙ h.long;
      }

  -- What is read at i is what stood there.
  pub closing_read : {x : X} (n : ℕ) → Closing xs ys k i rest whole → i < n → i < length xs → x ≡ get_or ys i x → drop i (take n xs) ≡ x ∷ drop (i + 1) (take n xs)
  closing_read {x} n h lt le is =
      let same : get_or ys i x ≡ get_or xs i x = ap (λ j. get_or ys j x) (omega arith) ∙ sym (get_or-drop i ys 0 x) ∙ ap (λ l. get_or l 0 x) h.back ∙ get_or-drop i xs 0 x ∙ ap (λ j. get_or xs j x) (omega arith) in
      reads n i xs lt le (is ∙ same)

  pub closing_all : Closing xs ys k i rest whole → rest ≡ [] → take k ys ≡ whole
  closing_all h e = sym (append-nil (take k ys)) ∙ ap (λ t. take k ys ++ t) (sym e) ∙ h.front
