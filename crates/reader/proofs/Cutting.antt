-- The lines of an input, one by one. Assumes nothing.
use Rattle.std.proofs.Common.{◌≡◌, ℕ, suc, ◌+◌, ◌-◌, ◌<◌, ◌≤◌, min, Bool, true, false, cond, not, List, [], ◌∷◌, length, take, drop, Some, None, sym, refl, ap, ◌∙◌, arith, length-drop}
use Rattle.std.specs.List.{prefix_len, position}
use Rattle.std.proofs.lemmas.List.{drop-drop, drop_all}
use Rattle.std.proofs.lemmas.Bool.Decides.{nat_tests}
use Rattle.reader.specs.Cuts.{is_newline, lines, onto_first}
use Rattle.reader.specs.Readings.{part}

abbrev pub in_line : ℕ → Bool
in_line b = not (is_newline b)

-- how long the first line is
abbrev pub width : List ℕ → ℕ
width s = min (length s) (prefix_len in_line s + 1)

abbrev Parts : List ℕ → Type 0
Parts s = lines s ≡ take (width s) s ∷ lines (drop (width s) s)

-- a byte that is no newline, put in front
onto_some : (b : ℕ) (bs : List ℕ) → 0 < length bs → Parts bs → onto_first b (lines bs) ≡ take (min (suc (length bs)) (1 + prefix_len in_line bs + 1)) (b ∷ bs) ∷ lines (drop (min (suc (length bs)) (1 + prefix_len in_line bs + 1)) (b ∷ bs))
onto_some b bs some parts =
    let wide : min (suc (length bs)) (1 + prefix_len in_line bs + 1) ≡ suc (width bs) = omega arith in
    rw wide (ap (onto_first b) parts)

onto : (b : ℕ) (bs : List ℕ) → (0 < length bs → Parts bs) → onto_first b (lines bs) ≡ take (min (suc (length bs)) (1 + prefix_len in_line bs + 1)) (b ∷ bs) ∷ lines (drop (min (suc (length bs)) (1 + prefix_len in_line bs + 1)) (b ∷ bs))
unfolding lines
onto b [] parts = refl
onto b (c ∷ cs) parts = onto_some b (c ∷ cs) (omega arith) (parts (omega arith))

-- the first line is as long as that
pub lines_first : (s : List ℕ) → 0 < length s → Parts s
unfolding lines
lines_first [] h = absurd (omega arith)
lines_first (b ∷ bs) h =
    elim (is_newline b) as (λ t. cond t ((b ∷ []) ∷ lines bs) (onto_first b (lines bs)) ≡ take (min (suc (length bs)) (cond (not t) (1 + prefix_len in_line bs) 0 + 1)) (b ∷ bs) ∷ lines (drop (min (suc (length bs)) (cond (not t) (1 + prefix_len in_line bs) 0 + 1)) (b ∷ bs))) [
      | true ↦ let one : min (suc (length bs)) (0 + 1) ≡ 1 = omega arith in rw one refl
      | false ↦ onto b bs (lines_first bs)
    ]

-- the same from a place on
pub first_from : (s : List ℕ) (at r : ℕ) → at < length s → r ≡ at + width (drop at s) → lines (drop at s) ≡ part at (r - at) s ∷ lines (drop r s)
first_from s at r h e =
    let wide : width (drop at s) ≡ r - at = omega arith in
    let on : drop (width (drop at s)) (drop at s) ≡ drop r s = drop-drop (width (drop at s)) at s ∙ ap (λ n. drop n s) (sym e) in
    lines_first (drop at s) (omega (arith, length-drop at s)) ∙ ap (λ n. take n (drop at s) ∷ lines (drop (width (drop at s)) (drop at s))) wide ∙ ap (λ l. part at (r - at) s ∷ lines l) on

-- so the first newline of what is left ends its first line, and with none the input does
pub ended_at : (s : List ℕ) (at w : ℕ) → at < length s → position is_newline (drop at s) ≡ Some w → lines (drop at s) ≡ part at (at + w + 1 - at) s ∷ lines (drop (at + w + 1) s)
ended_at s at w h found = first_from s at (at + w + 1) h (grind (arith, nat_tests))

pub unended : (s : List ℕ) (at : ℕ) → at < length s → position is_newline (drop at s) ≡ None → lines (drop at s) ≡ part at (length s - at) s ∷ lines (drop (length s) s)
unended s at h none = first_from s at (length s) h (grind (arith, nat_tests, length-drop))

-- an input at its end has no more lines
pub none_left : (s : List ℕ) (at : ℕ) → length s ≤ at → lines (drop at s) ≡ []
unfolding lines
none_left s at h = ap lines (drop_all at s h)
