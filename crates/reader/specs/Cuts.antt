-- How an input falls into lines.
use Rattle.std.specs.Prelude.{◌≡◌, ℕ, ◌+◌, ◌<◌, Bool, cond, List, [], ◌∷◌, length, count_by, ◌==◌, ◌≢◌, slice_index}
use Rattle.std.specs.List.{flat_map, AllByRecursion}

-- the byte that ends a line
abbrev pub is_newline : ℕ → Bool
is_newline b = b == 10

-- a byte put in front of the first line
abbrev pub onto_first : ℕ → List (List ℕ) → List (List ℕ)
onto_first b [] = (b ∷ []) ∷ []
onto_first b (line ∷ rest) = (b ∷ line) ∷ rest

-- an input cut behind each newline: every line has its newline, and only a last piece may lack one
unfoldable pub lines : List ℕ → List (List ℕ)
lines [] = []
lines (b ∷ bs) = cond (is_newline b) ((b ∷ []) ∷ lines bs) (onto_first b (lines bs))

-- the last of some bytes, and b of none
abbrev pub last_or : ℕ → List ℕ → ℕ
last_or b [] = b
last_or b (c ∷ cs) = last_or c cs

-- one where an input ends in a piece with no newline
abbrev pub unended : List ℕ → ℕ
unended s = cond (is_newline (last_or 10 s)) 0 1

-- what the cut is, in other words
pub record LinesLaw : Type 0 where
  -- every byte of the input lies in a line, in its order
  pub covered : (s : List ℕ) → flat_map (λ line. line) (lines s) ≡ s
  -- no line is empty
  pub filled : (s : List ℕ) → AllByRecursion (λ line. 0 < length line) (lines s)
  -- a newline is its line's last byte
  pub ended : (s : List ℕ) → AllByRecursion (λ line. (k : ℕ) → k + 1 < length line → slice_index line k ≢ 10) (lines s)
  -- there are as many lines as newlines, and one more where a piece without one is left
  pub counted : (s : List ℕ) → length (lines s) ≡ count_by is_newline s + unended s
