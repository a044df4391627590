-- The letters of the months, and which of them each ticker lists.
use Rattle.std.specs.Prelude.{ℕ, ◌+◌, Bool, false, cond, ◌||◌, List, [], ◌∷◌, Some, None, codes, Option, ◌==◌}
use Rattle.kinds.specs.declared.months.Ticker.{Ticker}
use Rattle.kinds.specs.Tickers.{row}

-- where a letter stands in a list that is counted from n
abbrev pub place_from : ℕ → List ℕ → ℕ → Option ℕ
place_from n [] c = None
place_from n (x ∷ xs) c = cond (c == x) (Some n) (place_from (n + 1) xs c)

-- the month that a letter names: January is 1
abbrev pub month_of : ℕ → Option ℕ
month_of c = place_from 1 (codes "FGHJKMNQUVXZ") c

-- whether a letter is one of a list
abbrev pub one_of : List ℕ → ℕ → Bool
one_of [] c = false
one_of (x ∷ xs) c = c == x || one_of xs c

-- the three letters of a ticker
abbrev pub code_of : Ticker → List ℕ
code_of t = (row t).code

-- the month letters that a ticker lists
abbrev pub letters : Ticker → List ℕ
letters t = (row t).months

-- the month that a letter names, where the ticker lists it
abbrev pub listed_month : Ticker → ℕ → Option ℕ
listed_month t c = cond (one_of (letters t) c) (month_of c) None
