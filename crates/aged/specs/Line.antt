-- A line of rows, oldest first: what it holds, what is left of it when some is taken, and what goes.
use Rattle.std.specs.Prelude.{◌≡◌, ℕ, ◌+◌, ◌-◌, ◌<◌, Bool, true, cond, List, [], ◌∷◌, ◌++◌, take, Some, None, filter, Option, ◌==◌, nat_le, nat_lt}
use Rattle.std.specs.Borrow.{Bor}
use Rattle.std.specs.List.{AllByRecursion}

-- How a row counts: how much, and the row with another count, which differs from it in nothing else.
pub record Counting (R : Type 0) : Type 0 where
  pub count : R → ℕ
  pub recount : R → ℕ → R
  pub count_recount : (x : R) (n : ℕ) → count (recount x n) ≡ n
  pub recount_recount : (x : R) (m n : ℕ) → recount (recount x m) n ≡ recount x n
  pub recount_count : (x : R) → recount x (count x) ≡ x

-- The line in a slice: its first `used` rows, or all where it has fewer.
abbrev pub line : {R : Type 0} → ℕ → List R → List R
line used rows = take used rows

-- Every row counts something.
abbrev pub AllCount : {R : Type 0} → Counting R → List R → Type 0
AllCount c rows = AllByRecursion (λ x. 0 < c.count x) rows

-- Whether a row counts something.
abbrev pub counts : {R : Type 0} → Counting R → R → Bool
counts c x = nat_lt 0 (c.count x)

-- The line with a row put at its end, as the newest.
abbrev pub append : {R : Type 0} → R → List R → List R
append x rows = rows ++ x ∷ []

-- The oldest row, if there is one.
abbrev pub first : {R : Type 0} → List R → Option R
first [] = None
first (x ∷ rows) = Some x

-- What the rows count in all.
abbrev pub held : {R : Type 0} → Counting R → List R → ℕ
held c [] = 0
held c (x ∷ rows) = c.count x + held c rows

-- The line left when n is taken from the oldest of the rows that the test picks:
-- a row that n covers goes, one that it does not cover keeps the rest of its count, and all others stay as they are.
abbrev pub take_picked : {R : Type 0} → Counting R → (R → Bool) → ℕ → List R → List R
take_picked c picks n [] = []
take_picked c picks n (x ∷ rows) =
    cond (n == 0) (x ∷ rows)
    (cond (picks x)
    (cond (nat_le (c.count x) n) (take_picked c picks (n - c.count x) rows) (c.recount x (c.count x - n) ∷ rows))
    (x ∷ take_picked c picks n rows))

-- The rows that go then, of which the last may be a part of one.
abbrev pub taken_picked : {R : Type 0} → Counting R → (R → Bool) → ℕ → List R → List R
taken_picked c picks n [] = []
taken_picked c picks n (x ∷ rows) =
    cond (n == 0) []
    (cond (picks x)
    (cond (nat_le (c.count x) n) (x ∷ taken_picked c picks (n - c.count x) rows) (c.recount x n ∷ []))
    (taken_picked c picks n rows))

-- The rows where what is taken is counted off them, and none goes: a row that n covers is left counting nothing.
abbrev pub spent : {R : Type 0} → Counting R → (R → Bool) → ℕ → List R → List R
spent c picks n [] = []
spent c picks n (x ∷ rows) = cond (picks x) (c.recount x (c.count x - n) ∷ spent c picks (n - c.count x) rows) (x ∷ spent c picks n rows)

-- What a closure says of a row is what the test says of it.
abbrev pub Tests : {R : Type 0} → (Bor R → Bool → Type 0) → (R → Bool) → Type 0
Tests says test = (x : _) (b : Bool) → says x b → b ≡ test x.now

-- The test that picks every row.
abbrev pub every : {R : Type 0} → R → Bool
every x = true

-- The line left, and the rows that go, when n is taken from the oldest rows.
abbrev pub take_oldest : {R : Type 0} → Counting R → ℕ → List R → List R
take_oldest c n rows = take_picked c every n rows

abbrev pub taken_oldest : {R : Type 0} → Counting R → ℕ → List R → List R
taken_oldest c n rows = taken_picked c every n rows

-- The test that picks the rows of the owner o.
abbrev pub owned_by : {R : Type 0} → (R → ℕ) → ℕ → R → Bool
owned_by owner o x = owner x == o

-- The rows of the owner o, in their order.
abbrev pub rows_of : {R : Type 0} → (R → ℕ) → ℕ → List R → List R
rows_of owner o rows = filter (owned_by owner o) rows

-- What the owner o holds.
abbrev pub held_by : {R : Type 0} → Counting R → (R → ℕ) → ℕ → List R → ℕ
held_by c owner o rows = held c (rows_of owner o rows)

-- The line left, and the rows that go, when n is taken from the oldest rows of the owner o.
abbrev pub take_of : {R : Type 0} → Counting R → (R → ℕ) → ℕ → ℕ → List R → List R
take_of c owner o n rows = take_picked c (owned_by owner o) n rows

abbrev pub taken_of : {R : Type 0} → Counting R → (R → ℕ) → ℕ → ℕ → List R → List R
taken_of c owner o n rows = taken_picked c (owned_by owner o) n rows
