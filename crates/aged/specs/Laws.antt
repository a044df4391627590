-- What holds of every line, whatever happens to it.
use Rattle.std.specs.Prelude.{◌≡◌, ℕ, ◌+◌, ◌-◌, ◌<◌, ◌≤◌, min, Bool, true, false, List, [], ◌∷◌, ◌++◌, replicate, filter}
use Rattle.std.specs.List.{AllByRecursion}
use Rattle.aged.specs.Line.{Counting, held, rows_of, held_by, take_picked, taken_picked}
use Rattle.aged.specs.Runs.{Operation, start, run, appended, OldestOnly}

-- Rows unit by unit: each as often as it counts, as the row that counts one.
abbrev pub units : {R : Type 0} → Counting R → List R → List R
units c [] = []
units c (x ∷ rows) = replicate (c.count x) (c.recount x 1) ++ units c rows

-- Nothing is lost or made: what went and what stands count together what was put in.
-- Whose the rows are does not matter here, nor in the other laws that speak of every owner function: rows that have no owner obey them too.
abbrev pub NothingLost : {R : Type 0} → Counting R → Type 0
NothingLost {R} c = (owner : R → ℕ) (ops : List (Operation R)) →
    held c (run c owner start ops).gone + held c (run c owner start ops).rows ≡ held c (appended ops)

-- The same, owner by owner.
abbrev pub NothingLostByOwner : {R : Type 0} → Counting R → (R → ℕ) → Type 0
NothingLostByOwner {R} c owner = (o : ℕ) (ops : List (Operation R)) →
    held_by c owner o (run c owner start ops).gone + held_by c owner o (run c owner start ops).rows ≡ held_by c owner o (appended ops)

-- First in, first out: where all is taken from the oldest, the units put in are, in their order, the units that went and then those that stand.
abbrev pub InOrder : {R : Type 0} → Counting R → Type 0
InOrder {R} c = (owner : R → ℕ) (ops : List (Operation R)) → OldestOnly ops →
    units c (appended ops) ≡ units c (run c owner start ops).gone ++ units c (run c owner start ops).rows

-- The same of each owner's units, whatever is taken.
abbrev pub InOrderByOwner : {R : Type 0} → Counting R → (R → ℕ) → Type 0
InOrderByOwner {R} c owner = (o : ℕ) (ops : List (Operation R)) →
    units c (rows_of owner o (appended ops)) ≡ units c (rows_of owner o (run c owner start ops).gone) ++ units c (rows_of owner o (run c owner start ops).rows)

-- No row stands that counts nothing, if none was put in.
abbrev pub ClosedUp : {R : Type 0} → Counting R → Type 0
ClosedUp {R} c = (owner : R → ℕ) (ops : List (Operation R)) →
    AllByRecursion (λ x. 0 < c.count x) (appended ops) → AllByRecursion (λ x. 0 < c.count x) (run c owner start ops).rows

-- How n is taken, row by row from the oldest: the rows, those that go, and those that are left.
-- A row that is not picked stays as it is. A row picked goes as it is where n covers it. Where n does not, it is split into a part that goes and a part that stays,
-- which differ from the row in their counts alone, and all behind it stay as they are.
pub data Takes {R : Type 0} (c : Counting R) (picks : R → Bool) : ℕ → List R → List R → List R → Type 0 where
  enough : {rows : List R} → Takes c picks 0 rows [] rows
  ended : {n : ℕ} → Takes c picks n [] [] []
  passed : {n : ℕ} {x : R} {rows gone left : List R} → picks x ≡ false → Takes c picks n rows gone left → Takes c picks n (x ∷ rows) gone (x ∷ left)
  whole : {n : ℕ} {x : R} {rows gone left : List R} → picks x ≡ true → c.count x ≤ n → Takes c picks (n - c.count x) rows gone left → Takes c picks n (x ∷ rows) (x ∷ gone) left
  split : {n : ℕ} {x : R} {rows : List R} → picks x ≡ true → 0 < n → n < c.count x → Takes c picks n (x ∷ rows) (c.recount x n ∷ []) (c.recount x (c.count x - n) ∷ rows)

-- A taking goes row by row like that, and the rows that go count the lesser of what is asked for and what the rows picked hold.
abbrev pub SplitByCount : {R : Type 0} → Counting R → (R → Bool) → Type 0
SplitByCount {R} c picks = (n : ℕ) (rows : List R) →
    Takes c picks n rows (taken_picked c picks n rows) (take_picked c picks n rows)
    × (held c (taken_picked c picks n rows) ≡ min n (held c (filter picks rows)))
