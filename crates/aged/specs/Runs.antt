-- Whatever happens to a line, one thing after another.
use Rattle.std.specs.Prelude.{ℕ, List, [], ◌∷◌, ◌++◌}
use Rattle.aged.specs.Line.{Counting, append, take_oldest, taken_oldest, take_of, taken_of}

-- What can happen to a line: a row is put at its end, n are taken from the oldest rows, n are taken from the oldest rows of an owner, or it is emptied.
pub data Operation (R : Type 0) : Type 0 where
  appends : R → Operation R
  takes_oldest : ℕ → Operation R
  takes_of : ℕ → ℕ → Operation R
  empties : Operation R

-- The rows that stand in a line, and the rows that went, in the order in which they went.
pub record Standing (R : Type 0) : Type 0 where
  pub rows : List R
  pub gone : List R

-- Before anything has happened.
abbrev pub start : {R : Type 0} → Standing R
start = record { rows = []; gone = [] }

-- What stands and what went after one operation.
abbrev pub after : {R : Type 0} → Counting R → (R → ℕ) → Standing R → Operation R → Standing R
after c owner s (appends x) = record { rows = append x s.rows; gone = s.gone }
after c owner s (takes_oldest n) = record { rows = take_oldest c n s.rows; gone = s.gone ++ taken_oldest c n s.rows }
after c owner s (takes_of o n) = record { rows = take_of c owner o n s.rows; gone = s.gone ++ taken_of c owner o n s.rows }
after c owner s empties = record { rows = []; gone = s.gone ++ s.rows }

-- What stands and what went after all of them.
abbrev pub run : {R : Type 0} → Counting R → (R → ℕ) → Standing R → List (Operation R) → Standing R
run c owner s [] = s
run c owner s (op ∷ ops) = run c owner (after c owner s op) ops

-- The rows put into the line, in their order.
abbrev pub appended : {R : Type 0} → List (Operation R) → List R
appended [] = []
appended (appends x ∷ ops) = x ∷ appended ops
appended (takes_oldest n ∷ ops) = appended ops
appended (takes_of o n ∷ ops) = appended ops
appended (empties ∷ ops) = appended ops

-- Nothing is taken from one owner alone.
abbrev pub OldestOnly : {R : Type 0} → List (Operation R) → Type 0
OldestOnly [] = Unit {0}
OldestOnly (appends x ∷ ops) = OldestOnly ops
OldestOnly (takes_oldest n ∷ ops) = OldestOnly ops
OldestOnly (takes_of o n ∷ ops) = ⊥
OldestOnly (empties ∷ ops) = OldestOnly ops
