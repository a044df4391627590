-- What is told until a book is opened, whatever comes behind it.
use Rattle.std.specs.Prelude.{ℕ, ◌+◌, false, List, [], ◌∷◌, ◌++◌, length, Some, None, Ok, Err, Option, Result}
use Rattle.reader.specs.Readings.{reading}
use Rattle.desk.specs.declared.faults.Fault.{Fault}
use Rattle.desk.specs.declared.openings.Opening.{Opening}
use Rattle.desk.specs.Lines.{refusal_line}
use Rattle.desk.specs.Openings.{opening_to}

-- what is told behind so many records: at the input's end, or over the lines behind an opening, the first of them at a place
pub record Sequel : Type 0 where
  pub over : ℕ → List ℕ
  pub opened : Opening → ℕ → ℕ → List (List ℕ) → List ℕ

-- the text of a record: nothing, or the line of its refusal
abbrev pub record_text : {X : Type 0} → ℕ → ℕ → Result X Fault → List ℕ
record_text number start (Ok done) = []
record_text number start (Err fault) = refusal_line number start fault

-- the book that a record opens
abbrev pub opening_in : Result (Option Opening) Fault → Option Opening
opening_in (Ok opening) = opening
opening_in (Err fault) = None

-- one way on where a book has been opened, and another where it has not
abbrev pub onward : Option Opening → (Opening → List ℕ) → List ℕ → List ℕ
onward None opens waits = waits
onward (Some opening) opens waits = opens opening

-- the text of each line in turn, until one opens a book
unfoldable pub waiting : Sequel → ℕ → ℕ → List (List ℕ) → List ℕ
waiting s records place [] = s.over records
waiting s records place (line ∷ rest) =
    record_text (records + 1) place (opening_to (reading false place line))
    ++ onward (opening_in (opening_to (reading false place line))) (λ o. s.opened o (records + 1) (place + length line) rest) (waiting s (records + 1) (place + length line) rest)

-- what is still to come when waiting is over
abbrev pub to_come : Sequel → Option Opening → ℕ → ℕ → List (List ℕ) → List ℕ
to_come s None records place rest = s.over records
to_come s (Some opening) records place rest = s.opened opening records place rest
