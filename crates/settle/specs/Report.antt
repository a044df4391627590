-- The report of an input: the text of each record in turn, and a closing line.
use Rattle.std.specs.Prelude.{ℕ, ◌+◌, true, List, [], ◌∷◌, ◌++◌, length, None, Ok, Err, Result}
use Rattle.kinds.specs.Tickers.{row}
use Rattle.kinds.specs.declared.months.Ticker.{Ticker}
use Rattle.reader.specs.Cuts.{lines}
use Rattle.reader.specs.Readings.{reading}
use Rattle.desk.specs.declared.faults.Fault.{Fault}
use Rattle.desk.specs.Courses.{Course}
use Rattle.desk.specs.Endings.{course_of}
use Rattle.desk.specs.Waiting.{Sequel, record_text, waiting}
use Rattle.settle.specs.declared.answers.Outcome.{Outcome}
use Rattle.settle.specs.declared.answers.Outcome.TheVariants.{Taken, Unserved}
use Rattle.settle.specs.Answers.{answered, answering}
use Rattle.settle.specs.Lines.{closing_line}

-- one where a quotation was taken
abbrev pub taken_in : Result Outcome Fault → ℕ
taken_in (Ok Taken) = 1
taken_in (Ok Unserved) = 0
taken_in (Err fault) = 0

-- where a run with an open book stands
pub record Standing (S : Type 0) : Type 0 where
  -- how many records it has read
  pub records : ℕ
  -- where the next one starts
  pub place : ℕ
  -- how many quotations it has taken
  pub taken : ℕ
  -- what is remembered of them
  pub memory : S

-- a run that has read so many records, up to a place
abbrev pub standing : {S : Type 0} → ℕ → ℕ → ℕ → S → Standing S
standing records place taken memory = record { records = records; place = place; taken = taken; memory = memory }

-- what is said to the next line
abbrev pub line_answer : {S : Type 0} → Course S → Standing S → List ℕ → Result Outcome Fault
line_answer c s line = answering c s.memory (reading true s.place line)

-- where the run stands behind it
abbrev pub after_line : {S : Type 0} → Course S → Standing S → List ℕ → Standing S
after_line c s line =
    standing (s.records + 1) (s.place + length line) (s.taken + taken_in (line_answer c s line)) (answered c s.memory (reading true s.place line))

-- with an open book: the text of each line in turn, and the closing line
unfoldable pub serving : {S : Type 0} → Course S → Standing S → List (List ℕ) → List ℕ
serving c s [] = closing_line s.records s.taken (c.final s.memory)
serving c s (line ∷ rest) = record_text (s.records + 1) s.place (line_answer c s line) ++ serving c (after_line c s line) rest

-- the rest of a run, once a book is opened on a ticker: no quotation has been taken
abbrev pub opened_on : Ticker → ℕ → ℕ → List (List ℕ) → List ℕ
opened_on ticker records place rest = serving (course_of (row ticker).ending) (standing records place 0 []) rest

-- behind the refusals before a book is open comes the run of the book, and without one the closing line, with no final price
abbrev pub sequel : Sequel
sequel = record { over = λ records. closing_line records 0 None; opened = λ opening. opened_on opening.ticker }

-- the report of an input
abbrev pub report : List ℕ → List ℕ
report input = waiting sequel 0 0 (lines input)
