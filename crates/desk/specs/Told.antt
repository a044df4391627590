-- The text of a run: what was answered to each record of an open book.
use Rattle.std.specs.Prelude.{ℕ, ◌+◌, true, List, [], ◌∷◌, ◌++◌, length, take, drop, Ok, Err}
use Rattle.reader.specs.Readings.{reading}
use Rattle.tally.specs.Answers.{Answer}
use Rattle.tally.specs.declared.call.Reply.TheVariants.{Numbered, Accepted, Designated, Paid}
use Rattle.tally.specs.declared.rows.PageRow.{PageRow}
use Rattle.desk.specs.declared.faults.Fault.TheVariants.{Read, Book}
use Rattle.desk.specs.Calls.{Line}
use Rattle.desk.specs.Lines.{designation_line, page_text, refusal_line}

-- how far a text has come: records read and the place of the next, the open session, the accounts registered, and the answers and page rows still to be told
pub record Telling : Type 0 where
  pub records : ℕ
  pub place : ℕ
  pub session : ℕ
  pub accounts : ℕ
  pub answers : List Answer
  pub rows : List PageRow

-- session 1, no account yet, and answers and rows to be told
abbrev pub starting : ℕ → ℕ → List Answer → List PageRow → Telling
starting records place answers rows = record { records = records; place = place; session = 1; accounts = 0; answers = answers; rows = rows }

-- the text of an answer to the next record: a page has a row for each account
abbrev pub answer_text : Telling → Answer → List ℕ
answer_text s (Err refusal) = refusal_line (s.records + 1) s.place (Book refusal)
answer_text s (Ok (Numbered number)) = []
answer_text s (Ok Accepted) = []
answer_text s (Ok (Designated designation)) = designation_line designation
answer_text s (Ok (Paid sums)) = page_text s.session (take s.accounts s.rows) sums

-- the text of the next record: its fault, or its answer
abbrev pub next_text : Telling → List Answer → List ℕ
next_text s [] = []
next_text s (a ∷ more) = answer_text s a

abbrev pub line_text : Telling → Line → List ℕ
line_text s (Err fault) = refusal_line (s.records + 1) s.place (Read fault)
line_text s (Ok entry) = next_text s s.answers

-- behind the next line: so many bytes on, with what is still to be told
abbrev pub moved : Telling → ℕ → ℕ → ℕ → List Answer → List PageRow → Telling
moved s width session accounts answers rows = record { records = s.records + 1; place = s.place + width; session = session; accounts = accounts; answers = answers; rows = rows }

-- an account more, a session closed
abbrev pub after_answer : Telling → ℕ → Answer → List Answer → Telling
after_answer s width (Err refusal) more = moved s width s.session s.accounts more s.rows
after_answer s width (Ok (Numbered number)) more = moved s width s.session (s.accounts + 1) more s.rows
after_answer s width (Ok Accepted) more = moved s width s.session s.accounts more s.rows
after_answer s width (Ok (Designated designation)) more = moved s width s.session s.accounts more s.rows
after_answer s width (Ok (Paid sums)) more = moved s width (s.session + 1) s.accounts more (drop s.accounts s.rows)

abbrev pub after_next : Telling → ℕ → List Answer → Telling
after_next s width [] = moved s width s.session s.accounts [] s.rows
after_next s width (a ∷ more) = after_answer s width a more

abbrev pub after_line : Telling → ℕ → Line → Telling
after_line s width (Err fault) = moved s width s.session s.accounts s.answers s.rows
after_line s width (Ok entry) = after_next s width s.answers

-- the text of the lines of an open book, one after the other
unfoldable pub telling : Telling → List (List ℕ) → List ℕ
telling s [] = []
telling s (line ∷ rest) = line_text s (reading true s.place line) ++ telling (after_line s (length line) (reading true s.place line)) rest
