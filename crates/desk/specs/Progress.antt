-- How far a text has been told.
use Rattle.std.specs.Prelude.{ℕ, ◌<◌, ◌≤◌, List, length, Some, None, Ok, Err, Option, Result}
use Rattle.reader.specs.declared.reading.Reader.{Reader}
use Rattle.text.specs.Puts.{Put}
use Rattle.text.specs.Writers.{Overflows, Progress}
use Rattle.text.specs.declared.writer.Full.{Full}
use Rattle.text.specs.declared.writer.Writer.{Writer}
use Rattle.desk.specs.declared.openings.Opening.{Opening}
use Rattle.desk.specs.Places.{lines_left}
use Rattle.desk.specs.Waiting.{Sequel, to_come, waiting}

-- what is told over the lines that a reader has left, before a book is open
abbrev pub waiting_at : Sequel → Reader → List ℕ
waiting_at s r = waiting s r.number r.at (lines_left r)

-- and what is still to be told when waiting is over
abbrev pub to_come_at : Sequel → Option Opening → Reader → List ℕ
to_come_at s opening r = to_come s opening r.number r.at (lines_left r)

-- the whole text is told up to where waiting is over; or it does not fit
abbrev pub Waits : Sequel → Writer → Reader → Writer → Reader → Result (Option Opening) Full → Type 0
Waits s old from new reader (Err full) = Overflows old (waiting_at s from) new
Waits s old from new reader (Ok opening) = Progress old (waiting_at s from) new (to_come_at s opening reader)

-- the text of an input is put from the top, and the answer is where it ends;
-- nothing is answered only where the slice is too short for it, or there are not places for a call and an answer to each record,
-- or not rows for 261 pages of 64 accounts
abbrev pub Settles : ℕ → ℕ → ℕ → ℕ → List ℕ → List ℕ → List ℕ → Option ℕ → Type 0
Settles records calls answers rows was text out None = records ≤ calls → records ≤ answers → 16704 ≤ rows → length was < length text
Settles records calls answers rows was text out (Some end) = Put was 0 text out end
