-- The report of an input: the text of each record in turn.
use Rattle.std.specs.Prelude.{ℕ, ◌+◌, true, List, [], ◌∷◌, map, length, Some, None, Option}
use Rattle.kinds.specs.Tickers.{row}
use Rattle.reader.specs.Cuts.{lines}
use Rattle.reader.specs.Readings.{reading}
use Rattle.tally.specs.Events.{Event, registering, trading, quoting, noticing, designating, marking, expiring}
use Rattle.tally.specs.Runs.{Entry, log}
use Rattle.tally.specs.declared.call.Call.{Call}
use Rattle.tally.specs.declared.call.Call.TheVariants as call
use Rattle.contract_book.specs.Sendings.{rows_in}
use Rattle.desk.specs.declared.openings.Opening.{Opening}
use Rattle.desk.specs.Calls.{call_of}
use Rattle.desk.specs.Courses.{Course}
use Rattle.desk.specs.Endings.{course_of}
use Rattle.desk.specs.Openings.{terms_for}
use Rattle.desk.specs.Told.{starting, telling}
use Rattle.desk.specs.Waiting.{Sequel, waiting}

abbrev pub with_call : Option Call → List Call → List Call
with_call None calls = calls
with_call (Some x) calls = x ∷ calls

-- the calls that lines make, the first line being at a place
unfoldable pub calls_in : ℕ → List (List ℕ) → List Call
calls_in place [] = []
calls_in place (line ∷ rest) = with_call (call_of (reading true place line)) (calls_in (place + length line) rest)

-- a call as the book meets it, by the course of the quotations
abbrev pub event_by : {S : Type 0} → Course S → S → Call → ℕ → Event
event_by c s (call.Register r) room = registering r
event_by c s (call.Trade t) room = trading t
event_by c s (call.Quote q) room = quoting q (c.reply s q)
event_by c s (call.Notify n) room = noticing n
event_by c s call.Designate room = designating
event_by c s (call.Mark x) room = marking x room
event_by c s call.Expire room = expiring (c.final s) room

-- what is remembered after it
abbrev pub after_by : {S : Type 0} → Course S → S → Call → S
after_by c s (call.Register r) = s
after_by c s (call.Trade t) = s
after_by c s (call.Quote q) = c.after s q
after_by c s (call.Notify n) = s
after_by c s call.Designate = s
after_by c s (call.Mark x) = s
after_by c s call.Expire = s

-- calls one after the other, each with a page of 64 rows, one for each account that a book can have
unfoldable pub events_by : {S : Type 0} → Course S → S → List Call → List Event
events_by c s [] = []
events_by c s (x ∷ xs) = event_by c s x 64 ∷ events_by c (after_by c s x) xs

-- the log of a book that was just opened, over the lines behind its opening, by a course of its quotations
abbrev pub log_by : {S : Type 0} → Course S → S → Opening → ℕ → List (List ℕ) → List Entry
log_by c s o place rest = log (terms_for o) (events_by c s (calls_in place rest))

-- and by the rule of its contract, with no quotation taken yet
abbrev pub log_of : Opening → ℕ → List (List ℕ) → List Entry
log_of o place rest = log_by (course_of (row o.ticker).ending) [] o place rest

-- the text of lines, by the log of their run
abbrev pub log_text : ℕ → ℕ → List Entry → List (List ℕ) → List ℕ
log_text records place entries rest = telling (starting records place (map (λ x. x.answer) entries) (rows_in entries)) rest

-- the text of the lines behind an opening
abbrev pub opened_text : Opening → ℕ → ℕ → List (List ℕ) → List ℕ
opened_text o records place rest = log_text records place (log_of o place rest) rest

-- behind the refusals before a book is open comes the text of the book, and nothing where none is opened
abbrev pub sequel : Sequel
sequel = record { over = λ records. []; opened = opened_text }

-- the report of an input
abbrev pub report : List ℕ → List ℕ
report input = waiting sequel 0 0 (lines input)
