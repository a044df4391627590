-- What is said to a record of an open book: of a line that cannot be read its fault, else what the book says.
use Rattle.std.specs.Prelude.{ℕ, Some, None, Ok, Err, Option, Result}
use Rattle.kinds.specs.declared.quotation.Quotation.{Quotation}
use Rattle.reader.specs.Entries.{Entry, opening, registration, trade, quotation, notice, marking, designation, expiry}
use Rattle.tally.specs.declared.refusal.Refusal.{Refusal}
use Rattle.desk.specs.declared.faults.Fault.{Fault}
use Rattle.desk.specs.declared.faults.Fault.TheVariants.{Read, Book}
use Rattle.desk.specs.Calls.{Line}
use Rattle.desk.specs.Courses.{Course}
use Rattle.settle.specs.declared.answers.Outcome.{Outcome}
use Rattle.settle.specs.declared.answers.Outcome.TheVariants.{Taken, Unserved}
use Rattle.settle.specs.Courses.{quoted, quoting}

-- the quotation that a record is, if it is one
abbrev pub quotation_in : Entry ℕ → Option Quotation
quotation_in (opening ticker month year sessions opens closes) = None
quotation_in (registration identity who) = None
quotation_in (trade buyer seller price contracts) = None
quotation_in (quotation price quantity) = Some (record { price = price; quantity = quantity })
quotation_in (notice seller contracts) = None
quotation_in (marking price rate) = None
quotation_in designation = None
quotation_in expiry = None

-- the book's reply to a quotation as what is said to its record
abbrev pub of_book : Result (Unit {0}) Refusal → Result Outcome Fault
of_book (Ok done) = Ok Taken
of_book (Err fault) = Err (Book fault)

-- once a book is open quotations are taken or refused, and the other records are not served yet
abbrev pub answer_to : {S : Type 0} → Course S → S → Option Quotation → Result Outcome Fault
answer_to c s None = Ok Unserved
answer_to c s (Some q) = of_book (quoting c s q)

-- what is said to a line once a book is open
abbrev pub answering : {S : Type 0} → Course S → S → Line → Result Outcome Fault
answering c s (Ok entry) = answer_to c s (quotation_in entry)
answering c s (Err fault) = Err (Read fault)

-- what is remembered after a quotation, and after any other record
abbrev pub remembered : {S : Type 0} → Course S → S → Option Quotation → S
remembered c s None = s
remembered c s (Some q) = quoted c s q

-- what is remembered after a line
abbrev pub answered : {S : Type 0} → Course S → S → Line → S
answered c s (Ok entry) = remembered c s (quotation_in entry)
answered c s (Err fault) = s
