-- The layer, the number and the place that each fault of a record is reported under.
use Rattle.std.specs.Prelude.{ℕ}
use Rattle.reader.specs.Numbers.{fault_number, fault_place}
use Rattle.tally.specs.Refusals.{refusal_number}
use Rattle.tally.specs.declared.refusal.Refusal.{Refusal}
use Rattle.tally.specs.declared.refusal.Refusal.TheVariants.{Unbuildable, Closed, AccountsFull, Unidentifiable, Registered, Stranger, Unpriced, Uncounted, SheetFull, OverLimit, Uncovered, LastSession, LotsFull, Unquoted, OutsideWindow, NotShort, NoticesFull, NoneDue, NoticeDue, Unrated, PageShort, NotExpiring, NoFinalPrice}
use Rattle.desk.specs.declared.faults.Fault.{Fault}
use Rattle.desk.specs.declared.faults.Fault.TheVariants.{Read, Book}

-- the book's own questions are layer 2, those of the contract's kind layer 3
abbrev pub refusal_layer : Refusal → ℕ
refusal_layer Unbuildable = 2
refusal_layer Closed = 2
refusal_layer AccountsFull = 2
refusal_layer Unidentifiable = 2
refusal_layer Registered = 2
refusal_layer Stranger = 2
refusal_layer Unpriced = 2
refusal_layer Uncounted = 2
refusal_layer SheetFull = 2
refusal_layer OverLimit = 2
refusal_layer Uncovered = 2
refusal_layer LastSession = 2
refusal_layer LotsFull = 2
refusal_layer (Unquoted fault) = 3
refusal_layer OutsideWindow = 2
refusal_layer NotShort = 2
refusal_layer NoticesFull = 2
refusal_layer NoneDue = 2
refusal_layer NoticeDue = 2
refusal_layer Unrated = 2
refusal_layer PageShort = 2
refusal_layer NotExpiring = 2
refusal_layer NoFinalPrice = 2

-- reading is layer 1
abbrev pub layer_of : Fault → ℕ
layer_of (Read fault) = 1
layer_of (Book refusal) = refusal_layer refusal

-- the number of a fault
abbrev pub number_of : Fault → ℕ
number_of (Read fault) = fault_number fault
number_of (Book refusal) = refusal_number refusal

-- the byte that a fault names: what reading stopped at, or where the record starts
abbrev pub place_of : ℕ → Fault → ℕ
place_of start (Read fault) = fault_place fault
place_of start (Book refusal) = start
