-- The number of every refusal of a book.
use Rattle.std.specs.Prelude.{ℕ}
use Rattle.kinds.specs.Quotations.{fault_number}
use Rattle.tally.specs.declared.refusal.Refusal.{Refusal}
use Rattle.tally.specs.declared.refusal.Refusal.TheVariants.{Unbuildable, Closed, AccountsFull, Unidentifiable, Registered, Stranger, Unpriced, Uncounted, SheetFull, OverLimit, Uncovered, LastSession, LotsFull, Unquoted, OutsideWindow, NotShort, NoticesFull, NoneDue, NoticeDue, Unrated, PageShort, NotExpiring, NoFinalPrice}

-- a kind's own refusal keeps the kind's number
abbrev pub refusal_number : Refusal → ℕ
refusal_number Unbuildable = 1
refusal_number Closed = 2
refusal_number AccountsFull = 3
refusal_number Unidentifiable = 4
refusal_number Registered = 5
refusal_number Stranger = 6
refusal_number Unpriced = 7
refusal_number Uncounted = 8
refusal_number SheetFull = 9
refusal_number OverLimit = 10
refusal_number Uncovered = 11
refusal_number LastSession = 12
refusal_number LotsFull = 13
refusal_number (Unquoted fault) = fault_number fault
refusal_number OutsideWindow = 15
refusal_number NotShort = 16
refusal_number NoticesFull = 17
refusal_number NoneDue = 18
refusal_number NoticeDue = 19
refusal_number Unrated = 20
refusal_number PageShort = 21
refusal_number NotExpiring = 22
refusal_number NoFinalPrice = 23
