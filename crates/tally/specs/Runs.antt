-- Runs: calls one after the other, each picking up where the one before ended.
use Rattle.std.specs.Prelude.{◌+◌, false, List, [], ◌∷◌, length, Some, None, Ok, Err, fold, Option}
use Rattle.tally.specs.declared.rows.Lot.{Lot}
use Rattle.tally.specs.declared.rows.Notice.{Notice}
use Rattle.tally.specs.declared.rows.PageRow.{PageRow}
use Rattle.tally.specs.Answers.{Answer}
use Rattle.tally.specs.declared.call.Reply.TheVariants.{Numbered, Accepted, Designated, Paid}
use Rattle.tally.specs.Book.{Terms, View, Tally, seen}
use Rattle.tally.specs.Events.{Event, registering, trading, quoting, noticing, designating, marking, expiring}
use Rattle.tally.specs.Pages.{Page, page, roll, by_marking, by_expiry}
use Rattle.tally.specs.Questions.{verdict}
use Rattle.tally.specs.Steps.{done, entered, paired}

-- a book with nothing in it: session 1, settlement price 0
abbrev pub opened : View
opened = record { accounts = []; sheet = []; lots = []; notices = []; session = 1; price = 0; rate = 0; expired = false }

abbrev pub begun : Tally
begun = record { parties = []; bought = []; sold = []; waiting = []; lots = []; notices = []; session = 1; price = 0; rate = 0; expired = false }

-- a refused call leaves the book as it is
abbrev pub after : Terms → View → Event → View
after c v e = elim (verdict c v e) [ None ↦ done c v e | Some _ ↦ v ]

-- the tally accepts a call exactly when its questions, asked of what the tally shows, are met
abbrev pub fed : Terms → Tally → Event → Tally
fed c t e = elim (verdict c (seen c.size t) e) [ None ↦ entered t e | Some _ ↦ t ]

abbrev pub shown : Terms → List Event → View
shown c es = fold (after c) opened es

abbrev pub tally : Terms → List Event → Tally
tally c es = fold (fed c) begun es

-- ---- answers
-- the page of a marking or an expiry
abbrev pub page_of : Terms → View → Event → Option Page
page_of c v (registering r) = None
page_of c v (trading t) = None
page_of c v (quoting q reply) = None
page_of c v (noticing n) = None
page_of c v designating = None
page_of c v (marking m room) = Some (page c m.rate (by_marking c v m.price) (roll v))
page_of c v (expiring None room) = None
page_of c v (expiring (Some final) room) = Some (page c v.rate (by_expiry c v final) (roll v))

abbrev pub designation_of : View → List Notice → List Lot → Answer
designation_of v [] ls = Ok Accepted
designation_of v (n ∷ ns) [] = Ok Accepted
designation_of v (n ∷ ns) (l ∷ ls) = Ok (Designated (record { buyer = l.owner; seller = n.seller; contracts = paired n l; price = v.price }))

abbrev pub totals_of : Option Page → Answer
totals_of None = Ok Accepted
totals_of (Some p) = Ok (Paid p.totals)

-- what an accepted call answers
abbrev pub answer : Terms → View → Event → Answer
answer c v (registering r) = Ok (Numbered (length v.accounts + 1))
answer c v (trading t) = Ok Accepted
answer c v (quoting q reply) = Ok Accepted
answer c v (noticing n) = Ok Accepted
answer c v designating = designation_of v v.notices v.lots
answer c v (marking m room) = totals_of (page_of c v (marking m room))
answer c v (expiring final room) = totals_of (page_of c v (expiring final room))

-- what any call answers
abbrev pub reply : Terms → View → Event → Answer
reply c v e = elim (verdict c v e) [ None ↦ answer c v e | Some r ↦ Err r ]

abbrev pub rows_of : Option Page → List PageRow
rows_of None = []
rows_of (Some p) = p.rows

-- the rows that any call writes from the top of its page
abbrev pub written : Terms → View → Event → List PageRow
written c v e = elim (verdict c v e) [ None ↦ rows_of (page_of c v e) | Some _ ↦ [] ]

-- ---- the log
-- a call, what it was answered, and the rows that it wrote
pub record Entry : Type 0 where
  pub event : Event
  pub answer : Answer
  pub rows : List PageRow

abbrev pub entry : Terms → View → Event → Entry
entry c v e = record { event = e; answer = reply c v e; rows = written c v e }

-- the log of calls from what a tally shows on
abbrev pub log_from : Terms → Tally → List Event → List Entry
log_from c t [] = []
log_from c t (e ∷ es) = entry c (seen c.size t) e ∷ log_from c (fed c t e) es

abbrev pub log : Terms → List Event → List Entry
log c es = log_from c begun es
