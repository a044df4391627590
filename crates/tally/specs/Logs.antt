-- What a log tells, in the words of the trade and without the steps of a book.
use Rattle.std.specs.Prelude.{ℕ, ◌+◌, ◌*◌, Bool, true, false, cond, List, [], ◌∷◌, ◌++◌, map, replicate, ℤ, pos, ◌-ℤ◌, Some, None, Ok, Err, filter, is_ok, Option, ◌==◌, nat_lt}
use Rattle.tally.specs.declared.rows.Trade.{Trade}
use Rattle.tally.specs.declared.rows.Notice.{Notice}
use Rattle.tally.specs.declared.rows.Designation.{Designation}
use Rattle.tally.specs.Answers.{Answer}
use Rattle.tally.specs.declared.call.Reply.TheVariants.{Numbered, Accepted, Designated, Paid}
use Rattle.tally.specs.declared.call.Marking.{Marking}
use Rattle.tally.specs.Account.{long, short}
use Rattle.tally.specs.Book.{Posting, buy, sell}
use Rattle.tally.specs.Events.{Event, registering, trading, quoting, noticing, designating, marking, expiring}
use Rattle.tally.specs.Runs.{Entry}
use Rattle.tally.specs.Steps.{noticed_in}

-- ---- call by call
abbrev pub trade_in : Event → List Trade
trade_in (registering r) = []
trade_in (trading t) = t ∷ []
trade_in (quoting q reply) = []
trade_in (noticing n) = []
trade_in designating = []
trade_in (marking m room) = []
trade_in (expiring final room) = []

abbrev pub notice_in : ℕ → Event → List Notice
notice_in session (registering r) = []
notice_in session (trading t) = []
notice_in session (quoting q reply) = []
notice_in session (noticing n) = noticed_in session n ∷ []
notice_in session designating = []
notice_in session (marking m room) = []
notice_in session (expiring final room) = []

abbrev pub marking_in : Event → Option Marking
marking_in (registering r) = None
marking_in (trading t) = None
marking_in (quoting q reply) = None
marking_in (noticing n) = None
marking_in designating = None
marking_in (marking m room) = Some m
marking_in (expiring final room) = None

abbrev pub final_in : Event → Option ℕ
final_in (registering r) = None
final_in (trading t) = None
final_in (quoting q reply) = None
final_in (noticing n) = None
final_in designating = None
final_in (marking m room) = None
final_in (expiring final room) = final

abbrev pub designation_in : Answer → List Designation
designation_in (Err r) = []
designation_in (Ok (Numbered k)) = []
designation_in (Ok Accepted) = []
designation_in (Ok (Designated d)) = d ∷ []
designation_in (Ok (Paid s)) = []

-- the marking that an entry made, if it did, and its final price likewise
abbrev pub marked_by : Entry → Option Marking
marked_by x = cond (is_ok x.answer) (marking_in x.event) None

abbrev pub ended_by : Entry → Option ℕ
ended_by x = cond (is_ok x.answer) (final_in x.event) None

abbrev pub is_marking : Entry → Bool
is_marking x = elim (marked_by x) [ None ↦ false | Some _ ↦ true ]

-- ---- over a log
-- how many markings were accepted
unfoldable pub markings : List Entry → ℕ
markings [] = 0
markings (x ∷ xs) = cond (is_marking x) 1 0 + markings xs

-- the log up to its last accepted marking
unfoldable pub closed : List Entry → List Entry
closed [] = []
closed (x ∷ xs) = cond (nat_lt 0 (markings (x ∷ xs))) (x ∷ closed xs) []

-- the trades that were accepted
unfoldable pub trades : List Entry → List Trade
trades [] = []
trades (x ∷ xs) = cond (is_ok x.answer) (trade_in x.event) [] ++ trades xs

-- the designations that were answered
unfoldable pub designations : List Entry → List Designation
designations [] = []
designations (x ∷ xs) = designation_in x.answer ++ designations xs

-- the notices that were accepted, each with the session in which it was, the first being of session s
unfoldable pub notices_from : ℕ → List Entry → List Notice
notices_from s [] = []
notices_from s (x ∷ xs) = cond (is_ok x.answer) (notice_in s x.event) [] ++ notices_from (s + cond (is_marking x) 1 0) xs

abbrev pub noticed : List Entry → List Notice
noticed xs = notices_from 1 xs

-- f of the last accepted marking, p where there is none
unfoldable pub last_marked : (Marking → ℕ) → ℕ → List Entry → ℕ
last_marked f p [] = p
last_marked f p (x ∷ xs) = last_marked f (elim (marked_by x) [ None ↦ p | Some m ↦ f m ]) xs

-- the last settlement price and the last rate, 0 before the first marking
abbrev pub settlement_price : List Entry → ℕ
settlement_price xs = last_marked (λ m. m.price) 0 xs

abbrev pub settlement_rate : List Entry → ℕ
settlement_rate xs = last_marked (λ m. m.rate) 0 xs

-- the final price of the accepted expiry
unfoldable pub final_price : List Entry → Option ℕ
final_price [] = None
final_price (x ∷ xs) = elim (ended_by x) [ None ↦ final_price xs | Some f ↦ Some f ]

-- ---- counting contracts
-- the two sides of a trade, of a designation and of an expiry
pub data Side : Type 0 where
  bought : Side
  sold : Side

-- a trade counts for its buyer as bought and for its seller as sold
abbrev pub by_trade : Side → Trade → Posting
by_trade bought t = buy t
by_trade sold t = sell t

-- a designated contract is bought by the seller who gave notice, and sold by the buyer whose lot it was taken from, at the answered price
abbrev pub by_designation : Side → Designation → Posting
by_designation bought d = record { holder = d.seller; price = d.price; contracts = d.contracts }
by_designation sold d = record { holder = d.buyer; price = d.price; contracts = d.contracts }

-- at expiry short contracts are bought and long ones sold
abbrev pub at_expiry : Side → ℤ → ℕ
at_expiry bought z = short z
at_expiry sold z = long z

-- what the trades of closed sessions and the designations count
abbrev pub postings : Side → List Entry → List Posting
postings side xs = map (by_trade side) (trades (closed xs)) ++ map (by_designation side) (designations xs)

-- the contracts of account k, and their prices summed
unfoldable pub contracts_of : ℕ → List Posting → ℕ
contracts_of k [] = 0
contracts_of k (p ∷ ps) = cond (p.holder == k) p.contracts 0 + contracts_of k ps

unfoldable pub value_of : ℕ → List Posting → ℕ
value_of k [] = 0
value_of k (p ∷ ps) = cond (p.holder == k) (p.price * p.contracts) 0 + value_of k ps

-- what account k had before an expiry
abbrev pub open_contracts : List Entry → ℕ → ℤ
open_contracts xs k = pos (contracts_of k (postings bought xs)) -ℤ pos (contracts_of k (postings sold xs))

-- all contracts that account k bought, or sold, and their prices summed: the expiry's, at the final price, among them
abbrev pub counted : Side → List Entry → ℕ → ℕ
counted side xs k = contracts_of k (postings side xs) + elim (final_price xs) [ None ↦ 0 | Some f ↦ at_expiry side (open_contracts xs k) ]

abbrev pub value : Side → List Entry → ℕ → ℕ
value side xs k = value_of k (postings side xs) + elim (final_price xs) [ None ↦ 0 | Some f ↦ f * at_expiry side (open_contracts xs k) ]

-- what account k carries by the log
abbrev pub carried_by : List Entry → ℕ → ℤ
carried_by xs k = pos (counted bought xs k) -ℤ pos (counted sold xs k)

-- ---- contract by contract
-- the seller of each contract noticed, in order, and of each contract designated
unfoldable pub sellers : List Notice → List ℕ
sellers [] = []
sellers (n ∷ ns) = replicate n.count n.seller ++ sellers ns

unfoldable pub designated : List Designation → List ℕ
designated [] = []
designated (d ∷ ds) = replicate d.contracts d.seller ++ designated ds

-- the notices of sessions before s
abbrev pub before : ℕ → List Notice → List Notice
before s ns = filter (λ n. nat_lt n.session s) ns
