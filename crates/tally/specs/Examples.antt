-- Small runs, worked through, and the order of the questions.
use Rattle.std.specs.Prelude.{◌≡◌, ℕ, true, false, List, [], ◌∷◌, map, ℤ, pos, negsuc, Some, Ok, Err, codes, Option}
use Rattle.kinds.specs.declared.quotation.Quotation.{Quotation}
use Rattle.kinds.specs.declared.quotation.KindFault.{KindFault}
use Rattle.kinds.specs.Quotations.{fault_number}
use Rattle.money.specs.declared.currency.Currency.TheVariants.{Dollar}
use Rattle.money.specs.declared.currency.Residency.{Residency}
use Rattle.money.specs.declared.currency.Residency.TheVariants.{Resident, Nonresident}
use Rattle.tally.specs.declared.rows.PageRow.{PageRow}
use Rattle.tally.specs.declared.rows.Trade.{Trade}
use Rattle.tally.specs.declared.call.Registration.{Registration}
use Rattle.tally.specs.declared.call.Notification.{Notification}
use Rattle.tally.specs.declared.call.Marking.{Marking}
use Rattle.tally.specs.Answers.{Answer}
use Rattle.tally.specs.declared.call.Reply.TheVariants.{Numbered, Accepted, Designated, Paid}
use Rattle.tally.specs.declared.refusal.Refusal.TheVariants.{NoneDue, NoticeDue}
use Rattle.tally.specs.Book.{Terms, View}
use Rattle.tally.specs.Events.{Event, registering, trading, quoting, noticing, designating, marking, expiring}
use Rattle.tally.specs.Questions.{questions}
use Rattle.tally.specs.Refusals.{refusal_number}
use Rattle.tally.specs.Runs.{log}

-- a mini Arabica book with two sessions
abbrev pub mini : Terms
mini = record { size = 10; currency = Dollar; tick = 5; delivers = false; last = 2; opens = 0; closes = 0 }

abbrev person : List ℕ → Residency → Event
person customer residency = registering (record { identity = record { customer = customer; house = codes "101"; member = codes "201" }; residency = residency })

abbrev deal : ℕ → ℕ → ℕ → ℕ → Event
deal buyer seller price contracts = trading (record { buyer = buyer; seller = seller; price = price; contracts = contracts })

abbrev close : ℕ → ℕ → Event
close price rate = marking (record { price = price; rate = rate }) 64

-- a resident and a nonresident trade, and the book expires at the price that its quotations make
abbrev pub run : List Event
run =
    person (codes "CUST0001") Resident ∷ person (codes "CUST0002") Nonresident
    ∷ deal 1 2 10000 3 ∷ close 10050 2153700
    ∷ deal 2 1 10100 1 ∷ deal 1 2 10150 1 ∷ close 10100 2000000
    ∷ quoting (record { price = 10200; quantity = 2 }) (Ok tt) ∷ quoting (record { price = 10125; quantity = 1 }) (Ok tt)
    ∷ expiring (Some 10175) 64
    ∷ []

abbrev paid : ℤ → ℤ → ℤ → ℕ → Answer
paid reais dollars remainder lines = Ok (Paid (record { reais = reais; dollars = dollars; remainder = remainder; lines = lines }))

abbrev row : ℤ → ℤ → PageRow
row day_trade margin = record { day_trade = day_trade; margin = margin }

-- what every call is answered, and the rows that it writes
pub record WorkedRun : Type 0 where
  pub answers : map (λ x. x.answer) (log mini run) ≡
      Ok (Numbered 1) ∷ Ok (Numbered 2)
      ∷ Ok Accepted ∷ paid (pos 3231) (negsuc 1499) (pos 450000) 1
      ∷ Ok Accepted ∷ Ok Accepted ∷ paid (pos 2000) (negsuc 999) (pos 0) 2
      ∷ Ok Accepted ∷ Ok Accepted
      ∷ paid (pos 4500) (negsuc 2249) (pos 0) 1
      ∷ []
  pub pages : map (λ x. x.rows) (log mini run) ≡
      [] ∷ [] ∷ []
      ∷ (row (pos 0) (pos 3231) ∷ row (pos 0) (negsuc 1499) ∷ [])
      ∷ [] ∷ []
      ∷ (row (negsuc 999) (pos 3000) ∷ row (pos 500) (negsuc 1499) ∷ [])
      ∷ [] ∷ []
      ∷ (row (pos 0) (pos 4500) ∷ row (pos 0) (negsuc 2249) ∷ [])
      ∷ []

-- an Arabica book with five sessions, notice from the second to the fourth
abbrev pub arabica : Terms
arabica = record { size = 100; currency = Dollar; tick = 5; delivers = true; last = 5; opens = 2; closes = 4 }

-- two accounts hold five and four contracts, the seller gives notice of six, and a marking has to wait until they are designated to the oldest lots
abbrev pub delivery : List Event
delivery =
    person (codes "BUYER001") Nonresident ∷ person (codes "BUYER002") Nonresident ∷ person (codes "SELLER01") Nonresident
    ∷ deal 1 3 12000 5 ∷ deal 2 3 12000 4 ∷ close 12010 2000000
    ∷ noticing (record { seller = 3; contracts = 6 }) ∷ designating ∷ close 12020 2000000
    ∷ close 12030 2000000 ∷ designating ∷ designating ∷ designating ∷ close 12030 2000000
    ∷ []

abbrev given : ℕ → ℕ → Answer
given buyer contracts = Ok (Designated (record { buyer = buyer; seller = 3; contracts = contracts; price = 12020 }))

pub record WorkedDelivery : Type 0 where
  pub answers : map (λ x. x.answer) (log arabica delivery) ≡
      Ok (Numbered 1) ∷ Ok (Numbered 2) ∷ Ok (Numbered 3)
      ∷ Ok Accepted ∷ Ok Accepted ∷ paid (pos 0) (pos 0) (pos 0) 0
      ∷ Ok Accepted ∷ Err NoneDue ∷ paid (pos 0) (pos 0) (pos 0) 0
      ∷ Err NoticeDue ∷ given 1 5 ∷ given 2 1 ∷ Err NoneDue ∷ paid (pos 0) (pos 0) (pos 0) 0
      ∷ []

-- an account buys at two prices and sells at a third on one day: the earliest purchase offsets
abbrev pub offset_day : List Event
offset_day =
    person (codes "TRADER01") Nonresident ∷ person (codes "TRADER02") Nonresident
    ∷ deal 1 2 10000 2 ∷ deal 1 2 10100 1 ∷ deal 2 1 10200 1 ∷ close 10150 2000000
    ∷ []

pub record WorkedOffset : Type 0 where
  pub pages : map (λ x. x.rows) (log mini offset_day) ≡
      [] ∷ [] ∷ [] ∷ [] ∷ []
      ∷ (row (pos 2000) (pos 2000) ∷ row (negsuc 1999) (negsuc 1999) ∷ [])
      ∷ []

-- the numbers of the questions of a call, in the order in which they are asked
abbrev numbers : Terms → View → Event → List ℕ
numbers c v e = map (λ q. refusal_number q.refusal) (questions c v e)

pub record AskedInOrder (c : Terms) (v : View) : Type 0 where
  pub account : (r : Registration) → numbers c v (registering r) ≡ 2 ∷ 3 ∷ 4 ∷ 5 ∷ []
  pub trade : (t : Trade) → numbers c v (trading t) ≡ 2 ∷ 6 ∷ 7 ∷ 8 ∷ 9 ∷ 10 ∷ 11 ∷ 12 ∷ 13 ∷ []
  pub quotation : (q : Quotation) (fault : KindFault) → numbers c v (quoting q (Err fault)) ≡ 7 ∷ 8 ∷ fault_number fault ∷ []
  pub notice : (n : Notification) → numbers c v (noticing n) ≡ 2 ∷ 15 ∷ 6 ∷ 8 ∷ 16 ∷ 17 ∷ []
  pub designation : numbers c v designating ≡ 18 ∷ []
  pub settlement : (m : Marking) (room : ℕ) → numbers c v (marking m room) ≡ 2 ∷ 19 ∷ 7 ∷ 20 ∷ 21 ∷ []
  pub expiry : (final : Option ℕ) (room : ℕ) → numbers c v (expiring final room) ≡ 22 ∷ 23 ∷ 21 ∷ []

abbrev pub QuestionOrder : Type 0
QuestionOrder = (c : Terms) (v : View) → AskedInOrder c v
