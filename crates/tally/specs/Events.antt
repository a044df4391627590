-- A call as a book meets it: what was sent, with what the kind says to it.
use Rattle.std.specs.Prelude.{ℕ, List, [], ◌∷◌, Option}
use Rattle.kinds.specs.declared.quotation.Quotation.{Quotation}
use Rattle.kinds.specs.Meaning.{Meaning}
use Rattle.kinds.specs.Quotations.{Reply}
use Rattle.tally.specs.declared.rows.Trade.{Trade}
use Rattle.tally.specs.declared.call.Registration.{Registration}
use Rattle.tally.specs.declared.call.Notification.{Notification}
use Rattle.tally.specs.declared.call.Marking.{Marking}
use Rattle.tally.specs.declared.call.Call.{Call}
use Rattle.tally.specs.declared.call.Call.TheVariants as call

-- what is sent: a call, and how many rows the page handed in with it has
pub record Request : Type 0 where
  pub call : Call
  pub room : ℕ

pub data Event : Type 0 where
  registering : Registration → Event
  trading : Trade → Event
  -- with the kind's reply
  quoting : Quotation → Reply → Event
  noticing : Notification → Event
  designating : Event
  -- with the rows of the page
  marking : Marking → ℕ → Event
  -- with the kind's final price and the rows of the page
  expiring : Option ℕ → ℕ → Event

-- a call to a book over a kind
abbrev pub event : {K : Type 0} → Meaning K → K → Call → ℕ → Event
event m k (call.Register r) room = registering r
event m k (call.Trade t) room = trading t
event m k (call.Quote q) room = quoting q (m.reply k q)
event m k (call.Notify n) room = noticing n
event m k call.Designate room = designating
event m k (call.Mark x) room = marking x room
event m k call.Expire room = expiring (m.final k) room

-- the kind after a call: only a quotation can change it
abbrev pub kind_after : {K : Type 0} → Meaning K → K → Call → K
kind_after m k (call.Register r) = k
kind_after m k (call.Trade t) = k
kind_after m k (call.Quote q) = m.after k q
kind_after m k (call.Notify n) = k
kind_after m k call.Designate = k
kind_after m k (call.Mark x) = k
kind_after m k call.Expire = k

-- calls one after the other, with what the kind says to each
abbrev pub events : {K : Type 0} → Meaning K → K → List Request → List Event
events m k [] = []
events m k (r ∷ rs) = event m k r.call r.room ∷ events m (kind_after m k r.call) rs

-- and the kind after them all
abbrev pub kind_then : {K : Type 0} → Meaning K → K → List Request → K
kind_then m k [] = k
kind_then m k (r ∷ rs) = kind_then m (kind_after m k r.call) rs
