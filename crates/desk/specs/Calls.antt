-- What a record asks of a book.
use Rattle.std.specs.Prelude.{ℕ, List, Some, None, Ok, Err, Option, Result}
use Rattle.reader.specs.Entries.{Entry, opening, registration, trade, quotation, notice, marking, designation, expiry}
use Rattle.reader.specs.Readings.{part}
use Rattle.reader.specs.declared.fault.ReadFault.{ReadFault}
use Rattle.tally.specs.declared.rows.Identity.{Identity}
use Rattle.tally.specs.declared.call.Call.{Call}
use Rattle.tally.specs.declared.call.Call.TheVariants as call

-- a line as it was read: what it says, or its fault
abbrev pub Line : Type 0
Line = Result (Entry ℕ) ReadFault

-- an identity's bytes: customer 8, house 3, clearing member 3
abbrev pub identified : List ℕ → Identity
identified bytes = record { customer = part 0 8 bytes; house = part 8 3 bytes; member = part 11 3 bytes }

-- the call that a record makes; opening a book is none of a book's calls
abbrev pub call_in : Entry ℕ → Option Call
call_in (opening ticker month year sessions opens closes) = None
call_in (registration identity who) = Some (call.Register (record { identity = identified identity; residency = who }))
call_in (trade buyer seller price contracts) = Some (call.Trade (record { buyer = buyer; seller = seller; price = price; contracts = contracts }))
call_in (quotation price quantity) = Some (call.Quote (record { price = price; quantity = quantity }))
call_in (notice seller contracts) = Some (call.Notify (record { seller = seller; contracts = contracts }))
call_in (marking price rate) = Some (call.Mark (record { price = price; rate = rate }))
call_in designation = Some call.Designate
call_in expiry = Some call.Expire

-- the call that a line makes
abbrev pub call_of : Line → Option Call
call_of (Ok entry) = call_in entry
call_of (Err fault) = None
