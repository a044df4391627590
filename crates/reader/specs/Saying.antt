-- What a record in hand says, and where its fields lie.
use Rattle.std.specs.Prelude.{◌≡◌, ℕ, List, length, Ok, Err, Result}
use Rattle.reader.specs.declared.fault.ReadFault.{ReadFault}
use Rattle.reader.specs.declared.record.Record.{Record}
use Rattle.reader.specs.declared.record.Content.{Content}
use Rattle.reader.specs.declared.record.Content.TheVariants.{Opening, Registration, Trade, Quotation, Notice, Marking, Designation, Expiry}
use Rattle.reader.specs.Entries.{Entry, opening, registration, trade, quotation, notice, marking, designation, expiry}
use Rattle.reader.specs.Fields.{number_of}
use Rattle.reader.specs.Readings.{in_numbers}

-- what a record says as it is written, each field of digits as its bytes
abbrev pub spelt_by : Content → Entry (List ℕ)
spelt_by (Opening ticker month year sessions opens closes) = opening ticker month year.bytes.now sessions.bytes.now opens.bytes.now closes.bytes.now
spelt_by (Registration identity who) = registration identity.bytes.now who
spelt_by (Trade buyer seller price contracts) = trade buyer.bytes.now seller.bytes.now price.bytes.now contracts.bytes.now
spelt_by (Quotation price quantity) = quotation price.bytes.now quantity.bytes.now
spelt_by (Notice seller contracts) = notice seller.bytes.now contracts.bytes.now
spelt_by (Marking price rate) = marking price.bytes.now rate.bytes.now
spelt_by Designation = designation
spelt_by Expiry = expiry

-- what came of a line, as it is written
abbrev pub spelt : Result Record ReadFault → Result (Entry (List ℕ)) ReadFault
spelt (Ok x) = Ok (spelt_by x.content)
spelt (Err fault) = Err fault

-- what came of a line says this
abbrev pub said : Result Record ReadFault → Result (Entry ℕ) ReadFault
said came = in_numbers number_of (spelt came)

-- a record that came has this place
abbrev pub Starts : ℕ → Result Record ReadFault → Type 0
Starts at (Ok x) = x.at ≡ at
Starts at (Err fault) = Unit {0}

-- an identity has its 14 bytes
abbrev pub Identified : Content → Type 0
Identified (Registration identity who) = length identity.bytes.now ≡ 14
Identified _ = Unit {0}

-- and so has a record that came
abbrev pub Whole : Result Record ReadFault → Type 0
Whole (Ok x) = Identified x.content
Whole (Err fault) = Unit {0}
