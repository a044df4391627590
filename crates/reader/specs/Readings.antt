-- What a line is read as.
use Rattle.std.specs.Prelude.{ℕ, ◌+◌, Bool, cond, List, [], ◌∷◌, length, take, drop, Some, None, Ok, Err, Option, Result, ◌==◌, nat_lt, slice_index}
use Rattle.std.specs.Option.{ok_or}
use Rattle.std.specs.Str.Parse.{digits_value}
use Rattle.money.specs.declared.currency.Residency.{Residency}
use Rattle.money.specs.declared.currency.Residency.TheVariants.{Resident, Nonresident}
use Rattle.kinds.specs.declared.months.Ticker.{Ticker}
use Rattle.kinds.specs.declared.months.Ticker.TheVariants.{Arabica, MiniArabica, MiniCattle}
use Rattle.kinds.specs.Months.{code_of, listed_month}
use Rattle.reader.specs.declared.fault.ReadFault.{ReadFault}
use Rattle.reader.specs.declared.fault.ReadFault.TheVariants.{UnknownMark, Misfit, OutOfTurn, Unlisted}
use Rattle.reader.specs.declared.layout.Mark.{Mark}
use Rattle.reader.specs.declared.layout.Mark.TheVariants.{Opening, Registration, Trade, Quotation, Notice, Marking, Designation, Expiry}
use Rattle.reader.specs.Entries.{Entry, valued, opening, registration, trade, quotation, notice, marking, designation, expiry}
use Rattle.reader.specs.Layouts.{coded, fitting, layout, marked, out_of_turn}

-- a part of a line: from a place, so many bytes
abbrev pub part : ℕ → ℕ → List ℕ → List ℕ
part from width line = take width (drop from line)

-- R stands for a resident, N for a nonresident
abbrev pub residency_of : ℕ → Residency
residency_of letter = cond (letter == 82) Resident Nonresident

-- the ticker that three letters name
abbrev pub ticker_of : List ℕ → Option Ticker
ticker_of letters = coded code_of (Arabica ∷ MiniArabica ∷ MiniCattle ∷ []) letters

-- the opening of a book on a ticker, where the ticker lists the month
abbrev pub opening_in : Ticker → Option ℕ → List ℕ → Option (Entry (List ℕ))
opening_in ticker None line = None
opening_in ticker (Some month) line = Some (opening ticker month (part 6 2 line) (part 8 3 line) (part 11 3 line) (part 14 3 line))

-- the opening of a book, where the ticker is known and lists the letter of the month
abbrev pub opening_on : Option Ticker → List ℕ → Option (Entry (List ℕ))
opening_on None line = None
opening_on (Some ticker) line = opening_in ticker (listed_month ticker (slice_index line 5)) line

-- what a line that fits its mark's layout says, each field by its place and width and digits as their bytes; nothing of a contract that is not listed
abbrev pub written : Mark → List ℕ → Option (Entry (List ℕ))
written Opening line = opening_on (ticker_of (part 2 3 line)) line
written Registration line = Some (registration (part 2 14 line) (residency_of (slice_index line 16)))
written Trade line = Some (trade (part 2 2 line) (part 4 2 line) (part 6 6 line) (part 12 4 line))
written Quotation line = Some (quotation (part 2 6 line) (part 8 4 line))
written Notice line = Some (notice (part 2 2 line) (part 4 4 line))
written Marking line = Some (marking (part 2 6 line) (part 8 7 line))
written Designation line = Some designation
written Expiry line = Some expiry

-- a line that fits its layout is asked for its turn, then for its contract
abbrev pub asked_on : Bool → ℕ → List ℕ → Mark → Result (Entry (List ℕ)) ReadFault
asked_on opened at line mark = cond (out_of_turn opened mark) (Err (OutOfTurn at)) (ok_or (written mark line) (Unlisted at))

-- a line whose mark is known is asked for its layout first: the misfit is the first byte that does not fit, or the end
abbrev pub asked : Bool → ℕ → List ℕ → Mark → Result (Entry (List ℕ)) ReadFault
asked opened at line mark = cond (nat_lt (fitting mark line) (length (layout mark))) (Err (Misfit (at + 2 + fitting mark line))) (asked_on opened at line mark)

-- a line whose mark is unknown is asked nothing more
abbrev pub asked_of : Bool → ℕ → List ℕ → Option Mark → Result (Entry (List ℕ)) ReadFault
asked_of opened at line None = Err (UnknownMark at)
asked_of opened at line (Some mark) = asked opened at line mark

-- the line at a place of the input as it is written: its entry, or the first fault that applies
unfoldable pub spelling : Bool → ℕ → List ℕ → Result (Entry (List ℕ)) ReadFault
spelling opened at line = asked_of opened at line (marked line)

-- the same with each field of digits as a number
abbrev pub in_numbers : (List ℕ → ℕ) → Result (Entry (List ℕ)) ReadFault → Result (Entry ℕ) ReadFault
in_numbers number (Ok entry) = Ok (valued number entry)
in_numbers number (Err fault) = Err fault

-- what the line at a place of the input says, where a book has been opened or has not
unfoldable pub reading : Bool → ℕ → List ℕ → Result (Entry ℕ) ReadFault
reading opened at line = in_numbers (digits_value 10) (spelling opened at line)
