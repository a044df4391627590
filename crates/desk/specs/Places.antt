-- Records with their places, and what a reader has left.
use Rattle.std.specs.Prelude.{◌≡◌, ℕ, Bool, List, drop, Some, None, Option, Result}
use Rattle.reader.specs.Cuts.{lines}
use Rattle.reader.specs.Steps.{Next, Stepped}
use Rattle.reader.specs.declared.fault.ReadFault.{ReadFault}
use Rattle.reader.specs.declared.reading.Reader.{Reader}
use Rattle.reader.specs.declared.record.Record.{Record}
use Rattle.desk.specs.declared.place.Place.{Place}
use Rattle.desk.specs.declared.records.Records.{Records}

-- the lines that a reader has left
abbrev pub lines_left : Reader → List (List ℕ)
lines_left r = lines (drop r.at r.input.now)

-- a reader has read on past the record at a place, and this came of it
pub record ReadOn (opened : Bool) (old : Reader) (p : Place) (came : Result Record ReadFault) (new : Reader) : Type 0 where
  pub stepped : Stepped opened old.input.now old.at old.number came new.at new.number
  pub same : new.input.now ≡ old.input.now
  pub number : p.number ≡ new.number
  pub start : p.start ≡ old.at

-- a reader that has come to the end
pub record AtEnd (opened : Bool) (old new : Reader) : Type 0 where
  pub over : Next opened old.input.now old.at old.number None new.at new.number
  pub same : new.input.now ≡ old.input.now

-- what a step of the records of a reader gives
abbrev pub next_record : {n : ℕ} → Bool → Records n → Option (Place × Result Record ReadFault) → Records n → Type 0
next_record opened old None new = AtEnd opened old.0 new.0
next_record opened old (Some x) new = ReadOn opened old.0 x.0 x.1 new.0
