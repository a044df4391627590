-- The number and the place that each fault is reported under.
use Rattle.std.specs.Prelude.{ℕ}
use Rattle.reader.specs.declared.fault.ReadFault.{ReadFault}
use Rattle.reader.specs.declared.fault.ReadFault.TheVariants.{UnknownMark, Misfit, OutOfTurn, Unlisted}

-- the number of a fault
abbrev pub fault_number : ReadFault → ℕ
fault_number (UnknownMark place) = 24
fault_number (Misfit place) = 25
fault_number (OutOfTurn place) = 26
fault_number (Unlisted place) = 27

-- the byte of the input that a fault names
abbrev pub fault_place : ReadFault → ℕ
fault_place (UnknownMark place) = place
fault_place (Misfit place) = place
fault_place (OutOfTurn place) = place
fault_place (Unlisted place) = place
