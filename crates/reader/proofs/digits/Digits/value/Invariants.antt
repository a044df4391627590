use Rattle.std.proofs.Common.{◌≡◌, take}
use Rattle.std.specs.Str.Parse.{AllDigits, digits_value}
use Rattle.reader.proofs.digits.Digits.value.Given as goal

-- the digits so far are read
abbrev pub invariant-loop-b : goal.invariant-loop-b
invariant-loop-b l = record {
  digits : AllDigits 10 (take l.b-index l.self.bytes.now);
  value : l.n ≡ digits_value 10 (take l.b-index l.self.bytes.now);
}
