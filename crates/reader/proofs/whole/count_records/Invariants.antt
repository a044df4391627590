use Rattle.std.proofs.Common.{◌≡◌, ◌+◌, ◌-◌, length, drop}
use Rattle.reader.specs.Cuts.{lines}
use Rattle.reader.proofs.whole.count_records.Given as goal

abbrev pub invariant-loop : goal.invariant-loop
invariant-loop l = (l.reader.input.now ≡ l.input) × (l.reader.number + length (lines (drop l.reader.at l.input)) ≡ length (lines l.input))

abbrev pub decreases-loop : goal.decreases-loop
decreases-loop l = length l.reader.input.now - l.reader.at
