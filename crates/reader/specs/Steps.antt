-- What one step of a reader gives.
use Rattle.std.specs.Prelude.{◌≡◌, ℕ, ◌+◌, ◌<◌, Bool, List, [], ◌∷◌, length, take, drop, Some, None, Option, Result}
use Rattle.reader.specs.declared.fault.ReadFault.{ReadFault}
use Rattle.reader.specs.declared.record.Record.{Record}
use Rattle.reader.specs.Cuts.{lines}
use Rattle.reader.specs.Readings.{reading, spelling}
use Rattle.reader.specs.Saying.{said, spelt, Starts, Whole}

-- from the place at to the place at' of the input s, past one line, with what came of it
pub record Stepped (opened : Bool) (s : List ℕ) (at number : ℕ) (came : Result Record ReadFault) (at' number' : ℕ) : Type 0 where
  -- the line is the first of those that are left
  pub line : List ℕ
  pub first : lines (drop at s) ≡ line ∷ lines (drop at' s)
  pub lies : line ≡ take (length line) (drop at s)
  pub filled : 0 < length line
  -- what came says what the line is read as
  pub says : said came ≡ reading opened at line
  -- its fields are the line's parts, and its place is the line's
  pub parts : spelt came ≡ spelling opened at line
  pub starts : Starts at came
  pub whole : Whole came
  -- reading goes on behind the line, and the record is counted
  pub onward : at' ≡ at + length line
  pub counted : number' ≡ number + 1

-- a reader at the end stays there, and any other takes a line
abbrev pub Next : Bool → List ℕ → ℕ → ℕ → Option (Result Record ReadFault) → ℕ → ℕ → Type 0
Next opened s at number None at' number' = (lines (drop at s) ≡ []) × (at' ≡ at) × (number' ≡ number)
Next opened s at number (Some came) at' number' = Stepped opened s at number came at' number'
