-- A worked line: five indexes, and the price that they end at.
use Rattle.std.specs.Prelude.{◌≡◌, ℕ, List, [], ◌∷◌, map, Some}
use Rattle.kinds.specs.declared.indexes.LastFive.{LastFive}
use Rattle.kinds.specs.declared.quotation.Quotation.{Quotation}
use Rattle.kinds.specs.Quoted.{Obeys, state}
use Rattle.kinds.specs.Indexes.{index_rule, IndexPrice}
use Rattle.kinds.specs.Indexing.{five}

-- prices quoted as indexes
abbrev pub indexes : List ℕ → List Quotation
indexes ps = map (λ p. record { price = p; quantity = 1 }) ps

-- five indexes that come one after the other
abbrev pub worked : List ℕ
worked = 5500 ∷ 5510 ∷ 5520 ∷ 5530 ∷ 5541 ∷ []

-- any kind that obeys the rule is at 5,520 after them: 27,601 over 5 is nearest to it
abbrev pub WorkedLine : Type 0
WorkedLine = (k : LastFive) → Obeys five k index_rule IndexPrice → five.final (state five k (indexes worked)) ≡ Some 5520
