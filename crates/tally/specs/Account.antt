-- One account, by the prices of its contracts: a list has one price for each contract, in the order in which they were counted.
use Rattle.std.specs.Prelude.{ℕ, min, List, [], ◌∷◌, length, take, drop, ℤ, pos, ◌+ℤ◌, ◌-ℤ◌, ◌*ℤ◌, sum}
use borrow.Author.Differences.{up, down}

-- the greater of 0 and a number of contracts, and of 0 and its opposite
abbrev pub long : ℤ → ℕ
long z = up z

abbrev pub short : ℤ → ℕ
short z = down z

-- contracts bought less contracts sold
unfoldable pub net : List ℕ → List ℕ → ℤ
net bought sold = pos (length bought) -ℤ pos (length sold)

-- what a position has brought: size × (carried × price + the prices of all contracts sold − those of all bought)
unfoldable pub position : ℕ → ℕ → List ℕ → List ℕ → ℤ
position size price bought sold = pos size *ℤ (((net bought sold *ℤ pos price) +ℤ pos (sum sold)) -ℤ pos (sum bought))

-- how far a price lies above each of others, summed
unfoldable pub above : ℕ → List ℕ → ℤ
above p [] = pos 0
above p (x ∷ xs) = (pos p -ℤ pos x) +ℤ above p xs

-- how many contracts of a day offset one another
unfoldable pub offset : List ℕ → List ℕ → ℕ
offset bought sold = min (length bought) (length sold)

-- the day trade: the earliest contracts offset first
unfoldable pub day_trade : ℕ → List ℕ → List ℕ → ℤ
day_trade size bought sold = pos size *ℤ (pos (sum (take (offset bought sold) sold)) -ℤ pos (sum (take (offset bought sold) bought)))

-- the variation margin: carried contracts from the price before, those left of the day from the price that they were traded at
unfoldable pub margin : ℕ → ℤ → ℕ → ℕ → List ℕ → List ℕ → ℤ
margin size carried before price bought sold = pos size *ℤ (((carried *ℤ (pos price -ℤ pos before)) +ℤ above price (drop (offset bought sold) bought)) -ℤ above price (drop (offset bought sold) sold))
