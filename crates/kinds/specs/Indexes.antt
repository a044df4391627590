-- The contract that ends at the mean of its last five indexes, in the words of the trade: over the quotations taken.
use Rattle.std.specs.Prelude.{◌≡◌, ℕ, ◌-◌, ◌<◌, ◌≤◌, Bool, true, cond, ◌&&◌, List, map, length, drop, Ok, Err, sum, ◌==◌, slice_index}
use Rattle.money.specs.Ranges.{is_price}
use Rattle.kinds.specs.declared.quotation.KindFault.TheVariants.{Unfit}
use Rattle.kinds.specs.declared.quotation.Quotation.{Quotation}
use Rattle.kinds.specs.Quotations.{quotable}
use Rattle.kinds.specs.Quoted.{Rule, Pricing}
use Rattle.kinds.specs.Means.{MeanFrom}

-- one index: a price within its range, with quantity 1
abbrev pub is_index : Quotation → Bool
is_index q = quotable q && q.quantity == 1

-- an index is taken, and nothing else
abbrev pub index_rule : Rule
index_rule done q = cond (is_index q) (Ok tt) (Err Unfit)

-- the prices of quotations
abbrev pub prices : List Quotation → List ℕ
prices qs = map (λ q. q.price) qs

-- the last five of a list
abbrev pub last_five : List ℕ → List ℕ
last_five ps = drop (length ps - 5) ps

-- the price is the mean of the last five that were taken, from the fifth on
abbrev pub IndexPrice : Pricing
IndexPrice done o = MeanFrom 5 done (sum (last_five (prices done))) 5 o

-- five places with a price in each, and how many of them indexes have filled
abbrev pub FiveFit : List ℕ → ℕ → Type 0
FiveFit last held = (length last ≡ 5) × (held ≤ 5) × ((i : ℕ) → i < 5 → is_price (slice_index last i) ≡ true)
