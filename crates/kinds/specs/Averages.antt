-- The contract that ends at a weighted average, in the words of the trade: over the quotations taken.
use Rattle.std.specs.Prelude.{ℕ, ◌+◌, ◌*◌, ◌≤◌, cond, List, Ok, Err, sum_by, nat_le}
use Rattle.kinds.specs.declared.quotation.KindFault.TheVariants.{Unfit, Full}
use Rattle.kinds.specs.declared.quotation.Quotation.{Quotation}
use Rattle.kinds.specs.Quotations.{Reply, quotable}
use Rattle.kinds.specs.Quoted.{Rule, Pricing}
use Rattle.kinds.specs.Means.{MeanFrom}

-- the quantity of all together
abbrev pub quantities : List Quotation → ℕ
quantities qs = sum_by (λ q. q.quantity) qs

-- the value of all together: each price times its quantity
abbrev pub values : List Quotation → ℕ
values qs = sum_by (λ q. q.price * q.quantity) qs

-- one within the ranges is taken, unless it would take the quantity so far above 1,000,000
abbrev pub average_reply : ℕ → Quotation → Reply
average_reply so_far q = cond (quotable q) (cond (nat_le (so_far + q.quantity) 1000000) (Ok tt) (Err Full)) (Err Unfit)

-- where the quantity so far is that of all that were taken
abbrev pub average_rule : Rule
average_rule done q = average_reply (quantities done) q

-- the price is the mean of all that were taken, each weighing its quantity, from the first on
abbrev pub AveragePrice : Pricing
AveragePrice done o = MeanFrom 1 done (values done) (quantities done) o

-- the value and the quantity that quotations taken can come to
abbrev pub SumsFit : ℕ → ℕ → Type 0
SumsFit value quantity = (quantity ≤ 1000000) × (quantity ≤ value) × (value ≤ 999999 * quantity)
