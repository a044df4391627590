-- Mean prices.
use Rattle.std.specs.Prelude.{ℕ, ◌<◌, ◌≤◌, cond, List, length, pos, Some, None, Option, MatchOption, ◌==◌}
use Rattle.money.specs.Nearest.{Nearest, nearest_size}
use Rattle.kinds.specs.declared.quotation.Quotation.{Quotation}

-- no price before so many quotations are taken; from then on the value over the quantity, to the nearest cent, a half upward
-- (a half goes away from zero, and no value is below zero)
abbrev pub MeanFrom : ℕ → List Quotation → ℕ → ℕ → Option ℕ → Type 0
MeanFrom first done value quantity o =
    MatchOption o (length done < first) (λ p. (first ≤ length done) × Nearest (pos value) quantity (pos p))

-- the same as a number: no price of no quantity
abbrev pub mean_price : ℕ → ℕ → Option ℕ
mean_price value quantity = cond (quantity == 0) None (Some (nearest_size value quantity))
