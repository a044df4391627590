-- Amounts of a side by what was read of it.
use Rattle.std.proofs.Common.{◌≡◌, ℕ, ◌*◌, List, length, pos, ◌-ℤ◌, sum, ap, ◌∙◌, arith}
use borrow.Author.Differences.{same_in, ints}
use Rattle.tally.specs.Account.{above}
use Rattle.tally.proofs.Positions.{above_is}

-- how far a price lies above others, by their number and their sum
pub above_sum : (p : ℕ) (xs : List ℕ) {n v : ℕ} → n ≡ length xs → v ≡ sum xs → pos (p * n) -ℤ pos v ≡ above p xs
above_sum p xs {n} {v} en ev =
    ap (λ (i : ℕ). pos (p * i) -ℤ pos v) en ∙ ap (λ (i : ℕ). pos (p * length xs) -ℤ pos i) ev ∙ same_in _ _ (omega (arith, ints, above_is p xs))
