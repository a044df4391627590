-- Facts of mean prices that the kinds' laws rest on.
use Rattle.std.specs.Prelude.{◌≡◌, ℕ, ◌+◌, ◌*◌, ◌<◌, ◌≤◌, Bool, true, false, cond, pos, IfSome, Some, None, ◌==◌, nat_le, refl}
use Rattle.std.proofs.Common.{⊎_elim, div-mul-le_self, mul-le-mul_right, arith}
use Rattle.std.proofs.Math.Nat.{lt-div-mul-add}
use Rattle.std.proofs.lemmas.Int.{ints}
use Rattle.std.proofs.lemmas.Bool.{cases_lt, and_from, le-leb, eqb-false}
use Rattle.money.specs.Nearest.{Nearest, nearest_size}
use Rattle.money.specs.Ranges.{is_price}
use Rattle.money.proofs.Rounding.{credit}
use Rattle.kinds.specs.Means.{mean_price}

-- the mean lies within half a unit of what it is the mean of
pub record Close (v w m : ℕ) : Type 0 where
  pub low : 2 * (m * w) ≤ 2 * v + w
  pub high : 2 * v < 2 * (m * w) + w

pub mean_close : (v w : ℕ) → 0 < w → Close v w (nearest_size v w)
mean_close v w some =
    let both : 0 < 2 * w = omega arith in
    let a = div-mul-le_self (2 * v + w) (2 * w) in
    let b = lt-div-mul-add {a = 2 * v + w} {b = 2 * w} both in
    record { low = omega (arith, a); high = omega (arith, b) }

pub mean_near : (v w : ℕ) → 0 < w → Nearest (pos v) w (pos (nearest_size v w))
mean_near v w some =
    let c = mean_close v w some in
    credit (pos v) w (nearest_size v w) some (omega (arith, ints)) refl c.high c.low

-- the mean of what lies between two bounds lies between them
pub least : (v w m bound : ℕ) → Close v w m → bound * w ≤ v → bound ≤ m
least v w m bound c h =
    ⊎_elim (λ (lt : m < bound). absurd (let g = mul-le-mul_right w lt in omega (arith, c.high, g))) (λ (le : bound ≤ m). le) (cases_lt m bound)

pub most : (v w m bound : ℕ) → Close v w m → v ≤ bound * w → m ≤ bound
most v w m bound c h =
    ⊎_elim (λ (lt : bound < m). absurd (let g = mul-le-mul_right w lt in omega (arith, c.high, c.low, g))) (λ (le : m ≤ bound). le) (cases_lt bound m)

-- a mean of prices is a price
pub mean_in_range : (v w : ℕ) → 0 < w → w ≤ v → v ≤ 999999 * w → is_price (nearest_size v w) ≡ true
mean_in_range v w some low high =
    let c = mean_close v w some in
    let m = nearest_size v w in
    and_from (nat_le 1 m) (nat_le m 999999) (le-leb 1 m (least v w m 1 c (omega arith))) (le-leb m 999999 (most v w m 999999 c high))

pub priced_mean : (v w : ℕ) → w ≤ v → v ≤ 999999 * w → IfSome (mean_price v w) (λ p. is_price p ≡ true)
priced_mean v w low high = by_case (w == 0) refl
  where
    by_case : (b : Bool) → (w == 0) ≡ b → IfSome (cond b None (Some (nearest_size v w))) (λ p. is_price p ≡ true)
    by_case true e = tt
    by_case false e = mean_in_range v w (omega (arith, eqb-false w 0 e)) low high
