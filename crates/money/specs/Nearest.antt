-- Rounding to a whole number.
use Rattle.std.specs.Prelude.{◌≡◌, ℕ, suc, ◌+◌, ◌*◌, ◌/◌, ◌<◌, ◌≤◌, ℤ, pos, negsuc, ◌-ℤ◌, ◌*ℤ◌, neg_ℤ, unsigned_abs}

-- how far q wholes of d are from n
abbrev pub off : ℤ → ℕ → ℤ → ℕ
off n d q = unsigned_abs (q *ℤ pos d -ℤ n)

-- q is the whole number nearest to n / d: no other is nearer, and of two as near it is the one away from zero
pub record Nearest (n : ℤ) (d : ℕ) (q : ℤ) : Type 0 where
  pub near : (k : ℤ) → off n d q ≤ off n d k
  pub tie : (k : ℤ) → off n d k ≡ off n d q → unsigned_abs k ≤ unsigned_abs q

-- the nearest whole number to a / d where neither is negative, a half upward
abbrev pub nearest_size : ℕ → ℕ → ℕ
nearest_size a d = (2 * a + d) / (2 * d)

-- the same for either sign, a half away from zero
unfoldable pub nearest : ℤ → ℕ → ℤ
nearest (pos a) d = pos (nearest_size a d)
nearest (negsuc a) d = neg_ℤ (pos (nearest_size (suc a) d))

-- of any number and any unit there is one nearest whole number, and the formula gives it
pub record NearestLaw : Type 0 where
  pub formula : (n : ℤ) (d : ℕ) → 0 < d → Nearest n d (nearest n d)
  pub unique : (n : ℤ) (d : ℕ) (p q : ℤ) → 0 < d → Nearest n d p → Nearest n d q → p ≡ q
  pub half : (n : ℤ) (d : ℕ) (q : ℤ) → 0 < d → Nearest n d q → 2 * off n d q ≤ d
