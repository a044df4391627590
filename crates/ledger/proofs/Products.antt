-- The size of a product of signed numbers.
use Rattle.std.proofs.Common.{◌≡◌, ℕ, ◌*◌, ◌≤◌, ℤ, pos, negsuc, ◌*ℤ◌, nat_abs, refl, arith}
use borrow.Author.Differences.{ints}
use Rattle.std.proofs.lemmas.Nat.{mul-le}

pub size_of_product : (a b : ℤ) → nat_abs (a *ℤ b) ≡ nat_abs a * nat_abs b
size_of_product (pos a) (pos b) = refl
size_of_product (pos a) (negsuc b) = omega (arith, ints)
size_of_product (negsuc a) (pos b) = omega (arith, ints)
size_of_product (negsuc a) (negsuc b) = refl

pub product_within : (a b : ℤ) (m n : ℕ) → nat_abs a ≤ m → nat_abs b ≤ n → nat_abs (a *ℤ b) ≤ m * n
product_within a b m n h k = omega (arith, size_of_product a b, mul-le (nat_abs a) (nat_abs b) m n h k)
