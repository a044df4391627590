-- Rounding: a number within half a unit, and past n at a half, is the nearest; and the nearest is one.
-- Assumes nothing.
use Rattle.std.proofs.Common.{◌≡◌, ℕ, zero, suc, ◌+◌, ◌*◌, ◌<◌, ◌≤◌, ℤ, pos, negsuc, ◌+ℤ◌, ◌-ℤ◌, ◌*ℤ◌, neg_ℤ, nat_abs, ◌≤ℤ◌, ◌<ℤ◌, sym, refl, ap, ⊎_elim, mul-le-mul_right, add-mul, div-mul-le_self, arith}
use native.Mathlib.Nat.{lt-div-mul-add}
use lib.IntN.{ℤ_discrete, suc_ℤ, pred_ℤ, suc_ℤ-*ℤ, pred_ℤ-*ℤ}
use borrow.Author.Differences.{up, down, ints}
use Rattle.std.proofs.lemmas.Int.{by_lt_z}
use Rattle.std.proofs.lemmas.Bool.{cases_lt}
use Rattle.money.specs.Nearest.{Nearest, NearestLaw, nearest, nearest_size, off}

-- k below q: k units and one more are at most q units
step : (k q : ℤ) (d : ℕ) → k <ℤ q → (k *ℤ pos d +ℤ pos d) ≤ℤ (q *ℤ pos d)
step k q d h =
    let a : (up k + down q + 1) * d ≤ (up q + down k) * d = mul-le-mul_right d (omega (arith, ints)) in
    omega (arith, ints, add-mul (up k + down q) 1 d, add-mul (up k) (down q) d, add-mul (up q) (down k) d, a)

-- two wholes that differ are a unit apart: one of them is half a unit or more from n
apart : (n k q : ℤ) (d : ℕ) → (k ≡ q → ⊥) → d ≤ off n d k + off n d q
apart n k q d h =
    by_lt_z k q
    (λ lt. let s = step k q d lt in omega (arith, ints))
    (λ le. let s = step q k d (omega (arith, ints)) in omega (arith, ints))

-- the size of a product
pub size : (k : ℤ) (d : ℕ) → nat_abs (k *ℤ pos d) ≡ nat_abs k * d
size (pos a) d = refl
size (negsuc a) d = omega (arith, ints)

-- within half a unit, and past n at a half
pub close : (n : ℤ) (d : ℕ) (q : ℤ) → 0 < d → 2 * off n d q ≤ d → (2 * off n d q ≡ d → nat_abs n ≤ nat_abs q * d) → Nearest n d q
close n d q some half past = record { near = nearer; tie = past_all }
  where
    nearer : (k : ℤ) → off n d q ≤ off n d k
    nearer k = elim (ℤ_discrete k q) [ yes e ↦ omega (arith, ap (off n d) e) | no ne ↦ omega (arith, apart n k q d ne) ]

    beyond : (k : ℤ) → off n d k ≡ off n d q → (k ≡ q → ⊥) → nat_abs q < nat_abs k → ⊥
    beyond k e ne big =
        let p : nat_abs n ≤ nat_abs q * d = past (omega (arith, apart n k q d ne)) in
        let m : (nat_abs q + 1) * d ≤ nat_abs k * d = mul-le-mul_right d (omega arith) in
        omega (arith, ints, size k d, add-mul (nat_abs q) 1 d, m)

    past_all : (k : ℤ) → off n d k ≡ off n d q → nat_abs k ≤ nat_abs q
    past_all k e =
        elim (ℤ_discrete k q) [
          | yes s ↦ omega (arith, ap nat_abs s)
          | no ne ↦ ⊎_elim (λ (big : nat_abs q < nat_abs k). absurd (beyond k e ne big)) (λ h. h) (cases_lt (nat_abs q) (nat_abs k))
        ]

-- two as large and as far from n that differ are opposite, so n is 0, and 0 is nearer
opposite : (n : ℤ) (d : ℕ) (p q : ℤ) → 0 < d → off n d p ≡ off n d q → nat_abs p ≡ nat_abs q → (p ≡ q → ⊥) → off n d p ≤ off n d (pos 0) → ⊥
opposite n d (pos a) (pos b) some e s ne z = ne (ap pos s)
opposite n d (negsuc a) (negsuc b) some e s ne z = ne (ap negsuc (omega arith))
opposite n d (pos a) (negsuc b) some e s ne z =
    let m : a * d ≡ suc b * d = ap (λ (x : ℕ). x * d) s in
    let one : 1 * d ≤ suc b * d = mul-le-mul_right d (omega arith) in
    omega (arith, ints)
opposite n d (negsuc a) (pos b) some e s ne z =
    let m : suc a * d ≡ b * d = ap (λ (x : ℕ). x * d) s in
    let one : 1 * d ≤ suc a * d = mul-le-mul_right d (omega arith) in
    omega (arith, ints)

-- the nearest is one
pub unique : (n : ℤ) (d : ℕ) (p q : ℤ) → 0 < d → Nearest n d p → Nearest n d q → p ≡ q
unique n d p q some hp hq =
    let e : off n d p ≡ off n d q = omega (arith, hp.near q, hq.near p) in
    let s : nat_abs p ≡ nat_abs q = omega (arith, hp.tie q (sym e), hq.tie p e) in
    elim (ℤ_discrete p q) [ yes same ↦ same | no ne ↦ absurd (opposite n d p q some e s ne (hp.near (pos 0))) ]

-- a place that is no nearer to n one unit up and one down is within half a unit
halved : (x n : ℤ) (d : ℕ) → 0 < d → nat_abs (x -ℤ n) ≤ nat_abs ((x +ℤ pos d) -ℤ n) → nat_abs (x -ℤ n) ≤ nat_abs ((x -ℤ pos d) -ℤ n) → 2 * nat_abs (x -ℤ n) ≤ d
halved x n d some more less = omega (arith, ints)

-- so the nearest is at most half a unit away
pub within : (n : ℤ) (d : ℕ) (q : ℤ) → 0 < d → Nearest n d q → 2 * off n d q ≤ d
within n d q some h =
    halved (q *ℤ pos d) n d some
    (rw (suc_ℤ-*ℤ q (pos d)) at (h.near (suc_ℤ q)))
    (rw (pred_ℤ-*ℤ q (pos d)) at (h.near (pred_ℤ q)))

-- q has n's sign, and its size is the size of n in wholes of d, a half upward
pub credit : (n : ℤ) (d m : ℕ) {q : ℤ} → 0 < d → pos 0 ≤ℤ n → q ≡ pos m → 2 * nat_abs n < 2 * (m * d) + d → 2 * (m * d) ≤ 2 * nat_abs n + d → Nearest n d q
credit n d m {q} some above e low high = rw e (close n d (pos m) some (omega (arith, ints)) (λ t. omega (arith, ints)))

negated : (m d : ℕ) → neg_ℤ (pos m) *ℤ pos d ≡ neg_ℤ (pos (m * d))
negated zero d = omega (arith, ints)
negated (suc m) d = refl

pub debit : (n : ℤ) (d m : ℕ) {q : ℤ} → 0 < d → n ≤ℤ pos 0 → q ≡ neg_ℤ (pos m) → 2 * nat_abs n < 2 * (m * d) + d → 2 * (m * d) ≤ 2 * nat_abs n + d → Nearest n d q
debit n d m {q} some below e low high =
    let s : nat_abs (neg_ℤ (pos m)) ≡ m = omega (arith, ints) in
    rw e (close n d (neg_ℤ (pos m)) some (omega (arith, ints, negated m d)) (λ t. rw s (omega (arith, ints, negated m d))))

-- a quotient by twice the unit is the size of the nearest, a half upward
size_low : (a d : ℕ) → 0 < d → 2 * a < 2 * (nearest_size a d * d) + d
size_low a d some =
    let pd : 0 < 2 * d = omega arith in
    omega (arith, lt-div-mul-add {a = 2 * a + d} {b = 2 * d} pd)

size_high : (a d : ℕ) → 2 * (nearest_size a d * d) ≤ 2 * a + d
size_high a d = omega (arith, div-mul-le_self (2 * a + d) (2 * d))

-- the formula gives the nearest
pub formula : (n : ℤ) (d : ℕ) → 0 < d → Nearest n d (nearest n d)
unfolding nearest
formula (pos a) d some = credit (pos a) d (nearest_size a d) some (omega (arith, ints)) refl (size_low a d some) (size_high a d)
formula (negsuc a) d some = debit (negsuc a) d (nearest_size (suc a) d) some (omega (arith, ints)) refl (size_low (suc a) d some) (size_high (suc a) d)

-- a whole number of units is its own nearest
pub exact : (z : ℤ) (d : ℕ) → 0 < d → Nearest (z *ℤ pos d) d z
exact z d some =
    let none : off (z *ℤ pos d) d z ≡ 0 = omega (arith, ints) in
    close (z *ℤ pos d) d z some (omega arith) (λ e. absurd (omega arith))

pub nearest_law : NearestLaw
nearest_law = record { formula = formula; unique = unique; half = within }
