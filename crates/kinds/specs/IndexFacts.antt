-- Facts of the five places that their kind's laws rest on.
use Rattle.std.specs.Prelude.{◌≡◌, ℕ, zero, suc, ◌+◌, ◌<◌, ◌≤◌, min, Bool, true, false, cond, List, [], ◌∷◌, IfSome, is_ok, None, Ok, Err, sum, ◌==◌, nat_le, slice_index, refl}
use Rattle.std.proofs.Common.{sym, arith}
use Rattle.std.proofs.lemmas.Bool.{false≢true, and_parts, leb-true}
use Rattle.money.specs.Ranges.{is_price}
use Rattle.kinds.specs.declared.quotation.KindFault.{KindFault}
use Rattle.kinds.specs.declared.quotation.KindFault.TheVariants.{Unfit}
use Rattle.kinds.specs.declared.quotation.Quotation.{Quotation}
use Rattle.kinds.specs.Limits.{is_quantity}
use Rattle.kinds.specs.Quotations.{quotable}
use Rattle.kinds.specs.Means.{mean_price}
use Rattle.kinds.specs.MeanFacts.{priced_mean}
use Rattle.kinds.specs.Indexes.{is_index, FiveFit}

-- the oldest goes, and p comes last
abbrev pub shifted : List ℕ → ℕ → List ℕ
shifted xs p = slice_index xs 1 ∷ slice_index xs 2 ∷ slice_index xs 3 ∷ slice_index xs 4 ∷ p ∷ []

pub quotable_index : (q : Quotation) → is_index q ≡ true → quotable q ≡ true
quotable_index q e = (and_parts (quotable q) (q.quantity == 1) e).0

price_of : (q : Quotation) → is_index q ≡ true → is_price q.price ≡ true
price_of q e = (and_parts (is_price q.price) (is_quantity q.quantity) (quotable_index q e)).0

all_prices : (xs : List ℕ) (p : ℕ) → ((i : ℕ) → i < 5 → is_price (slice_index xs i) ≡ true) → is_price p ≡ true → (i : ℕ) → i < 5 → is_price (slice_index (shifted xs p) i) ≡ true
all_prices xs p f g zero h = f 1 (omega arith)
all_prices xs p f g (suc zero) h = f 2 (omega arith)
all_prices xs p f g (suc (suc zero)) h = f 3 (omega arith)
all_prices xs p f g (suc (suc (suc zero))) h = f 4 (omega arith)
all_prices xs p f g (suc (suc (suc (suc zero)))) h = g
all_prices xs p f g (suc (suc (suc (suc (suc i))))) h = absurd (omega (arith, h))

-- the places with one more index
pub one_more : (xs : List ℕ) (n : ℕ) (q : Quotation) → FiveFit xs n → is_index q ≡ true → FiveFit (shifted xs q.price) (min 5 (n + 1))
one_more xs n q f e = (refl, omega arith, all_prices xs q.price f.2 (price_of q e))

-- so they fit after any quotation
pub passed : (xs : List ℕ) (n : ℕ) (q : Quotation) → FiveFit xs n → FiveFit (cond (is_index q) (shifted xs q.price) xs) (cond (is_index q) (min 5 (n + 1)) n)
passed xs n q f = by_case (is_index q) refl
  where
    by_case : (b : Bool) → is_index q ≡ b → FiveFit (cond b (shifted xs q.price) xs) (cond b (min 5 (n + 1)) n)
    by_case true e = one_more xs n q f e
    by_case false e = f

pub not_taken : (b : Bool) → is_ok {T = Unit {0}} {E = KindFault} (cond b (Ok tt) (Err Unfit)) ≡ false → b ≡ false
not_taken true e = absurd (false≢true (sym e))
not_taken false e = refl

pub was_taken : (b : Bool) → is_ok {T = Unit {0}} {E = KindFault} (cond b (Ok tt) (Err Unfit)) ≡ true → b ≡ true
was_taken true e = refl
was_taken false e = absurd (false≢true e)

within : (p : ℕ) → is_price p ≡ true → (1 ≤ p) × (p ≤ 999999)
within p e = let f = and_parts (nat_le 1 p) (nat_le p 999999) e in (leb-true _ _ f.0, leb-true _ _ f.1)

-- the sum of five prices
pub sum_fits : (xs : List ℕ) (n : ℕ) → FiveFit xs n → (5 ≤ sum xs) × (sum xs ≤ 4999995)
sum_fits [] n f = absurd (omega (arith, f.0))
sum_fits (a ∷ []) n f = absurd (omega (arith, f.0))
sum_fits (a ∷ b ∷ []) n f = absurd (omega (arith, f.0))
sum_fits (a ∷ b ∷ c ∷ []) n f = absurd (omega (arith, f.0))
sum_fits (a ∷ b ∷ c ∷ d ∷ []) n f = absurd (omega (arith, f.0))
sum_fits (a ∷ b ∷ c ∷ d ∷ e ∷ []) n f =
    let v = within a (f.2 0 (omega arith)) in
    let w = within b (f.2 1 (omega arith)) in
    let x = within c (f.2 2 (omega arith)) in
    let y = within d (f.2 3 (omega arith)) in
    let z = within e (f.2 4 (omega arith)) in
    (omega arith, omega arith)
sum_fits (a ∷ b ∷ c ∷ d ∷ e ∷ g ∷ xs) n f = absurd (omega (arith, f.0))

pub priced_five : (xs : List ℕ) (n : ℕ) → FiveFit xs n → IfSome (cond (nat_le 5 n) (mean_price (sum xs) 5) None) (λ p. is_price p ≡ true)
priced_five xs n f = by_case (nat_le 5 n)
  where
    by_case : (b : Bool) → IfSome (cond b (mean_price (sum xs) 5) None) (λ p. is_price p ≡ true)
    by_case true = let s = sum_fits xs n f in priced_mean (sum xs) 5 s.0 (omega (arith, s))
    by_case false = tt
