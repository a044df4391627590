-- Facts of the average's two sums that its laws rest on.
use Rattle.std.specs.Prelude.{◌≡◌, ℕ, ◌+◌, ◌*◌, ◌≤◌, Bool, true, false, cond, is_ok, Ok, Err, nat_le, refl}
use Rattle.std.proofs.Common.{sym, add-zero, mul-le-mul_right, arith}
use Rattle.std.proofs.lemmas.Bool.{false≢true, and_parts, leb-true}
use Rattle.money.specs.Ranges.{is_price}
use Rattle.kinds.specs.declared.quotation.KindFault.{KindFault}
use Rattle.kinds.specs.declared.quotation.KindFault.TheVariants.{Unfit, Full}
use Rattle.kinds.specs.declared.quotation.Quotation.{Quotation}
use Rattle.kinds.specs.Limits.{is_quantity}
use Rattle.kinds.specs.Quotations.{quotable}
use Rattle.kinds.specs.Averages.{average_reply, SumsFit}

-- what a quotation within the ranges has
pub record Ranged (q : Quotation) : Type 0 where
  pub one : 1 ≤ q.price
  pub top : q.price ≤ 999999
  pub some : 1 ≤ q.quantity
  pub few : q.quantity ≤ 3000

pub ranged : (q : Quotation) → quotable q ≡ true → Ranged q
ranged q e =
    let f = and_parts (is_price q.price) (is_quantity q.quantity) e in
    let p = and_parts (nat_le 1 q.price) (nat_le q.price 999999) f.0 in
    let n = and_parts (nat_le 1 q.quantity) (nat_le q.quantity 3000) f.1 in
    record { one = leb-true _ _ p.0; top = leb-true _ _ p.1; some = leb-true _ _ n.0; few = leb-true _ _ n.1 }

-- what a quotation that is taken has
pub record Taken (w : ℕ) (q : Quotation) : Type 0 where
  pub fits : quotable q ≡ true
  pub room : w + q.quantity ≤ 1000000

both : (x y : Bool) → is_ok {T = Unit {0}} {E = KindFault} (cond x (cond y (Ok tt) (Err Full)) (Err Unfit)) ≡ true → (x ≡ true) × (y ≡ true)
both true true e = (refl, refl)
both true false e = absurd (false≢true e)
both false y e = absurd (false≢true e)

pub was_taken : (w : ℕ) (q : Quotation) → is_ok (average_reply w q) ≡ true → Taken w q
was_taken w q e =
    let b = both (quotable q) (nat_le (w + q.quantity) 1000000) e in
    record { fits = b.0; room = leb-true _ _ b.1 }

-- what a quotation adds to a sum: n where it is taken
abbrev pub added : ℕ → Quotation → ℕ → ℕ
added w q n = cond (is_ok (average_reply w q)) n 0

-- the sums with one more that is taken
pub one_more : (v w : ℕ) (q : Quotation) → SumsFit v w → Taken w q → SumsFit (v + q.price * q.quantity) (w + q.quantity)
one_more v w q s t =
    let r = ranged q t.fits in
    let a = mul-le-mul_right q.quantity r.one in
    let b = mul-le-mul_right q.quantity r.top in
    (t.room, omega (arith, s, a), omega (arith, s, b))

-- so they fit after any quotation
pub grown : (v w : ℕ) (q : Quotation) → SumsFit v w → SumsFit (v + added w q (q.price * q.quantity)) (w + added w q q.quantity)
grown v w q s = by_case (is_ok (average_reply w q)) refl
  where
    by_case : (b : Bool) → is_ok (average_reply w q) ≡ b → SumsFit (v + cond b (q.price * q.quantity) 0) (w + cond b q.quantity 0)
    by_case true e = one_more v w q s (was_taken w q e)
    by_case false e = (omega (arith, s), omega (arith, s), omega (arith, s))

-- a sum to which nothing is added
pub none_added : (b : Bool) (m n : ℕ) → b ≡ false → m + cond b n 0 ≡ m
none_added true m n e = absurd (false≢true (sym e))
none_added false m n e = add-zero m
