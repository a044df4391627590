-- What a contract kind is, and what it owes.
use Rattle.std.specs.Prelude.{◌≡◌, ℕ, ◌≤◌, Bool, true, false, IfSome, is_ok, Some, None, Option}
use Rattle.money.specs.Ranges.{is_price}
use Rattle.money.specs.declared.currency.Currency.{Currency}
use Rattle.money.specs.Units.{PriceCents}
use Rattle.kinds.specs.declared.quotation.Quotation.{Quotation}
use Rattle.kinds.specs.Quotations.{Reply, quotable}

-- the cents of a price, where there is one
abbrev pub cents_of : Option PriceCents → Option ℕ
cents_of None = None
cents_of (Some p) = Some p.number

-- a kind whose states are K: what it answers and becomes, and the laws that every kind owes
pub record Meaning (K : Type 0) : Type 0 where
  -- how many units one contract is of
  pub size : K → ℕ
  -- what prices are counted in
  pub currency : K → Currency
  -- the step of the prices, in cents
  pub tick : K → ℕ
  -- whether it ends in delivery
  pub delivers : K → Bool
  -- the price that it ends at, in cents, once there is one
  pub final : K → Option ℕ
  -- what it says to a quotation: taken, or which of its refusals
  pub reply : K → Quotation → Reply
  -- the kind after a quotation, taken or not
  pub after : K → Quotation → K
  -- law: a contract is of 1 to 100 units
  pub sized : (k : K) → (1 ≤ size k) × (size k ≤ 100)
  -- law: the step is a cent or more
  pub ticked : (k : K) → 1 ≤ tick k
  -- law: a final price that exists is a price
  pub priced : (k : K) → IfSome (final k) (λ p. is_price p ≡ true)
  -- law: a refused quotation leaves the kind as it was
  pub unmoved : (k : K) (q : Quotation) → is_ok (reply k q) ≡ false → after k q ≡ k
  -- law: no quotation changes size, currency, tick and delivery
  pub stays : (k : K) (q : Quotation) → (size (after k q) ≡ size k) × (currency (after k q) ≡ currency k) × (tick (after k q) ≡ tick k) × (delivers (after k q) ≡ delivers k)
  -- law: what is taken is within the ranges
  pub fit : (k : K) (q : Quotation) → is_ok (reply k q) ≡ true → quotable q ≡ true
  -- law: what ends in delivery has no final price
  pub no_price : (k : K) → delivers k ≡ true → final k ≡ None
  -- law: what ends in delivery takes no quotation
  pub takes_none : (k : K) (q : Quotation) → delivers k ≡ true → is_ok (reply k q) ≡ false
