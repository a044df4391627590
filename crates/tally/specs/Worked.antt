-- Nine worked lines, over the definitions that the contracts cite.
use Rattle.std.specs.Prelude.{◌≡◌, ℕ, true, false, [], ◌∷◌, length, pos, negsuc, Some, None, nat_le}
use Rattle.money.specs.Pays.{payment, payment_of}
use Rattle.money.specs.Ranges.{is_rate}
use Rattle.money.specs.declared.currency.Currency.TheVariants.{Real, Dollar}
use Rattle.money.specs.declared.currency.Residency.TheVariants.{Resident, Nonresident}
use Rattle.kinds.specs.Worked.{WorkedLine}
use Rattle.tally.specs.declared.refusal.Refusal.TheVariants.{Unpriced}
use Rattle.tally.specs.declared.rows.Lot.{Lot}
use Rattle.tally.specs.Book.{Terms, View}
use Rattle.tally.specs.Events.{Event, marking}
use Rattle.tally.specs.Questions.{is_due, verdict}
use Rattle.tally.specs.Refusals.{refusal_number}
use Rattle.tally.specs.Steps.{less_lots}

-- a lot by its owner, its session and its count
abbrev pub lot : ℕ → ℕ → ℕ → Lot
lot owner session count = record { owner = owner; session = session; count = count }

-- a marking at a price and a rate, with so many page rows
abbrev pub marked_at : ℕ → ℕ → ℕ → Event
marked_at price rate room = marking (record { price = price; rate = rate }) room

-- an open book with no notice due, a rate in range and a page for all accounts: only the price is left to ask about
pub record PriceAsked (c : Terms) (v : View) (rate room : ℕ) : Type 0 where
  pub open_session : nat_le v.session c.last ≡ true
  pub none_due : is_due v.session v.notices ≡ false
  pub rated : is_rate rate ≡ true
  pub paged : nat_le (length v.accounts) room ≡ true

pub record WorkedLines : Type 0 where
  -- 1,500 and −1,500 US cents into reais at 2.153700
  pub credit_into_reais : payment_of (pos 1500) Dollar Resident 2153700 ≡ payment (pos 3231) (pos 450000) true
  pub debit_into_reais : payment_of (negsuc 1499) Dollar Resident 2153700 ≡ payment (negsuc 3230) (negsuc 449999) true
  -- half a centavo goes away from zero, and less than half goes
  pub half_a_centavo : payment_of (pos 1) Dollar Resident 500000 ≡ payment (pos 1) (pos 500000) true
  pub less_than_half : payment_of (pos 1) Dollar Resident 499999 ≡ payment (pos 0) (negsuc 499998) true
  -- 100 centavos into dollars at 3, and 3 at 2
  pub third_into_dollars : payment_of (pos 100) Real Nonresident 3000000 ≡ payment (pos 33) (negsuc 999999) true
  pub halves_into_dollars : payment_of (pos 3) Real Nonresident 2000000 ≡ payment (pos 2) (pos 1000000) true
  -- the five indexes 5,500 5,510 5,520 5,530 5,541 end at 5,520
  pub five_indexes : WorkedLine
  -- a marking at 999,999 passes, and one at 1,000,000 is refused for its price, number 7
  pub greatest_price : (c : Terms) (v : View) (rate room : ℕ) → PriceAsked c v rate room → verdict c v (marked_at 999999 rate room) ≡ None
  pub price_too_great : (c : Terms) (v : View) (rate room : ℕ) → PriceAsked c v rate room → (verdict c v (marked_at 1000000 rate room) ≡ Some Unpriced) × (refusal_number Unpriced ≡ 7)
  -- six contracts less of account 1: its first lot goes, and its second keeps one
  pub aged_lots : less_lots 1 6 (lot 1 1 5 ∷ lot 2 1 4 ∷ lot 1 2 2 ∷ []) ≡ lot 2 1 4 ∷ lot 1 2 1 ∷ []
