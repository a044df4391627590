-- What was bought was sold: contract for contract, and price for price.
use Rattle.std.proofs.Common.{◌≡◌, ℕ, ◌*◌, length, sum_by}
use Rattle.std.specs.List.{AllByRecursion}
use Rattle.tally.specs.Book.{Posting, Tally}
use Rattle.tally.specs.Law.{Registered}

-- the contracts of a posting, and their prices
abbrev pub contracts : Posting → ℕ
contracts p = p.contracts

abbrev pub worth_of : Posting → ℕ
worth_of p = p.price * p.contracts

pub record Balanced (t : Tally) : Type 0 where
  pub buyers : AllByRecursion (λ p. Registered (length t.parties) p.holder) t.bought
  pub sellers : AllByRecursion (λ p. Registered (length t.parties) p.holder) t.sold
  pub traders : AllByRecursion (λ w. Registered (length t.parties) w.buyer × Registered (length t.parties) w.seller) t.waiting
  pub evenly : sum_by contracts t.bought ≡ sum_by contracts t.sold
  pub values : sum_by worth_of t.bought ≡ sum_by worth_of t.sold
