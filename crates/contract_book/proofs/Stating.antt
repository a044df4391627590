-- The law of the book at hand.
use Rattle.std.proofs.Common.{◌≡◌, subst}
use mathlib.Core.Logic.{∥∥₁_map}
use Rattle.tally.specs.Book.{Terms}
use Rattle.tally.proofs.Law.{settled}
use Rattle.ledger.specs.declared.state.Ledger.{Ledger}
use Rattle.ledger.specs.Ledgers.{view, terms_of}
use Rattle.ledger.specs.Reached.{Reached}
use Rattle.contract_book.specs.Statements.{Stated}

-- the law holds of the run that led to a ledger
pub stated : (l : Ledger) → ∥ Stated (terms_of l) (view l) ∥₁
stated l = ∥∥₁_map l.reached (λ (x : Reached (terms_of l) (view l)). record { run = x.calls; shows = x.shows; settled = settled (terms_of l) x.buildable x.calls })

-- on whatever terms are the ledger's
pub stated_on : (l : Ledger) (c : Terms) → terms_of l ≡ c → ∥ Stated c (view l) ∥₁
stated_on l c e = subst (λ (x : Terms). ∥ Stated x (view l) ∥₁) e (stated l)
