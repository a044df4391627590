-- What a ledger shows.
use Rattle.std.specs.Prelude.{Bool, ◌&&◌, nat_le}
use Rattle.tally.specs.Book.{Terms, View}
use Rattle.tally.specs.Questions.{between, is_buildable}
use Rattle.ledger.specs.declared.state.BookTerms.{BookTerms}
use Rattle.ledger.specs.declared.state.Ledger.{Ledger}
use Rattle.ledger.specs.Reached.{viewed, built_on}

-- the terms of a book
abbrev pub terms_in : BookTerms → Terms
terms_in t = built_on t.size t.currency t.tick t.delivers t.last t.opens t.closes

abbrev pub terms_of : Ledger → Terms
terms_of l = terms_in l.terms

-- the rows of its tables, and where it stands
abbrev pub view : Ledger → View
view l = viewed l.accounts.items l.sheet.items l.lots l.notices l.session l.price l.rate l.expired

-- terms that a ledger is opened on: those that a book can be built on, of a size and a tick that a kind can have
abbrev pub can_open : Terms → Bool
can_open c = is_buildable c && (between 1 100 c.size && nat_le 1 c.tick)
