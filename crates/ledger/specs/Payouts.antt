-- What a page of a ledger owes its accounts.
use Rattle.std.specs.Prelude.{ℕ, List}
use Rattle.tally.specs.declared.call.Marking.{Marking}
use Rattle.tally.specs.Book.{numbered}
use Rattle.tally.specs.Pages.{Owed}
use Rattle.ledger.specs.declared.owed.Settling.{Settling}
use Rattle.ledger.specs.declared.state.Ledger.{Ledger}
use Rattle.ledger.specs.Ledgers.{view}
use Rattle.ledger.specs.Owings.{owed_at}

-- each account's amounts at a price, in number order
abbrev pub owed_by : Ledger → Settling → ℕ → List Owed
owed_by l settling price = numbered (owed_at settling l.terms.size (view l).sheet l.price price) 1 (view l).accounts

-- a marking by its two numbers
abbrev pub marking_at : ℕ → ℕ → Marking
marking_at price rate = record { price = price; rate = rate }
