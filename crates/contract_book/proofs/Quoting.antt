-- A quotation: what it is answered, and what it leaves.
use Rattle.std.proofs.Common.{arith}
use Rattle.std.proofs.Common.{◌≡◌, false}
use Rattle.kinds.specs.declared.quotation.Quotation.{Quotation}
use Rattle.kinds.specs.Meaning.{Meaning}
use Rattle.kinds.specs.Quotations.{Reply, quotable}
use Rattle.tally.specs.declared.call.Call.TheVariants.{Quote}
use Rattle.tally.specs.Book.{Terms, View}
use Rattle.tally.specs.Events.{quoting}
use Rattle.tally.specs.Runs.{after}
use Rattle.tally.specs.Steps.{done}
use Rattle.ledger.specs.declared.state.Ledger.{Ledger}
use Rattle.ledger.specs.Ledgers.{view, terms_of}
use Rattle.contract_book.specs.Stands.{Stand, asked, next}
use Rattle.contract_book.proofs.Histories.{stands_push}

-- no quotation changes what the book shows
pub unchanged : (c : Terms) (v : View) (q : Quotation) (reply : Reply) → after c v (quoting q reply) ≡ v
unfolding done
unchanged c v q reply = grind arith

-- a kind that a quotation out of range is not handed to is as it would be after it
pub unfit_stays : {K : Type 0} (m : Meaning K) (k : K) (q : Quotation) → quotable q ≡ false → m.after k q ≡ k
unfit_stays m k q e = grind arith

-- where a book stands whose ledger is as before, and whose kind is as after the quotation
pub quoted : {K : Type 0} (m : Meaning K) (k k' : K) (l : Ledger) (q : Quotation) → k' ≡ m.after k q →
    ◌≡◌ {A = Stand K} (record { terms = terms_of l; kind = k'; view = view l }) (next m (record { terms = terms_of l; kind = k; view = view l }) (asked (Quote q) 0))
quoted m k k' l q e = grind (arith, unchanged)

-- what says where a quotation leads, after any history
pub ruleset quotations = (stands_push, quoted, unfit_stays)
