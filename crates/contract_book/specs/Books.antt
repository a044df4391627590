-- A book, as its calls see it.
use Rattle.ledger.specs.Ledgers.{view, terms_of}
use Rattle.contract_book.specs.declared.state.Book.{Book}
use Rattle.contract_book.specs.Stands.{Stand}

abbrev pub stand : {K : Type 0} → Book K → Stand K
stand b = record { terms = terms_of b.ledger; kind = b.kind; view = view b.ledger }
