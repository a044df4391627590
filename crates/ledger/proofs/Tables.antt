-- The tables of a ledger, as its view has them, and what every run keeps of them.
use Rattle.std.proofs.Common.{◌≡◌, ℕ, ◌≤◌, true, leb, length, nat_abs, sym, subst, arith}
use mathlib.Core.Logic.{∥∥₁_elim}
use native.Mathlib.Bridge.{le_prop}
use borrow.Author.Differences.{ints}
use Rattle.std.proofs.lemmas.Bool.{and_from, and_parts, le-leb, leb-true}
use Rattle.tally.specs.Book.{Terms, View}
use Rattle.tally.specs.Bounds.{Bounded}
use Rattle.tally.specs.Law.{Registered}
use Rattle.tally.specs.Questions.{find, registered}
use Rattle.tally.proofs.Bounds.{bounds}
use Rattle.ledger.specs.declared.state.Ledger.{Ledger}
use Rattle.ledger.specs.Ledgers.{view, terms_of}
use Rattle.ledger.specs.Reached.{Reached}

pub registers : (l : Ledger) (k : ℕ) → registered (view l) k ≡ true → Registered (length (view l).accounts) k
registers l k e = let p = and_parts (leb 1 k) (leb k (length (view l).accounts)) e in (leb-true 1 k p.0, leb-true k (length (view l).accounts) p.1)

-- what holds of every run holds of the ledger
pub bounded : (c : Terms) (v : View) → Reached c v → Bounded c v
bounded c v r = subst (λ (w : View). Bounded c w) (sym r.shows) (bounds c r.buildable r.calls r.priced)

-- an account's contracts
pub record Contracts (l : Ledger) (k : ℕ) : Type 0 where
  pub carried_in : nat_abs (find (view l) k).carried ≤ 3000
  pub bought_in : (find (view l) k).bought ≤ 3000
  pub sold_in : (find (view l) k).sold ≤ 3000

pub contracts : (l : Ledger) (k : ℕ) → registered (view l) k ≡ true → Contracts l k
contracts l k e =
    let r = registers l k e in
    record {
      carried_in = ∥∥₁_elim l.reached le_prop (λ x. let b = ((bounded (terms_of l) (view l) x).accounts_in k r).carried_in in omega (arith, ints, b.0, b.1));
      bought_in = ∥∥₁_elim l.reached le_prop (λ x. ((bounded (terms_of l) (view l) x).accounts_in k r).bought_in);
      sold_in = ∥∥₁_elim l.reached le_prop (λ x. ((bounded (terms_of l) (view l) x).accounts_in k r).sold_in);
    }

-- one of the accounts is registered, as the questions ask it
pub is_registered : (l : Ledger) (k : ℕ) → Registered (length (view l).accounts) k → registered (view l) k ≡ true
is_registered l k r = and_from (leb 1 k) (leb k (length (view l).accounts)) (le-leb 1 k r.0) (le-leb k (length (view l).accounts) r.1)
