-- How many rows a call writes.
use Rattle.std.proofs.Common.{◌≡◌, ℕ, ◌≤◌, List, [], ◌∷◌, length, Some, None, Option, sym, refl, zero-le, arith}
use Rattle.std.proofs.lemmas.List.{length-map}
use Rattle.std.proofs.lemmas.Bool.{leb-true}
use Rattle.kinds.specs.Meaning.{Meaning}
use Rattle.tally.specs.Answers.{Answer}
use Rattle.tally.specs.declared.call.Call.{Call}
use Rattle.tally.specs.declared.call.Call.TheVariants as call
use Rattle.tally.specs.declared.rows.Account.{Account}
use Rattle.tally.specs.declared.rows.Lot.{Lot}
use Rattle.tally.specs.declared.rows.Notice.{Notice}
use Rattle.tally.specs.Book.{Terms, View}
use Rattle.tally.specs.Events.{Event, registering, trading, quoting, noticing, designating, marking, expiring}
use Rattle.tally.specs.Pages.{Listed, Owed, page, roll, by_marking, by_expiry}
use Rattle.tally.specs.Questions.{questions, verdict}
use Rattle.tally.specs.Runs.{answer, designation_of, page_of, reply, rows_of, written}
use Rattle.tally.proofs.Facts.{length_numbered, met}
use Rattle.contract_book.specs.Stands.{Stand, asked, rows_by, rows_to}

-- a page has a row for each account
page_long : (c : Terms) (rate : ℕ) (owes : Listed → Owed) (v : View) → length (page c rate owes (roll v)).rows ≡ length v.accounts
page_long c rate owes v = grind (arith, length-map, length_numbered)

-- a designation writes none
none_designated : (v : View) (n : ℕ) (ns : List Notice) (ls : List Lot) → rows_by (designation_of v ns ls) n ≡ 0
none_designated v n [] ls = refl
none_designated v n (x ∷ ns) [] = refl
none_designated v n (x ∷ ns) (l ∷ ls) = refl

accepted_rows : (c : Terms) (v : View) (e : Event) → rows_by (answer c v e) (length v.accounts) ≡ length (rows_of (page_of c v e))
accepted_rows c v (registering r) = refl
accepted_rows c v (trading t) = refl
accepted_rows c v (quoting q reply) = refl
accepted_rows c v (noticing n) = refl
accepted_rows c v designating = none_designated v (length v.accounts) v.notices v.lots
accepted_rows c v (marking m room) = sym (page_long c m.rate (by_marking c v m.price) v)
accepted_rows c v (expiring None room) = refl
accepted_rows c v (expiring (Some final) room) = sym (page_long c v.rate (by_expiry c v final) v)

rows_counted : (c : Terms) (v : View) (e : Event) → rows_by (reply c v e) (length v.accounts) ≡ length (written c v e)
rows_counted c v e = grind (arith, accepted_rows)

-- the answer and the accounts say how many rows were written
pub rows_are : (c : Terms) (v : View) (e : Event) (a : Answer) (accounts : List Account) (n : ℕ) → a ≡ reply c v e → accounts ≡ v.accounts → n ≡ rows_by a (length accounts) → n ≡ length (written c v e)
rows_are c v e a accounts n answered listed count = grind (arith, rows_counted)

-- rows that an accepted call has room for
fits : (c : Terms) (v : View) (e : Event) (room : ℕ) → (verdict c v e ≡ None → length (rows_of (page_of c v e)) ≤ room) → length (written c v e) ≤ room
fits c v e room h = grind arith

-- no call writes past its page
pub rows_fit : {K : Type 0} (m : Meaning K) (s : Stand K) (x : Call) (room : ℕ) → length (rows_to m s (asked x room)) ≤ room
unfolding questions
rows_fit m s (call.Register r) room = fits s.terms s.view (registering r) room (λ _. zero-le)
rows_fit m s (call.Trade t) room = fits s.terms s.view (trading t) room (λ _. zero-le)
rows_fit m s (call.Quote q) room = grind arith
rows_fit m s (call.Notify n) room = fits s.terms s.view (noticing n) room (λ _. zero-le)
rows_fit m s call.Designate room = fits s.terms s.view designating room (λ _. zero-le)
rows_fit m s (call.Mark x) room = grind (arith, fits, met, leb-true, page_long)
rows_fit m s call.Expire room = expiry_fits (m.final s.kind)
  where
    expiry_fits : (final : Option ℕ) → length (written s.terms s.view (expiring final room)) ≤ room
    expiry_fits None = grind arith
    expiry_fits (Some final) = grind (arith, fits, met, leb-true, page_long)
