-- Once a session is marked, the rate is one that lines can be paid at.
use Rattle.std.proofs.Common.{◌≡◌, ◌+◌, ◌<◌, ◌≤◌, true, leb, List, [], ◌∷◌, Some, None, fold, sym, refl, subst, arith}
use Rattle.std.proofs.lemmas.Bool.{and_from, le-leb}
use Rattle.money.specs.Ranges.{is_rate}
use Rattle.tally.specs.declared.rows.Lot.{Lot}
use Rattle.tally.specs.declared.rows.Notice.{Notice}
use Rattle.tally.specs.Book.{Terms, View}
use Rattle.tally.specs.Events.{Event, registering, trading, quoting, noticing, designating, marking, expiring}
use Rattle.tally.specs.Questions.{questions, verdict}
use Rattle.tally.specs.Runs.{after, opened}
use Rattle.tally.specs.Steps.{designate, designate_oldest, done, expire, mark}
use Rattle.tally.proofs.Facts.{met, between_is}
use Rattle.ledger.specs.declared.state.Ledger.{Ledger}
use Rattle.ledger.specs.Ledgers.{view, terms_of}
use Rattle.ledger.specs.Reached.{Reached}
use Rattle.ledger.proofs.Standing.{holds, last_in}
use Rattle.ledger.proofs.Tables.{bounded}

abbrev Rated : View → Type 0
Rated v = 1 < v.session → 100000 ≤ v.rate

module _ (c : Terms) (v : View) (h : Rated v) where
  rated_oldest : (ns : List Notice) (ls : List Lot) → Rated (designate_oldest v ns ls)
  unfolding designate
  rated_oldest [] ls = h
  rated_oldest (n ∷ ns) [] = h
  rated_oldest (n ∷ ns) (l ∷ ls) = h

  rated_done : (e : Event) → verdict c v e ≡ None → Rated (done c v e)
  unfolding done questions mark expire
  rated_done (registering p) q = h
  rated_done (trading w) q = h
  rated_done (quoting x r) q = h
  rated_done (noticing n) q = h
  rated_done designating q = rated_oldest v.notices v.lots
  rated_done (marking m r) q =
      let q2 = met _ _ q in
      let q19 = met _ _ q2.1 in
      let q7 = met _ _ q19.1 in
      let q20 = met _ _ q7.1 in
      λ _. (between_is 100000 9999999 m.rate q20.0).0
  rated_done (expiring None r) q = h
  rated_done (expiring (Some f) r) q = h

  rated_after : (e : Event) → Rated (after c v e)
  rated_after e =
      let o = verdict c v e in
      elim o as (λ a. o ≡ a → Rated (elim a [ None ↦ done c v e | Some _ ↦ v ])) [ None ↦ rated_done e | Some _ ↦ λ _. h ] refl

rated_from : (c : Terms) (v : View) → Rated v → (es : List Event) → Rated (fold (after c) v es)
rated_from c v h [] = h
rated_from c v h (e ∷ es) = rated_from c (after c v e) (rated_after c v h e) es

rated_reached : (c : Terms) (v : View) → Reached c v → Rated v
rated_reached c v r = subst Rated (sym r.shows) (rated_from c opened (λ lt. absurd (omega arith)) r.calls)

-- after the last session there is such a rate
pub rate_is : (l : Ledger) → l.session ≡ l.terms.last + 1 → is_rate l.rate ≡ true
rate_is l e =
    let low : 100000 ≤ l.rate = holds l (λ r. rated_reached (terms_of l) (view l) r (omega (arith, (last_in (terms_of l) r.buildable).0))) in
    let high : l.rate ≤ 9999999 = holds l (λ r. (bounded (terms_of l) (view l) r).rate_in) in
    and_from (leb 100000 l.rate) (leb l.rate 9999999) (le-leb 100000 l.rate low) (le-leb l.rate 9999999 high)
