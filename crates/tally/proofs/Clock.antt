-- Sessions, settlement prices and rates of a run.
use Rattle.std.proofs.Common.{◌≡◌, ◌+◌, ◌<◌, ◌≤◌, List, [], ◌∷◌, Some, None, fold, arith}
use Rattle.tally.specs.declared.rows.Lot.{Lot}
use Rattle.tally.specs.declared.rows.Notice.{Notice}
use Rattle.tally.specs.Book.{Terms, Tally, seen}
use Rattle.tally.specs.Events.{Event, registering, trading, quoting, noticing, designating, marking, expiring}
use Rattle.tally.specs.Questions.{questions, verdict}
use Rattle.tally.specs.Runs.{fed, begun, tally}
use Rattle.tally.specs.Steps.{entered, fed_oldest, fed_marking, fed_designation, fed_expiry}
use Rattle.tally.proofs.Facts.{met}

pub record Clocked (c : Terms) (t : Tally) : Type 0 where
  pub started : 1 ≤ t.session
  pub until : t.session ≤ c.last + 1
  pub priced : t.price ≤ 999999
  pub rated : t.rate ≤ 9999999
  -- once a session is marked there is a rate
  pub some_rate : 1 < t.session → 0 < t.rate

pub clocked_begun : (c : Terms) → Clocked c begun
clocked_begun c = grind arith

module _ (c : Terms) (t : Tally) (h : Clocked c t) where
  clocked_oldest : (ns : List Notice) (ls : List Lot) → Clocked c (fed_oldest t ns ls)
  unfolding fed_designation
  clocked_oldest [] ls = h
  clocked_oldest (x ∷ xs) [] = h
  clocked_oldest (x ∷ xs) (l ∷ ls) = grind arith

  clocked_entered : (e : Event) → verdict c (seen c.size t) e ≡ None → Clocked c (entered t e)
  unfolding entered questions fed_marking fed_expiry
  clocked_entered (registering p) e = grind arith
  clocked_entered (trading w) e = grind arith
  clocked_entered (quoting q r) e = h
  clocked_entered (noticing n) e = grind arith
  clocked_entered designating e = clocked_oldest t.notices t.lots
  clocked_entered (marking m r) e = grind (arith, met)
  clocked_entered (expiring None r) e = h
  clocked_entered (expiring (Some f) r) e = grind arith

  pub clocked_fed : (e : Event) → Clocked c (fed c t e)
  clocked_fed e = grind (arith, clocked_entered)

clocked_from : (c : Terms) (t : Tally) → Clocked c t → (es : List Event) → Clocked c (fold (fed c) t es)
clocked_from c t h [] = h
clocked_from c t h (e ∷ es) = clocked_from c (fed c t e) (clocked_fed c t h e) es

pub clocked : (c : Terms) (es : List Event) → Clocked c (tally c es)
clocked c es = clocked_from c begun (clocked_begun c) es
