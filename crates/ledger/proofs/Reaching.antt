-- A run goes on: a view that some run leads to leads, by an accepted call, to the next.
use Rattle.std.proofs.Common.{◌≡◌, ℕ, List, [], ◌∷◌, ◌++◌, Some, None, Ok, fold, Option, Result, sym, refl, ap, ◌∙◌, subst, arith}
use mathlib.Core.Logic.{∥∥₁_map}
use Rattle.std.proofs.ByRecursion.{All-append}
use Rattle.tally.specs.declared.refusal.Refusal.{Refusal}
use Rattle.tally.specs.Book.{Terms, View}
use Rattle.tally.specs.Bounds.{FinalPriced}
use Rattle.tally.specs.Events.{Event}
use Rattle.tally.specs.Questions.{verdict}
use Rattle.tally.specs.Runs.{after, opened}
use Rattle.tally.specs.Steps.{done}
use Rattle.ledger.specs.Reached.{Reached}
use Rattle.ledger.specs.Told.{judged}

shown_from : (c : Terms) (v : View) (es : List Event) (e : Event) → fold (after c) v (es ++ e ∷ []) ≡ after c (fold (after c) v es) e
shown_from c v [] e = refl
shown_from c v (x ∷ es) e = shown_from c (after c v x) es e

pub accepted : (c : Terms) (v : View) (e : Event) → verdict c v e ≡ None → after c v e ≡ done c v e
accepted c v e none = ap (λ x. elim x as (λ _. View) [ None ↦ done c v e | Some _ ↦ v ]) none

pub reach : (c : Terms) (v : View) (e : Event) → FinalPriced e → verdict c v e ≡ None → Reached c v → Reached c (done c v e)
reach c v e priced q r = record {
  buildable = r.buildable;
  ticked = r.ticked;
  calls = r.calls ++ e ∷ [];
  priced = All-append FinalPriced r.calls (e ∷ []) r.priced (priced, tt);
  shows = sym (shown_from c opened r.calls e ∙ ap (λ w. after c w e) (sym r.shows) ∙ accepted c v e q);
}

-- some run leads to what an accepted call leaves
pub goes_on : (c : Terms) (v : View) (e : Event) {w : View} → FinalPriced e → verdict c v e ≡ None → w ≡ done c v e → ∥ Reached c v ∥₁ → ∥ Reached c w ∥₁
goes_on c v e priced q is r = ∥∥₁_map r (λ x. subst (Reached c) (sym is) (reach c v e priced q x))

-- a verdict that is passed on as accepting is none
pub passed : (o : Option Refusal) → ◌≡◌ {A = Result (Unit {0}) Refusal} (Ok tt) (judged o) → o ≡ None
passed None e = refl
passed (Some r) e = absurd (let z : ◌≡◌ {A = ℕ} 0 1 = cc in omega arith)
