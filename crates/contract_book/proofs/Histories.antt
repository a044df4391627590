-- Requests one after the other, and one request more.
use Rattle.std.proofs.Common.{arith}
use Rattle.std.proofs.Common.{◌≡◌, List, [], ◌∷◌, ◌++◌, refl}
use Rattle.std.proofs.lemmas.List.{append_assoc, append-nil}
use Rattle.kinds.specs.Meaning.{Meaning}
use Rattle.tally.specs.Events.{Request}
use Rattle.contract_book.specs.Stands.{Stand, answer_to, answers, next, pages, rows_to, stands}

module _ {K : Type 0} (m : Meaning K) where
  pub stands_append : (s : Stand K) (h rs : List Request) → stands m s (h ++ rs) ≡ stands m (stands m s h) rs
  unfolding stands
  stands_append s [] rs = refl
  stands_append s (r ∷ h) rs = stands_append (next m s r) h rs

  pub answers_append : (s : Stand K) (h rs : List Request) → answers m s (h ++ rs) ≡ answers m s h ++ answers m (stands m s h) rs
  unfolding stands answers
  answers_append s [] rs = refl
  answers_append s (r ∷ h) rs = grind (arith, answers_append (next m s r) h rs)

  pub pages_append : (s : Stand K) (h rs : List Request) → pages m s (h ++ rs) ≡ pages m s h ++ pages m (stands m s h) rs
  unfolding stands pages
  pages_append s [] rs = refl
  pages_append s (r ∷ h) rs = grind (arith, append_assoc, pages_append (next m s r) h rs)

  -- one request more
  pub stands_push : (s : Stand K) (h : List Request) (r : Request) → stands m s (h ++ r ∷ []) ≡ next m (stands m s h) r
  unfolding stands
  stands_push s h r = stands_append s h (r ∷ [])

  pub answers_push : (s : Stand K) (h : List Request) (r : Request) → answers m s (h ++ r ∷ []) ≡ answers m s h ++ answer_to m (stands m s h) r ∷ []
  unfolding answers
  answers_push s h r = answers_append s h (r ∷ [])

  pub pages_push : (s : Stand K) (h : List Request) (r : Request) → pages m s (h ++ r ∷ []) ≡ pages m s h ++ rows_to m (stands m s h) r
  unfolding pages
  pages_push s h r = grind (arith, pages_append, append-nil)
