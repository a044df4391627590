-- The rows that a test picks: what they count, and which comes first.
use Rattle.std.proofs.Common.{◌≡◌, Bool, true, false, cond, List, [], ◌∷◌, filter, sum_by, Some, sym, refl, ap, ◌∙◌}
use Rattle.std.specs.Prelude.{find}
use Rattle.std.proofs.lemmas.List.Recursion.{is_sum_by}
use Rattle.aged.specs.Line.{Counting, first, held, every}

pub kept_every : {R : Type 0} (rows : List R) → filter every rows ≡ rows
kept_every [] = refl
kept_every (x ∷ rows) = ap (λ l. x ∷ l) (kept_every rows)

-- What is said of the rows that every test picks is said of all.
pub at_every : {R Y : Type 0} (F : List R → Y) (rows : List R) {y : Y} → y ≡ F (filter every rows) → y ≡ F rows
at_every F rows e = e ∙ ap F (kept_every rows)

pub kept_yes : {R : Type 0} (p : R → Bool) (x : R) (rows : List R) → p x ≡ true → filter p (x ∷ rows) ≡ x ∷ filter p rows
kept_yes p x rows e = rw e

pub kept_no : {R : Type 0} (p : R → Bool) (x : R) (rows : List R) → p x ≡ false → filter p (x ∷ rows) ≡ filter p rows
kept_no p x rows e = rw e

pub sum_by-count : {R : Type 0} (c : Counting R) (rows : List R) → sum_by c.count rows ≡ held c rows
sum_by-count c rows = sym (is_sum_by (held c) c.count refl (λ x xs. refl) rows)

pub find-first : {R : Type 0} (p : R → Bool) (rows : List R) → find p rows ≡ first (filter p rows)
find-first p [] = refl
find-first p (x ∷ rows) = elim (p x) as (λ b. cond b (Some x) (find p rows) ≡ first (cond b (x ∷ filter p rows) (filter p rows))) [ true ↦ refl | false ↦ find-first p rows ]
