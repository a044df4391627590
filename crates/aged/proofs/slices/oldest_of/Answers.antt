use Rattle.std.proofs.Common.{◌≡◌, ℕ, ◌+◌, ◌<◌, List, length, get_or, drop, Some, sym, ap, ◌∙◌, arith}
use Rattle.std.proofs.lemmas.Bool.{eq-eqb, ne_eqb}
use Rattle.std.proofs.lemmas.List.{drop_all}
use Rattle.aged.specs.Line.{first, owned_by, rows_of}
use Rattle.aged.proofs.Rows.{kept_yes, kept_no}
use Rattle.aged.proofs.Closing.{begins}
use Rattle.aged.proofs.slices.oldest_of.Goals as goal

module _ {R : Type 0} (whose : R → ℕ) (owner i : ℕ) (rows : List R) (x : R) (lt : i < length rows) (is : x ≡ get_or rows i x) where
  first_other : (whose x ≡ owner → ⊥) → first (rows_of whose owner (drop (i + 1) rows)) ≡ first (rows_of whose owner (drop i rows))
  first_other ne = sym (ap (λ l. first (rows_of whose owner l)) (begins i rows lt is) ∙ ap first (kept_no (owned_by whose owner) x (drop (i + 1) rows) (ne_eqb (whose x) owner ne)))

  first_own : whose x ≡ owner → Some x ≡ first (rows_of whose owner (drop i rows))
  first_own e = sym (ap (λ l. first (rows_of whose owner l)) (begins i rows lt is) ∙ ap first (kept_yes (owned_by whose owner) x (drop (i + 1) rows) (eq-eqb (whose x) owner e)))

pub loop-row-preserved : goal.loop-row-preserved
loop-row-preserved g c =
    first_other g.R.Owned.whose c.args.owner c.loop-row.row-index c.line-row-items.result.now c.row-item.result c.loop-row-test.true c.row-item.is (omega arith)
    ∙ c.loop-row.invariant

pub returns-then-owner : goal.returns-then-owner
returns-then-owner g c =
    first_own g.R.Owned.whose c.args.owner c.loop-row.row-index c.line-row-items.result.now c.row-item.result c.loop-row-test.true c.row-item.is (omega arith)
    ∙ c.loop-row.invariant ∙ ap (λ rows. first (rows_of g.R.Owned.whose c.args.owner rows)) c.line-row-items.ensures

pub returns : goal.returns
returns g c =
    let oldest = λ (rows : List g.row.R.Denot). first (rows_of g.R.Owned.whose c.args.owner rows) in
    sym (ap oldest (drop_all c.loop-row.row-index c.line-row-items.result.now (omega arith)))
    ∙ c.loop-row.invariant ∙ ap oldest c.line-row-items.ensures
