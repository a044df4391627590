use Rattle.std.proofs.Common.{◌≡◌, min, filter, length, take, sym, ap, ◌∙◌, subst, arith}
use Rattle.arrayvec.specs.ArrayVec.{with_items}
use Rattle.arrayvec.proofs.ArrayVecLemmas.{items-with_items}
use Rattle.aged.specs.Line.{AllCount, counts, held, spent}
use Rattle.aged.proofs.Spending.{none_taken, spent_kept, all_count}
use Rattle.aged.proofs.Line.take_picked.Goals as goal

-- What is left of the rows that `spend` left.
kept : (g : _) (c : goal.After-truncate g) → c.truncate.new.self.items ≡ filter (counts g.R.Row.counting) c.spend-taken.new.rows
kept g c =
    let rows = c.self.inside.rows in
    let spent_rows = with_items rows c.spend-taken.new.rows in
    let back = items-with_items rows c.spend-taken.new.rows (c.spend-taken.auto.rows ∙ ap length c.as_mut_slice.ensures.value) in
    c.truncate.ensures.items
    ∙ ap (take c.close_up-kept.result) (items-with_items spent_rows c.close_up-kept.new.rows (c.close_up-kept.auto.rows ∙ ap length c.as_mut_slice-2.ensures.value))
    ∙ c.close_up-kept.ensures.kept ∙ ap (filter (counts g.R.Row.counting)) (c.as_mut_slice-2.ensures.value ∙ back)

pub returns-then-n-eq0 : goal.returns-then-n-eq0
returns-then-n-eq0 g c = record {
  within = omega arith;
  taken = λ test says. (omega (arith, c.if-n-eq0.true), sym (none_taken g.R.Row.counting test c.args.n c.args.self.now c.if-n-eq0.true));
}

pub invariant_of-self : goal.invariant_of-self
invariant_of-self g c = subst (AllCount g.R.Row.counting) (sym (kept g c)) (all_count g.R.Row.counting c.spend-taken.new.rows)

pub returns-clause-taken : goal.returns-clause-taken
returns-clause-taken g c = λ test says.
    let m = g.R.Row.counting in
    let h = c.spend-taken.ensures test says in
    let same : c.as_mut_slice.result.now ≡ c.args.self.now = c.as_mut_slice.ensures.value ∙ c.self.view_is in (
      h.0 ∙ ap (λ rows. min c.args.n (held m (filter test rows))) same,
      kept g c ∙ ap (filter (counts m)) (h.1 ∙ ap (spent m test c.args.n) same) ∙ spent_kept m test c.args.n c.args.self.now (subst (AllCount m) c.self.view_is c.self.invariant),
    )
