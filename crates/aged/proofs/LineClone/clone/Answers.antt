use Rattle.std.proofs.Common.{rules, ◌≡◌, sym, subst}
use Rattle.aged.specs.Line.{AllCount}
use Rattle.aged.proofs.LineClone.clone.Goals as goal

pub invariant_of-result : goal.invariant_of-result
invariant_of-result g c =
    let same : c.try_extend_from_slice.new.self.items ≡ c.self.inside.rows.items = search rules in
    subst (AllCount g.R.Row.counting) (sym same) c.self.invariant
