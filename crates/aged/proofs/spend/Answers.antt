use Rattle.std.proofs.Common.{inl, inr, arith}
use Rattle.std.proofs.lemmas.List.{set-get_or}
use Rattle.aged.proofs.Spending.{spending_all}
use Rattle.aged.proofs.spend.Goals as goal
use Rattle.aged.proofs.spend.Goals.{else-loop-row-test, then-loop-row-test+then-left-eq0}

pub returns : goal.returns
returns g c = λ test says.
    let h = c.loop-row.invariant.1 test says in
    elim c.loop-row-test.branch [
      | else-loop-row-test w ↦ rw w.rows-is (spending_all g.R.Row.counting test h c.loop-row.invariant.0 (inr (omega arith)))
      | then-loop-row-test+then-left-eq0 w ↦ rw (w.rows-is, set-get_or) (spending_all g.R.Row.counting test h c.loop-row.invariant.0 (inl w.if-left-eq0.true))
    ]
