use Rattle.std.proofs.Common.{sym, ◌∙◌, inl, inr, ⊎_elim, arith}
use Rattle.aged.proofs.Taking.{taking_past, taking_whole, taking_part}
use Rattle.aged.proofs.slices.take_picked.Goals as goal
use Rattle.aged.proofs.slices.take_picked.Goals.{then-not-picked, else-not-picked+then-count-left, else-not-picked+else-count-left}

pub loop-i-preserved : goal.loop-i-preserved
loop-i-preserved g c =
    let m = g.R.Row.counting in
    let counts = c.count-count.ensures in
    elim c.if-not-picked.branch [
      | then-not-picked w ↦ rw (w.rows-is, w.left-is, w.keep-is) (
        omega arith,
        omega arith,
        λ test says.
            let picks = sym (says _ _ c.picks-picked.ensures) in
            taking_past m test (c.loop-i.invariant.2 test says) (omega arith) (omega arith) c.index-rows-i.is (⊎_elim inl (λ e. inr (picks ∙ e.1)) w.if-not-picked.either),
      )
      | else-not-picked+then-count-left w ↦ rw (w.rows-is, w.left-is, w.keep-is) (
        omega arith,
        omega arith,
        λ test says.
            let picks = sym (says _ _ c.picks-picked.ensures) in
            taking_whole m test (c.loop-i.invariant.2 test says) (omega arith) (omega arith) c.index-rows-i.is _ counts w.if-not-picked.false.0 (picks ∙ w.if-not-picked.false.1) (omega arith),
      )
      | else-not-picked+else-count-left w ↦ rw (w.rows-is, w.left-is, w.keep-is) (
        omega arith,
        omega arith,
        λ test says.
            let picks = sym (says _ _ c.picks-picked.ensures) in
            taking_part m test (c.loop-i.invariant.2 test says) (omega arith) (omega arith) c.index-rows-i.is _ _ counts w.with_count.ensures (picks ∙ w.if-not-picked.false.1) (omega arith),
      )
    ]
