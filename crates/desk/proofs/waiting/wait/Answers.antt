use Rattle.std.proofs.Common.{Some, None, Ok, sym, ap, ◌∙◌, arith}
use Rattle.std.proofs.lemmas.Result.{err_from_is_err_and}
use Rattle.text.proofs.Writing.{grown, retold, too_long}
use Rattle.desk.specs.Progress.{to_come_at}
use Rattle.desk.proofs.Steps.{fewer, waited, waited_all}
use Rattle.desk.proofs.waiting.wait.Goals as goal

pub loop-place-preserved-in-Ok-None : goal.loop-place-preserved-in-Ok-None
loop-place-preserved-in-Ok-None c =
    let step = c.in-Some.ensures.steps in
    record { told = λ s. retold (c.loop-place.invariant.told s) (waited s step (Ok None) (ap Ok (sym c.in-Ok-None.field-0-is) ∙ c.in-Ok-None.ensures.value)); fewer = omega (arith, fewer step) }

pub returns-in-Ok-Some-clause-came : goal.returns-in-Ok-Some-clause-came
returns-in-Ok-Some-clause-came c = λ s. retold (c.loop-place.invariant.told s) (waited s c.in-Some.ensures.steps (Ok (Some c.in-Ok-Some.opening)) (ap Ok (sym c.in-Ok-Some.field-0-is) ∙ c.in-Ok-Some.ensures.value) ∙ ap (λ o. to_come_at s (Some o) c.next.new.self.0) (sym c.in-Ok-Some.opening-is))

pub loop-place-preserved : goal.loop-place-preserved
loop-place-preserved c =
    let step = c.in-Some.ensures.steps in
    record { told = λ s. grown (c.loop-place.invariant.told s) (waited s step _ c.in-Err.ensures.value) c.in_ok-put_refusal-in-Err.ensures; fewer = omega (arith, fewer step) }

pub returns-in_err-put_refusal-in-Err-clause-came : goal.returns-in_err-put_refusal-in-Err-clause-came
returns-in_err-put_refusal-in-Err-clause-came c = λ s.
    let p = err_from_is_err_and c.from_residual.result c.from_residual.ensures.1 in
    rw p.1 (too_long (c.loop-place.invariant.told s) _ (waited s c.in-Some.ensures.steps _ c.in-Err.ensures.value) c.in_err-put_refusal-in-Err.ensures)

pub returns-clause-came : goal.returns-clause-came
returns-clause-came c = λ s. retold (c.loop-place.invariant.told s) (waited_all s c.in_default.ensures.steps)
