use Rattle.std.proofs.Common.{None, sym, ap, ◌∙◌, subst}
use Rattle.text.specs.Writers.{Writes}
use Rattle.text.proofs.Writing.{finished, retold}
use Rattle.desk.specs.Progress.{to_come_at}
use Rattle.settle.specs.Lines.{closing_line}
use Rattle.settle.specs.Report.{sequel}
use Rattle.desk.proofs.Steps.{from_the_top}
use Rattle.settle.proofs.run.write.Goals as goal

pub returns-in-Some : goal.returns-in-Some
returns-in-Some c =
    let new = c.new.ensures in
    let whole = from_the_top c.new.result sequel new.input new.number new.at in
    let told = retold (c.in_ok-opening.ensures.came sequel) (ap (λ o. to_come_at sequel o c.wait.new.records.0) c.in-Some.is) in
    subst (λ t. Writes c.args.out.now t c.begin.new.out c.begin.result) whole (finished told _ _ c.begin.ensures)

pub returns-in-None : goal.returns-in-None
returns-in-None c =
    let new = c.new.ensures in
    let whole = from_the_top c.new.result sequel new.input new.number new.at in
    let told = retold (c.in_ok-opening.ensures.came sequel) (ap (λ o. to_come_at sequel o c.wait.new.records.0) c.in-None.is ∙ ap (λ n. closing_line n 0 None) (sym c.number.ensures.value)) in
    subst (λ t. Writes c.args.out.now t c.put_closing.new.out c.put_closing.result) whole (finished told _ _ c.put_closing.ensures)
