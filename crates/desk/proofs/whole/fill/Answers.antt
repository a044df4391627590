use Rattle.std.proofs.Common.{◌≡◌, length, Some, ◌∙◌, subst, arith, length-take}
use Rattle.reader.specs.Cuts.{lines}
use Rattle.desk.specs.Progress.{Settles}
use Rattle.desk.specs.Report.{report}
use Rattle.desk.proofs.Tops.{top_put}
use Rattle.desk.proofs.whole.fill.Goals as goal

pub returns : goal.returns
returns c =
    let input = c.args.input.now in
    let some : c.settle.result ≡ Some c.in_ok-end.end = grind arith in
    let put = subst (λ r. Settles (length (lines input)) (length c.args.calls.now) (length c.args.log.now) (length c.args.pages.now) c.deref_mut.result.now (report input) c.settle.new.out r) some c.settle.ensures in
    c.truncate.ensures.items
    ∙ top_put _ _ c.settle.new.out _ c.args.text.len c.in_ok-end.end (omega (arith, length-take c.args.text.len c.args.text.items)) (omega (arith, c.settle.auto.out)) put
