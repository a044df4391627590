use Rattle.text.specs.Writers.{Progress}
use Rattle.desk.specs.Lines.{page_text}
use Rattle.desk.proofs.Rows.{page_from}
use Rattle.desk.proofs.printed.put_page.Given as goal

abbrev pub invariant-loop-i : goal.invariant-loop-i
invariant-loop-i l = Progress l.initial.out (page_text l.session l.rows l.sums) l.out (page_from l.session l.rows l.sums l.i)
