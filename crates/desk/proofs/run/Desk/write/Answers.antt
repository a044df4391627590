use Rattle.std.proofs.Common.{ap}
use Rattle.text.proofs.Writing.{all_written, finished, retold}
use Rattle.desk.specs.Progress.{to_come_at}
use Rattle.desk.specs.Report.{sequel}
use Rattle.desk.proofs.run.Desk.write.Goals as goal

pub returns-in-Some : goal.returns-in-Some
returns-in-Some c =
    finished (retold (c.in_ok-opened.ensures.came sequel) (ap (λ o. to_come_at sequel o c.wait.new.records.0) c.in-Some.is)) _ _ c.begin.ensures

pub returns-in-None : goal.returns-in-None
returns-in-None c = all_written (c.in_ok-opened.ensures.came sequel) (ap (λ o. to_come_at sequel o c.wait.new.records.0) c.in-None.is)
