use Rattle.text.specs.Writers.{Progress}
use Rattle.desk.specs.Places.{lines_left}
use Rattle.desk.specs.Told.{starting, telling}
use Rattle.desk.proofs.Tales.{told_at}
use Rattle.desk.proofs.telling.tell.Given as goal

abbrev pub invariant-loop-place : goal.invariant-loop-place
invariant-loop-place l = Progress l.initial.out (telling (starting l.reader.number l.reader.at l.answers l.rows) (lines_left l.reader)) l.out (told_at l.place-iterator.0 l.teller)
