use Rattle.std.proofs.Common.{◌≡◌}
use Rattle.text.specs.Writers.{Progress}
use Rattle.desk.specs.Courses.{course}
use Rattle.settle.proofs.Steps.{served_at}
use Rattle.settle.proofs.run.serve.Given as goal

abbrev pub invariant-loop-place : goal.invariant-loop-place
invariant-loop-place g l =
    let c = course g.K.Contract.means in
    record {
      counted : l.book.records ≡ l.place-iterator.0.number;
      told : Progress l.initial.out (served_at c l.fn.reader 0 l.initial.book.kind) l.out (served_at c l.place-iterator.0 l.book.taken l.book.kind);
    }
