use Rattle.std.proofs.Common.{refl, arith}
use Rattle.reader.proofs.Cutting.{none_left}
use Rattle.reader.proofs.Stepping.{stepped}
use Rattle.reader.proofs.reading.Reader.next.Goals as goal

pub returns-then-at-input : goal.returns-then-at-input
returns-then-at-input c = record { came = (none_left c.args.self.now.input.now c.args.self.now.at (omega arith), refl, refl); same = refl }

pub returns : goal.returns
returns c =
    let bound = c.line_end-end.ensures.bound in
    record {
      came = stepped _ _ _ _ _ _ _ _ c.line_end-end.ensures.first bound.0 bound.1 c.read_line.ensures.value c.read_line.ensures.starts (omega arith) (omega arith);
      same = refl;
    }
