use Rattle.text.proofs.Writing.{writes_then}
use Rattle.text.proofs.writer.Writer.put_field.Goals as goal

pub returns : goal.returns
returns c = writes_then c.in_ok-put.ensures _ _ _ c.put_piece.ensures
