use Rattle.std.proofs.lemmas.List.{at_drop_more}
use Rattle.text.specs.Pieces.{pieces_text}
use Rattle.text.proofs.Writing.{grown, handed_on, too_long}
use Rattle.text.proofs.writer.Writer.put_pieces.Goals as goal

pub returns-in_err-put_piece : goal.returns-in_err-put_piece
returns-in_err-put_piece c = handed_on _ c.from_residual.ensures.0 (too_long c.loop-piece.invariant _ (at_drop_more pieces_text c.args.pieces.now c.loop-piece.piece-index _ c.loop-piece-test.true) c.in_err-put_piece.ensures)

pub loop-piece-preserved : goal.loop-piece-preserved
loop-piece-preserved c = grown c.loop-piece.invariant (at_drop_more pieces_text c.args.pieces.now c.loop-piece.piece-index _ c.loop-piece-test.true) c.in_ok-put_piece.ensures
