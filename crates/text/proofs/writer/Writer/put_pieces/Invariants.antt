use Rattle.std.proofs.Common.{drop}
use Rattle.text.specs.Pieces.{pieces_text}
use Rattle.text.specs.Writers.{Progress}
use Rattle.text.proofs.writer.Writer.put_pieces.Given as goal

abbrev pub invariant-loop-piece : goal.invariant-loop-piece
invariant-loop-piece l = Progress l.initial.self (pieces_text l.pieces) l.self (pieces_text (drop l.piece-index l.pieces))
