use Rattle.std.proofs.Common.{drop}
use Rattle.text.specs.Pieces.{fields_text, line_text}
use Rattle.text.specs.Writers.{Progress}
use Rattle.text.proofs.writer.Writer.put_line.Given as goal

abbrev pub invariant-loop-field : goal.invariant-loop-field
invariant-loop-field l = Progress l.fn.self (line_text l.mark l.fields) l.self (fields_text (drop l.field-index l.fields))
