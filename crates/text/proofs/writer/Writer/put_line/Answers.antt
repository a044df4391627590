use Rattle.std.proofs.lemmas.List.{at_drop_all, at_drop_more}
use Rattle.text.specs.Pieces.{fields_text}
use Rattle.text.proofs.Writing.{finished, grown, handed_on, retold, too_long}
use Rattle.text.proofs.writer.Writer.put_line.Goals as goal

pub returns-in_err-put_field : goal.returns-in_err-put_field
returns-in_err-put_field c = handed_on _ c.from_residual-in_err-put_field.ensures.0 (too_long c.loop-field.invariant _ (at_drop_more fields_text c.args.fields.now c.loop-field.field-index _ c.loop-field-test.true) c.in_err-put_field.ensures)

pub loop-field-preserved : goal.loop-field-preserved
loop-field-preserved c = grown c.loop-field.invariant (at_drop_more fields_text c.args.fields.now c.loop-field.field-index _ c.loop-field-test.true) c.in_ok-put_field.ensures

pub returns : goal.returns
returns c = finished (retold c.loop-field.invariant (at_drop_all fields_text c.args.fields.now c.loop-field.field-index c.loop-field-test.false)) _ _ c.put-2.ensures
