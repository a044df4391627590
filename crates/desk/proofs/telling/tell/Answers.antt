use Rattle.text.proofs.Writing.{all_written, grown, handed_on, too_long}
use Rattle.desk.proofs.Tales.{told_all, told_more}
use Rattle.desk.proofs.telling.tell.Goals as goal

pub loop-place-preserved : goal.loop-place-preserved
loop-place-preserved c =
    let told = c.in_ok-tell_record.ensures in
    grown c.loop-place.invariant (told_more c.loop-place.teller c.tell_record.new.self c.in-Some.ensures.steps told.after) told.puts

pub returns-in_err-tell_record : goal.returns-in_err-tell_record
returns-in_err-tell_record c =
    let told = c.in_err-tell_record.ensures in
    handed_on _ c.from_residual.ensures.0 (too_long c.loop-place.invariant _ (told_more c.loop-place.teller c.tell_record.new.self c.in-Some.ensures.steps told.after) told.puts)

pub returns : goal.returns
returns c = all_written c.loop-place.invariant (told_all c.in-None.ensures.steps c.loop-place.teller)
