use Rattle.text.proofs.Writing.{begun, finished, grown, handed_on, retold, too_long}
use Rattle.desk.proofs.Rows.{page_ends, page_goes_on, page_starts}
use Rattle.desk.proofs.printed.put_page.Goals as goal

pub loop-i-init : goal.loop-i-init
loop-i-init c = retold (begun _ _) (page_starts c.args.session c.args.rows.now c.args.sums)

pub returns-in_err-put_row : goal.returns-in_err-put_row
returns-in_err-put_row c =
    handed_on _ c.from_residual.ensures.0 (too_long c.loop-i.invariant _ (page_goes_on c.args.session c.args.rows.now c.args.sums c.loop-i.i _ c.loop-i-test.true) c.in_err-put_row.ensures)

pub loop-i-preserved : goal.loop-i-preserved
loop-i-preserved c = grown c.loop-i.invariant (page_goes_on c.args.session c.args.rows.now c.args.sums c.loop-i.i _ c.loop-i-test.true) c.in_ok-put_row.ensures

pub returns : goal.returns
returns c = finished (retold c.loop-i.invariant (page_ends c.args.session c.args.rows.now c.args.sums c.loop-i.i c.loop-i-test.false)) _ _ c.put_totals.ensures
