use Rattle.std.proofs.Common.{ap, sym, ◌∙◌, subst, arith}
use Rattle.kinds.specs.Meaning.{cents_of}
use Rattle.text.specs.Writers.{Writes}
use Rattle.text.proofs.Writing.{finished, grown, handed_on, retold, too_long}
use Rattle.desk.specs.Courses.{course}
use Rattle.settle.specs.Lines.{closing_line}
use Rattle.settle.proofs.Steps.{served_all, served_more}
use Rattle.settle.proofs.run.serve.Goals as goal

pub serve_record-requires : goal.serve_record-requires
serve_record-requires g c =
    let step = c.in-Some.ensures.steps in
    record { next = omega (arith, step.number, step.stepped.counted, c.loop-place.invariant.counted) }

pub loop-place-preserved : goal.loop-place-preserved
loop-place-preserved g c =
    let quotations = course g.K.Contract.means in
    let book = c.loop-place.book in
    let served = c.in_ok-serve_record.ensures in
    let step = c.in-Some.ensures.steps in
    record {
      counted = served.records ∙ step.number;
      told = grown c.loop-place.invariant.told (served_more quotations step book.taken _ book.kind _ served.kind served.taken) served.puts;
    }

pub returns-in_err-serve_record : goal.returns-in_err-serve_record
returns-in_err-serve_record g c =
    let quotations = course g.K.Contract.means in
    let book = c.loop-place.book in
    let served = c.in_err-serve_record.ensures in
    handed_on _ c.from_residual.ensures.0 (too_long c.loop-place.invariant.told _ (served_more quotations c.in-Some.ensures.steps book.taken _ book.kind _ served.kind served.taken) served.puts)

pub returns : goal.returns
returns g c =
    let quotations = course g.K.Contract.means in
    let book = c.loop-place.book in
    let over = c.in-None.ensures.steps in
    let line_is = ap (λ n. closing_line n book.taken (cents_of c.final_price.result)) (c.loop-place.invariant.counted ∙ sym over.over.2) ∙ ap (closing_line c.next.new.self.0.number book.taken) c.final_price.ensures in
    let wrote = subst (λ t. Writes c.loop-place.out t c.put_closing.new.out c.put_closing.result) line_is c.put_closing.ensures in
    finished (retold c.loop-place.invariant.told (served_all quotations over book.taken book.kind)) _ _ wrote
