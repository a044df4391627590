use Rattle.std.proofs.Common.{ap, ◌∙◌, arith}
use Rattle.kinds.specs.Indexing.{five}
use Rattle.kinds.specs.Worked.{worked}
use Rattle.kinds.proofs.FiveWorked.{worked_line, turn, ended}
use Rattle.kinds.proofs.worked.worked_line.Goals as goal

pub loop-price-preserved : goal.loop-price-preserved
loop-price-preserved c =
    turn c.loop-price.kind c.quote.new.self _ worked c.loop-price.price-index (omega arith) c.quote.ensures.after c.loop-price.invariant

pub returns : goal.returns
returns c =
    let k = ended c.loop-price.kind _ worked c.loop-price.price-index (omega arith) c.loop-price.invariant in
    record {
      value = c.final_price.ensures ∙ (ap five.final k ∙ worked_line c.new-kind.result c.new-kind.ensures.law);
      law = worked_line;
    }
