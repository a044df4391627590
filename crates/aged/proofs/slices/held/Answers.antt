use Rattle.std.proofs.Common.{rules, ap, ◌^◌, ◌∙◌, arith}
use Rattle.std.proofs.lemmas.Iterator.{YieldsList-from_slice, YieldsList-from_map}
use Rattle.std.proofs.lemmas.Iterator.Adapters.{fits_from_length, at_most_from_yields_List}
use Rattle.std.proofs.lemmas.Iterator.Consumers.{sum_by_from_yields_List}
use Rattle.aged.specs.Line.{held}
use Rattle.aged.proofs.Rows.{sum_by-count}
use Rattle.aged.proofs.slices.held.Goals as goal

pub sum-requires-clause-fits : goal.sum-requires-clause-fits
sum-requires-clause-fits g c =
    fits_from_length _ _ (2 ^ 64) (2 ^ 128) (at_most_from_yields_List (YieldsList-from_slice c.line-rows.result.now cc) (omega arith)) c.map.ensures.closure (omega arith) (λ x r q k. search rules)

pub returns : goal.returns
returns g c =
    let count = g.R.Row.counting.count in
    sum_by_from_yields_List count c.line-rows.result.now c.map.result _ c.sum.ensures.ran (YieldsList-from_map _ count (YieldsList-from_slice c.line-rows.result.now cc) c.map.ensures.closure (λ x r q k. search rules))
    ∙ sum_by-count g.R.Row.counting c.line-rows.result.now ∙ ap (held g.R.Row.counting) c.line-rows.ensures
