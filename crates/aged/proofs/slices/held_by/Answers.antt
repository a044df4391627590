use Rattle.std.proofs.Common.{rules, ap, ◌^◌, ◌∙◌, arith}
use Rattle.std.proofs.lemmas.Iterator.{YieldsList-from_slice, YieldsList-from_map}
use Rattle.std.proofs.lemmas.Iterator.Adapters.{fits_from_length, at_most_from_yields_List, at_most_from_Filter}
use Rattle.std.proofs.lemmas.Iterator.Consumers.{YieldsList-from_filter, YieldsList-at, sum_by_from_yields_List}
use Rattle.aged.specs.Line.{owned_by, rows_of, held_by}
use Rattle.aged.proofs.Rows.{sum_by-count}
use Rattle.aged.proofs.slices.held_by.Goals as goal

pub sum-requires-clause-fits : goal.sum-requires-clause-fits
sum-requires-clause-fits g c =
    fits_from_length _ _ (2 ^ 64) (2 ^ 128) (at_most_from_Filter _ (at_most_from_yields_List (YieldsList-from_slice c.line.result.now cc) (omega arith))) c.map.ensures.closure (omega arith) (λ x r q k. search rules)

pub returns : goal.returns
returns g c =
    let count = g.R.Row.counting.count in
    let rows = rows_of g.R.Owned.whose c.args.owner c.line.result.now in
    sum_by_from_yields_List count rows c.map.result _ c.sum.ensures.ran
    (YieldsList-from_map _ count
    (YieldsList-at c.map.ensures.source (YieldsList-from_filter _ (owned_by g.R.Owned.whose c.args.owner) (YieldsList-from_slice c.line.result.now cc) c.filter.ensures.closure (λ x b q k. search rules)))
    c.map.ensures.closure (λ x r q k. search rules))
    ∙ sum_by-count g.R.Row.counting rows ∙ ap (held_by g.R.Row.counting g.R.Owned.whose c.args.owner) c.line.ensures
