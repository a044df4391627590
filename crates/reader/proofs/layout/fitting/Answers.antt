use Rattle.std.proofs.Common.{ℕ, ◌∙◌, rules}
use borrow.Author.Tests.{tests}
use Rattle.std.specs.List.{zip}
use Rattle.std.proofs.lemmas.Iterator.{YieldsList-from_slice, YieldsList-from_zip}
use Rattle.std.proofs.lemmas.Iterator.Consumers.{count_from_yields_List, YieldsList-at}
use Rattle.std.proofs.lemmas.Iterator.Search.{YieldsList-from_take_while}
use Rattle.std.proofs.lemmas.List.Folds.{length-prefix_len}
use Rattle.reader.specs.declared.layout.Class.{Class}
use Rattle.reader.specs.Layouts.{accepts}
use Rattle.reader.proofs.Askings.{fitting_pairs}
use Rattle.reader.proofs.layout.fitting.Goals as goal

pub returns : goal.returns
returns c =
    let classes = c.args.classes.now in
    let bytes = c.args.bytes.now in
    let fits = λ (p : Class × ℕ). accepts p.0 p.1 in
    let pairs = YieldsList-at c.take_while.ensures.source (YieldsList-from_zip (YieldsList-at c.zip.ensures.first (YieldsList-from_slice classes (cc))) (YieldsList-from_slice bytes (cc))) in
    record { value = count_from_yields_List c.take_while.result _ c.count.ensures.ran (YieldsList-from_take_while _ fits pairs c.take_while.ensures.closure c.take_while.ensures.done (λ x b q k. search (rules, tests))) ∙ (length-prefix_len fits (zip classes bytes) ∙ fitting_pairs classes bytes) }
