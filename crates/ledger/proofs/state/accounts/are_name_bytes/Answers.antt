use Rattle.std.proofs.Common.{◌&&◌, rules, refl, ◌∙◌}
use Rattle.std.specs.List.{list_all}
use Rattle.std.proofs.lemmas.Iterator.{YieldsList-from_slice}
use Rattle.std.proofs.lemmas.Iterator.Search.{all_from_yields_List}
use Rattle.std.proofs.lemmas.List.Recursion.{same_from_clauses}
use Rattle.tally.specs.Questions.{is_name_byte, all_name_bytes}
use Rattle.ledger.proofs.state.accounts.are_name_bytes.Goals as goal

pub returns : goal.returns
returns c =
    all_from_yields_List is_name_byte _ _ c.all.result c.all.ensures.ran (YieldsList-from_slice c.args.bytes.now cc) (λ x b q k. search rules)
    ∙ same_from_clauses (list_all is_name_byte) all_name_bytes (λ b rest. is_name_byte b && rest) refl (λ b bs. refl) (λ b bs. refl) c.args.bytes.now
