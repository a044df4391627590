use Rattle.std.proofs.Common.{◌≡◌, Bool, List, not, ◌&&◌, rules, refl, ◌∙◌}
use Rattle.std.specs.List.{list_all}
use Rattle.std.proofs.lemmas.Iterator.{YieldsList-from_slice}
use Rattle.std.proofs.lemmas.Iterator.Search.{all_from_yields_List}
use Rattle.std.proofs.lemmas.List.Recursion.{same_from_clauses}
use Rattle.tally.specs.declared.rows.Account.{Account}
use Rattle.tally.specs.declared.rows.Identity.{Identity}
use Rattle.tally.specs.Questions.{is_new, same_identity}
use Rattle.ledger.proofs.state.accounts.is_new.Goals as goal

abbrev is_other : Identity → Account → Bool
is_other i a = not (same_identity i a.identity)

all_others : (i : Identity) (xs : List Account) → list_all (is_other i) xs ≡ is_new i xs
unfolding is_new
all_others i xs = same_from_clauses (list_all (is_other i)) (is_new i) (λ a rest. is_other i a && rest) refl (λ a as'. refl) (λ a as'. refl) xs

pub returns : goal.returns
returns c =
    all_from_yields_List (is_other c.args.identity.now) _ _ c.all.result c.all.ensures.ran (YieldsList-from_slice c.args.accounts.now cc) (λ x b q k. search rules)
    ∙ all_others c.args.identity.now c.args.accounts.now
