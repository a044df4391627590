use Rattle.std.proofs.Common.{◌≡◌, List, [], ◌∷◌, ◌++◌, length, ap, ◌∙◌, arith}
use Rattle.std.proofs.lemmas.Bool.{ltb-true}
use Rattle.tally.specs.Events.{registering}
use Rattle.tally.specs.Questions.{questions}
use Rattle.tally.specs.Steps.{done, new_account}
use Rattle.tally.proofs.Facts.{met}
use Rattle.ledger.specs.Ledgers.{view, terms_of}
use Rattle.tally.specs.declared.rows.Account.{Account}
use Rattle.ledger.specs.Reached.{viewed}
use Rattle.ledger.proofs.Reaching.{goes_on}
use Rattle.ledger.proofs.state.Ledger.enroll.Goals as goal

pub push-requires : goal.push-requires
unfolding questions
push-requires c = (omega arith, ltb-true (length (view c.args.self.now).accounts) 64 (met _ _ (met _ _ c.requires).1).0)

-- The account is appended.
enrolled : (c : goal.After-push) → c.push.new.self.items ≡ c.args.self.now.accounts.items ++ new_account c.args.registration ∷ []
enrolled c =
    let rest = c.default.ensures.1.1 in
    c.push.ensures.items ∙ ap (λ a. c.args.self.now.accounts.items ++ a ∷ []) (rw (rest.0, rest.1.0, rest.1.1.0, rest.1.1.1))

pub invariant_of-self : goal.invariant_of-self
unfolding done
invariant_of-self c =
    let l = c.args.self.now in
    let e = ap (λ (xs : List Account). viewed xs l.sheet.items l.lots l.notices l.session l.price l.rate l.expired) (enrolled c) in
    record { reached = goes_on (terms_of l) (view l) (registering c.args.registration) tt c.requires e l.reached }
