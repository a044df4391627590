use Rattle.std.proofs.Common.{◌≡◌, [], ◌∷◌, ◌++◌, arith}
use Rattle.tally.specs.Events.{noticing}
use Rattle.tally.specs.Steps.{done, noticed_in}
use Rattle.ledger.specs.Ledgers.{view, terms_of}
use Rattle.ledger.proofs.Noticing.{has_room, appended}
use Rattle.ledger.proofs.Reaching.{goes_on}
use Rattle.ledger.proofs.state.Ledger.enter_notice.Goals as goal

pub overflow_cast-row : goal.overflow_cast-row
overflow_cast-row c = let k = has_room c.args.self.now c.args.notification c.requires in omega (arith, k.few)

-- The notice is appended.
noticed : (c : goal.After-append) → c.append.new.self ≡ c.args.self.now.notices ++ noticed_in c.args.self.now.session c.args.notification ∷ []
noticed c =
    let k = has_room c.args.self.now c.args.notification c.requires in
    appended c.append.result _ _ _ _ _ _ c.append.ensures.cases (omega (arith, k.some)) k.room c.append.ensures.after

pub invariant_of-self : goal.invariant_of-self
unfolding done
invariant_of-self c =
    let l = c.args.self.now in
    let e = noticed c in
    record { reached = goes_on (terms_of l) (view l) (noticing c.args.notification) tt c.requires (cc) l.reached }

pub returns-clause-view : goal.returns-clause-view
returns-clause-view c = let e = noticed c.before in cc
