use Rattle.std.proofs.Common.{◌≡◌, [], ◌∷◌, ◌++◌, ap, ◌∙◌, arith, w64}
use Rattle.std.proofs.lemmas.Int.{to_z-of_z}
use Rattle.tally.specs.Account.{long}
use Rattle.ledger.proofs.Noticing.{appended}
use Rattle.ledger.proofs.Turning.{opens_one, aged_grows, aged_shrinks}
use Rattle.ledger.proofs.turned.turn_account.Goals as goal

pub returns-then-held-left-clause-lots : goal.returns-then-held-left-clause-lots
returns-then-held-left-clause-lots c =
    let held : c.holding-held.result ≡ long c.args.before = c.holding-held.ensures.value ∙ ap long (to_z-of_z w64 c.args.before c.ranges.before) in
    let left : c.holding-left.result ≡ long c.args.after = c.holding-left.ensures.value ∙ ap long (to_z-of_z w64 c.args.after c.ranges.after) in
    let lt = c.if-held-left.true in
    let opens = opens_one c.args.before c.args.after held left lt in
    let ls = c.args.lots.now in
    let e : c.append.new.self ≡ ls ++ _ ∷ [] = appended c.append.result _ _ _ _ _ _ c.append.ensures.cases (omega arith) (omega (arith, c.requires.room, opens)) c.append.ensures.after in
    e ∙ aged_grows c.args.before c.args.after held left c.args.session c.args.owner ls lt

pub returns-else-held-left-clause-lots : goal.returns-else-held-left-clause-lots
returns-else-held-left-clause-lots c =
    let held : c.holding-held.result ≡ long c.args.before = c.holding-held.ensures.value ∙ ap long (to_z-of_z w64 c.args.before c.ranges.before) in
    let left : c.holding-left.result ≡ long c.args.after = c.holding-left.ensures.value ∙ ap long (to_z-of_z w64 c.args.after c.ranges.after) in
    c.take_of.ensures.after ∙ aged_shrinks c.args.before c.args.after held left c.args.session c.args.owner c.args.lots.now c.if-held-left.false
