use Rattle.std.proofs.Common.{◌≡◌, pos, ℤ, ◌*ℤ◌, nat_abs, ap, ◌∙◌, arith, w64}
use Rattle.std.proofs.lemmas.Int.{to_z-of_z}
use Rattle.ledger.proofs.Products.{product_within}
use Rattle.ledger.proofs.owed.Valuation.scaled.Goals as goal

pub returns-clause-below : goal.returns-clause-below
returns-clause-below c =
    let amount = c.args.amount in
    let a = to_z-of_z w64 c.from.result (record { sfits = c.from.type_inv }) in
    let b = to_z-of_z w64 amount c.ranges.amount in
    let r = to_z-of_z w64 c.times.result (record { sfits = c.times.type_inv }) in
    let is : c.times.result ≡ pos c.args.self.size *ℤ amount = (simp (a, b) at c.times.ensures.value) ∙ ap (λ (z : ℤ). z *ℤ amount) c.from.ensures in
    rw r (rw is (product_within (pos c.args.self.size) amount 100 (nat_abs amount) c.args.self.sized (omega arith)))
