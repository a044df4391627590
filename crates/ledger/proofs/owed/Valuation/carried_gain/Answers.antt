use Rattle.std.proofs.Common.{◌≡◌, ◌*ℤ◌, arith, w64}
use Rattle.std.proofs.lemmas.Int.{to_z-of_z}
use Rattle.ledger.proofs.Products.{product_within}
use Rattle.ledger.proofs.owed.Valuation.carried_gain.Goals as goal

pub returns-clause-below : goal.returns-clause-below
returns-clause-below c =
    let a = to_z-of_z w64 c.args.carried c.ranges.carried in
    let b = to_z-of_z w64 c.rise.result (record { sfits = c.rise.type_inv }) in
    let r = to_z-of_z w64 c.times.result (record { sfits = c.times.type_inv }) in
    let is : c.times.result ≡ c.args.carried *ℤ c.rise.result = simp (a, b) at c.times.ensures.value in
    let m = product_within c.args.carried c.rise.result 3000 999999 c.requires c.rise.ensures.below in
    rw r (rw is (omega arith))
