use Rattle.std.proofs.Common.{◌≡◌, arith, w64, to_z, of_z}
use borrow.Author.Differences.{ints}
use Rattle.ledger.proofs.Products.{product_within}
use Rattle.ledger.proofs.owed.times.Goals as goal

pub returns : goal.returns
returns c =
    let a : to_z w64 (of_z w64 c.args.a) ≡ c.args.a = omega (arith, ints) in
    let b : to_z w64 (of_z w64 c.args.b) ≡ c.args.b = omega (arith, ints) in
    let m = product_within c.args.a c.args.b 3000 8999991000 c.requires.0 c.requires.1 in
    simp (a, b) (omega (arith, ints))
