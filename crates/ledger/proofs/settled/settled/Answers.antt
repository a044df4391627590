use Rattle.std.proofs.Common.{nat_abs, ap, ◌∙◌, arith, w64}
use Rattle.std.proofs.lemmas.Int.{to_z-of_z}
use Rattle.ledger.proofs.Paying.{add_signed}
use Rattle.ledger.proofs.settled.settled.Goals as goal

pub returns-in-Marking : goal.returns-in-Marking
returns-in-Marking c =
    let a = c.args.account in
    let carried = to_z-of_z w64 c.net.result (record { sfits = c.net.type_inv }) ∙ c.net.ensures in
    let owed = c.total.ensures in
    let total = add_signed a.total c.total.result owed.value (omega (arith, c.requires.1)) (omega (arith, ap nat_abs owed.value, owed.below)) in
    rw c.in-Marking.is (λ i. record { identity = a.identity; residency = a.residency; carried = carried i; bought = 0; sold = 0; total = total i })
