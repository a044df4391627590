use Rattle.std.proofs.Common.{◌≡◌, ◌*◌, ◌++◌, take, drop, fold}
use lib.Lanes.{zip2}
use Rattle.ledger.specs.Owings.{SumsIn, lines_to, row_to}
use Rattle.ledger.proofs.Paying.{adding, no_sums}
use Rattle.ledger.proofs.pages.Conversion.pay_page.Given as goal

-- the rows written so far, the lines still to come, and that the sums are not large
abbrev pub invariant-loop-i : goal.invariant-loop-i
invariant-loop-i l =
    (l.page ≡ zip2 (row_to l.self.currency l.self.rate.number) (take l.i l.accounts) (take l.i l.owed) ++ drop l.i l.initial.page)
    × (fold adding l.sums (lines_to l.self.currency l.self.rate.number (drop l.i l.accounts) (drop l.i l.owed)) ≡ fold adding no_sums (lines_to l.self.currency l.self.rate.number l.accounts l.owed))
    × SumsIn (2 * l.i) l.sums
