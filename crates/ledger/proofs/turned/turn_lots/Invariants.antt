use Rattle.std.proofs.Common.{◌≡◌, ◌+◌, ◌≤◌, map, length, drop, count_by}
use Rattle.tally.specs.Questions.{opens_lot}
use Rattle.tally.specs.Steps.{turned}
use Rattle.ledger.specs.Owings.{changed}
use Rattle.ledger.proofs.turned.turn_lots.Given as goal

-- the accounts still to come turn the lots as all do, and there is room for those that they open
abbrev pub invariant-loop-i : goal.invariant-loop-i
invariant-loop-i l =
    (turned l.session (l.i + 1) (map changed (drop l.i l.accounts)) l.lots ≡ turned l.session 1 (map changed l.accounts) l.initial.lots)
    × (length l.lots + count_by opens_lot (drop l.i l.accounts) ≤ 1024)
