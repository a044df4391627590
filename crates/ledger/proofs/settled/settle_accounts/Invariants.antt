use Rattle.std.proofs.Common.{◌≡◌, ◌++◌, take, drop}
use lib.Lanes.{zip2}
use Rattle.ledger.specs.Owings.{settled_with}
use Rattle.ledger.proofs.settled.settle_accounts.Given as goal

-- the rows written so far
abbrev pub invariant-loop-i : goal.invariant-loop-i
invariant-loop-i l = l.accounts ≡ zip2 (settled_with l.settling) (take l.i l.initial.accounts) (take l.i l.owed) ++ drop l.i l.initial.accounts
