use Rattle.std.proofs.Common.{get_or, ap, ◌∙◌, arith}
use Rattle.tally.specs.Questions.{nobody}
use Rattle.tally.specs.declared.rows.Account.{Account}
use Rattle.ledger.specs.Owings.{settled_with}
use Rattle.ledger.proofs.Beside.{read_unwritten, write_more}
use Rattle.ledger.proofs.settled.settle_accounts.Goals as goal

pub loop-i-preserved : goal.loop-i-preserved
loop-i-preserved c =
    let i = c.loop-i.i in
    let was = c.args.accounts.now in
    let os = c.args.owed.now in
    let f = settled_with c.args.settling in
    let read = read_unwritten f was os was c.loop-i.accounts i nobody (omega arith) c.requires.beside (omega arith) c.loop-i.invariant in
    let o = c.index-owed-i in
    let is = c.settled.ensures ∙ ap (λ (a : Account). f a o.result) read ∙ ap (f (get_or was i nobody)) o.is in
    write_more f was os was c.loop-i.accounts i nobody o.result (omega arith) c.requires.beside (omega arith) is c.loop-i.invariant
