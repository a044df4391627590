use Rattle.std.proofs.Common.{subst}
use Rattle.text.specs.Writers.{Writes}
use Rattle.desk.specs.Places.{lines_left}
use Rattle.desk.proofs.Sharings.{run_told}
use Rattle.desk.proofs.run.Desk.serve.Goals as goal

pub returns : goal.returns
returns g c =
    let reader = c.args.self.now.reader in
    let ls = lines_left reader in
    let told = run_told g.K.Contract.means c.args.kind c.args.opening reader.number reader.at ls _ _ _ _ _ _ _ _ c.requires.kind c.requires.built c.gather-count.ensures.calls c.args.self.now.log_fits c.args.self.now.pages_fit c.in-Ok.ensures.law in
    subst (λ t. Writes c.args.out.now t c.tell.new.out c.tell.result) told c.tell.ensures
