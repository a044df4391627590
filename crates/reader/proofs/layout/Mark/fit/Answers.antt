use Rattle.reader.proofs.Askings.{fit_is, fit_within}
use Rattle.std.proofs.Common.{◌≡◌, arith}
use Rattle.reader.specs.Layouts.{fitting}
use Rattle.reader.proofs.layout.Mark.fit.Goals as goal

pub returns : goal.returns
returns c =
    let m = c.args.self in
    let line = c.args.line.now in
    let counted : c.fitting.result ≡ fitting m line = fit_is m _ line _ c.layout.ensures.value c.fitting.ensures.value in
    record { value = counted; bound = omega (arith, counted, fit_within m line c.requires.within) }
