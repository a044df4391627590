use Rattle.std.proofs.Common.{sym, refl, arith, rules}
use Rattle.kinds.proofs.FivePlaces.{took, moved, refused}
use Rattle.kinds.proofs.indexes.kind.LastFiveContract.quote.Goals as goal

pub returns-then-not-is_index : goal.returns-then-not-is_index
returns-then-not-is_index c =
    let e = refused c.args.self.now c.args.quotation (sym c.if-not-is_index.ensures) in
    record { answer = e.0; after = e.1 }

pub returns : goal.returns
returns c =
    let e = sym c.if-not-is_index.ensures in
    record {
      answer = took c.args.self.now c.args.quotation e;
      after = moved c.args.self.now _ c.args.quotation e refl (search rules) (omega (arith, c.min-self.ensures));
    }
