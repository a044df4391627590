use Rattle.std.proofs.Common.{refl, rules}
use Rattle.std.proofs.lemmas.Slice.{overwrites}
use Rattle.text.proofs.writer.Writer.put.Goals as goal

pub returns : goal.returns
returns c = record {
  same = refl;
  put = record { ends = search rules; fits = search rules; front = search (rules, overwrites); rest = search (rules, overwrites) };
}
