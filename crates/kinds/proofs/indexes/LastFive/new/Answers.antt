use Rattle.std.proofs.Common.{arith, rules}
use Rattle.kinds.proofs.IndexShown.{index_obeys}
use Rattle.kinds.proofs.indexes.LastFive.new.Goals as goal

pub returns : goal.returns
returns c = record { size = search rules; currency = search rules; tick = search rules; ends = search rules; unpriced = search rules; law = index_obeys _ (search rules) (omega arith) }
