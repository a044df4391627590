use Rattle.std.proofs.Common.{sym}
use Rattle.std.proofs.lemmas.List.{take_rest}
use Rattle.reader.proofs.Cutting.{ended_at, unended}
use Rattle.reader.proofs.reading.line_end.Goals as goal

pub returns-in-Some-clause-first : goal.returns-in-Some-clause-first
returns-in-Some-clause-first c = ended_at _ _ _ c.requires.within (sym (rw take_rest at c.in-Some.ensures))

pub returns-in-None-clause-first : goal.returns-in-None-clause-first
returns-in-None-clause-first c = unended _ _ c.requires.within (sym (rw take_rest at c.in-None.ensures))
