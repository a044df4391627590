-- What a call of a ledger answers, and what it writes on a page.
use Rattle.std.specs.Prelude.{List, ◌++◌, length, drop, Some, None, Ok, Err, Option, Result}
use Rattle.tally.specs.Answers.{Answer}
use Rattle.tally.specs.declared.call.Reply.{Reply}
use Rattle.tally.specs.declared.call.Reply.TheVariants.{Accepted}
use Rattle.tally.specs.declared.refusal.Refusal.{Refusal}

-- a result as an answer: what an accepted call says, or its refusal
abbrev pub told : {X : Type 0} → (X → Reply) → Result X Refusal → Answer
told says (Ok x) = Ok (says x)
told says (Err refusal) = Err refusal

-- a call that says no more than that it was accepted
abbrev pub plainly : Unit {0} → Reply
plainly _ = Accepted

-- a verdict as a call passes it on
abbrev pub judged : Option Refusal → Result (Unit {0}) Refusal
judged None = Ok tt
judged (Some refusal) = Err refusal

-- rows written from the top of a page: those below keep what they had
abbrev pub over : {X : Type 0} → List X → List X → List X
over rows was = rows ++ drop (length rows) was
