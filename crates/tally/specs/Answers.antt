-- What a call is answered.
use Rattle.std.specs.Prelude.{Result}
use Rattle.tally.specs.declared.call.Reply.{Reply}
use Rattle.tally.specs.declared.refusal.Refusal.{Refusal}

-- what an accepted call brings, or why a call is turned down
abbrev pub Answer : Type 0
Answer = Result Reply Refusal
