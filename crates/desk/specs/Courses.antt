-- The course of a contract's quotations: what is said to each, and what the contract ends at.
use Rattle.std.specs.Prelude.{ℕ, Option}
use Rattle.kinds.specs.Meaning.{Meaning}
use Rattle.kinds.specs.Quotations.{Reply}
use Rattle.kinds.specs.declared.quotation.Quotation.{Quotation}

-- over whatever is remembered of the quotations: the reply to the next, what is remembered then, and the final price, once there is one
pub record Course (S : Type 0) : Type 0 where
  pub reply : S → Quotation → Reply
  pub after : S → Quotation → S
  pub final : S → Option ℕ

-- the course of a kind, which remembers its own state
abbrev pub course : {K : Type 0} → Meaning K → Course K
course m = record { reply = m.reply; after = m.after; final = m.final }
