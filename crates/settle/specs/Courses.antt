-- What is asked of a quotation, by the course of a contract's quotations.
use Rattle.std.specs.Prelude.{cond, Ok, Err, Result}
use Rattle.money.specs.Ranges.{is_price}
use Rattle.kinds.specs.Limits.{is_quantity}
use Rattle.kinds.specs.Quotations.{Reply, quotable}
use Rattle.kinds.specs.declared.quotation.Quotation.{Quotation}
use Rattle.tally.specs.declared.refusal.Refusal.{Refusal}
use Rattle.tally.specs.declared.refusal.Refusal.TheVariants.{Unpriced, Uncounted, Unquoted}
use Rattle.desk.specs.Courses.{Course}

-- the kind's reply as the book's
abbrev pub of_kind : Reply → Result (Unit {0}) Refusal
of_kind (Ok done) = Ok done
of_kind (Err fault) = Err (Unquoted fault)

-- the book asks for the price first, then for the quantity, and then the kind
abbrev pub quoting : {S : Type 0} → Course S → S → Quotation → Result (Unit {0}) Refusal
quoting c s q = cond (is_price q.price) (cond (is_quantity q.quantity) (of_kind (c.reply s q)) (Err Uncounted)) (Err Unpriced)

-- the kind hears of a quotation that is within the ranges
abbrev pub quoted : {S : Type 0} → Course S → S → Quotation → S
quoted c s q = cond (quotable q) (c.after s q) s
