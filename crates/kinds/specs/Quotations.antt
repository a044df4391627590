-- Quotations, and a kind's reply to one.
use Rattle.std.specs.Prelude.{ℕ, Bool, ◌&&◌, Result}
use Rattle.money.specs.Ranges.{is_price}
use Rattle.kinds.specs.declared.quotation.KindFault.{KindFault}
use Rattle.kinds.specs.declared.quotation.KindFault.TheVariants.{Unfit, Full}
use Rattle.kinds.specs.declared.quotation.Quotation.{Quotation}
use Rattle.kinds.specs.Limits.{is_quantity}

-- the number that each refusal of a kind's own is shown by
abbrev pub fault_number : KindFault → ℕ
fault_number Unfit = 14
fault_number Full = 14

-- a quotation within the ranges of prices and quantities: no kind takes another
abbrev pub quotable : Quotation → Bool
quotable q = is_price q.price && is_quantity q.quantity

-- what a kind says to a quotation: taken, or which of its refusals
abbrev pub Reply : Type 0
Reply = Result (Unit {0}) KindFault
