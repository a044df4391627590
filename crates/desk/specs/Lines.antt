-- The lines of a report.
use Rattle.std.specs.Prelude.{ℕ, List, ◌++◌, codes, decimal}
use Rattle.std.specs.Fmt.{signed_decimal}
use Rattle.std.specs.List.{flat_map}
use Rattle.tally.specs.Book.{numbered}
use Rattle.tally.specs.declared.rows.Designation.{Designation}
use Rattle.tally.specs.declared.rows.PageRow.{PageRow}
use Rattle.tally.specs.declared.rows.Sums.{Sums}
use Rattle.desk.specs.declared.faults.Fault.{Fault}
use Rattle.desk.specs.Refusals.{layer_of, number_of, place_of}

-- a refused record: its number, then the layer, the number and the place of the refusal
unfoldable pub refusal_line : ℕ → ℕ → Fault → List ℕ
refusal_line number start fault =
    codes "R " ++ (decimal number ++ (codes " " ++ (decimal (layer_of fault) ++ (codes " " ++ (decimal (number_of fault) ++ (codes " " ++ (decimal (place_of start fault) ++ codes "\n")))))))

-- an account on a page: session, account, day trade, margin
unfoldable pub row_line : ℕ → ℕ → PageRow → List ℕ
row_line session account row =
    codes "S " ++ (decimal session ++ (codes " " ++ (decimal account ++ (codes " " ++ (signed_decimal row.day_trade ++ (codes " " ++ (signed_decimal row.margin ++ codes "\n")))))))

-- what a page comes to: session, reais, dollars, remainder, lines
unfoldable pub totals_line : ℕ → Sums → List ℕ
totals_line session sums =
    codes "T " ++ (decimal session ++ (codes " " ++ (signed_decimal sums.reais ++ (codes " " ++ (signed_decimal sums.dollars ++ (codes " " ++ (signed_decimal sums.remainder ++ (codes " " ++ (decimal sums.lines ++ codes "\n")))))))))

-- a designation: buyer, seller, contracts, price
unfoldable pub designation_line : Designation → List ℕ
designation_line d =
    codes "D " ++ (decimal d.buyer ++ (codes " " ++ (decimal d.seller ++ (codes " " ++ (decimal d.contracts ++ (codes " " ++ (decimal d.price ++ codes "\n")))))))

-- the accounts of a page in number order
unfoldable pub rows_text : ℕ → List PageRow → List ℕ
rows_text session rows = flat_map (λ line. line) (numbered (row_line session) 1 rows)

-- a page: its accounts, and then what it comes to
abbrev pub page_text : ℕ → List PageRow → Sums → List ℕ
page_text session rows sums = rows_text session rows ++ totals_line session sums
