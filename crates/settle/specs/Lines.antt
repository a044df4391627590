-- The last line of a report.
use Rattle.std.specs.Prelude.{ℕ, List, ◌++◌, Some, None, codes, decimal, Option}

-- the price that the contract ends at
abbrev pub final_text : Option ℕ → List ℕ
final_text None = codes "no final price"
final_text (Some cents) = codes "final price " ++ decimal cents

-- the last line: how many records there were, how many quotations were taken, the final price, and the records that are not served yet
unfoldable pub closing_line : ℕ → ℕ → Option ℕ → List ℕ
closing_line records taken final =
    codes "records " ++ (decimal records ++ (codes ", quotations taken " ++ (decimal taken ++ (codes ", " ++ (final_text final ++ codes ", not served yet: AC TR NT MK DG EX\n")))))
