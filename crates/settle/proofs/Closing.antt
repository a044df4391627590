-- The closing line in its three parts.
use Rattle.std.proofs.Common.{◌≡◌, ℕ, List, [], ◌++◌, codes, decimal, Option, append_assoc}
use Rattle.settle.specs.Lines.{closing_line, final_text}

-- before the price
abbrev pub front : ℕ → ℕ → List ℕ
front records taken = codes "records " ++ (decimal records ++ (codes ", quotations taken " ++ (decimal taken ++ (codes ", " ++ []))))

-- behind the price
abbrev pub end : List ℕ
end = codes ", not served yet: AC TR NT MK DG EX\n"

pub closing : (records taken : ℕ) (price : Option ℕ) → (front records taken ++ final_text price) ++ end ≡ closing_line records taken price
unfolding closing_line
closing records taken price = simp append_assoc
