-- Marks, and which bytes follow each.
use Rattle.std.specs.Prelude.{ℕ, Bool, cond, not, ◌&&◌, ◌||◌, List, [], ◌∷◌, ◌++◌, take, drop, replicate, Some, None, codes, Option, ◌==◌, nat_le}
use Rattle.std.specs.List.{common_prefix_len}
use Rattle.std.specs.Str.{bytes_eq}
use Rattle.reader.specs.Cuts.{is_newline}
use Rattle.reader.specs.Fields.{is_digit}
use Rattle.reader.specs.declared.layout.Class.{Class}
use Rattle.reader.specs.declared.layout.Class.TheVariants.{Digit, Letter, Text, Residence, Newline}
use Rattle.reader.specs.declared.layout.Mark.{Mark}
use Rattle.reader.specs.declared.layout.Mark.TheVariants.{Opening, Registration, Trade, Quotation, Notice, Marking, Designation, Expiry}

-- which bytes a class takes: 0 to 9, A to Z, any but a newline, R or N, the newline
abbrev pub accepts : Class → ℕ → Bool
accepts Digit b = is_digit b
accepts Letter b = nat_le 65 b && nat_le b 90
accepts Text b = not (is_newline b)
accepts Residence b = b == 82 || b == 78
accepts Newline b = is_newline b

-- the two bytes of a mark
abbrev pub mark_code : Mark → List ℕ
mark_code Opening = codes "BK"
mark_code Registration = codes "AC"
mark_code Trade = codes "TR"
mark_code Quotation = codes "QT"
mark_code Notice = codes "NT"
mark_code Marking = codes "MK"
mark_code Designation = codes "DG"
mark_code Expiry = codes "EX"

-- all marks
abbrev pub marks : List Mark
marks = Opening ∷ Registration ∷ Trade ∷ Quotation ∷ Notice ∷ Marking ∷ Designation ∷ Expiry ∷ []

-- the one of a list that has these bytes as its code
abbrev pub coded : {X : Type 0} → (X → List ℕ) → List X → List ℕ → Option X
coded code [] bytes = None
coded code (x ∷ xs) bytes = cond (bytes_eq bytes (code x)) (Some x) (coded code xs bytes)

-- the mark that a line begins with
abbrev pub marked : List ℕ → Option Mark
marked line = coded mark_code marks (take 2 line)

-- a field of digits
abbrev pub digits : ℕ → List Class
digits width = replicate width Digit

-- the end of every record
abbrev pub ended : List Class
ended = Newline ∷ []

-- the classes of the bytes behind a mark, field by field
abbrev pub layout : Mark → List Class
layout Opening = replicate 3 Letter ++ replicate 1 Letter ++ digits 2 ++ digits 3 ++ digits 3 ++ digits 3 ++ ended
layout Registration = replicate 14 Text ++ replicate 1 Residence ++ ended
layout Trade = digits 2 ++ digits 2 ++ digits 6 ++ digits 4 ++ ended
layout Quotation = digits 6 ++ digits 4 ++ ended
layout Notice = digits 2 ++ digits 4 ++ ended
layout Marking = digits 6 ++ digits 7 ++ ended
layout Designation = ended
layout Expiry = ended

-- how many bytes of a line fit behind its mark
abbrev pub fitting : Mark → List ℕ → ℕ
fitting mark line = common_prefix_len accepts (layout mark) (drop 2 line)

-- whether a mark is the one that opens a book
abbrev pub opens_book : Mark → Bool
opens_book mark = bytes_eq (mark_code mark) (codes "BK")

-- a record that opens a book comes once, before any other
abbrev pub out_of_turn : Bool → Mark → Bool
out_of_turn opened mark = cond (opens_book mark) opened (not opened)
