-- The text of a line by its pieces.
use Rattle.std.specs.Prelude.{ℕ, List, [], ◌∷◌, ◌++◌, codes, decimal}
use Rattle.std.specs.Fmt.{signed_decimal}
use Rattle.std.specs.List.{flat_map}
use Rattle.text.specs.declared.pieces.Piece.{Piece}
use Rattle.text.specs.declared.pieces.Piece.TheVariants.{Word, Count, Amount}

-- words as they stand, numbers in decimal, a negative one behind a minus sign
abbrev pub piece_text : Piece → List ℕ
piece_text (Word t) = t.now
piece_text (Count n) = decimal n
piece_text (Amount z) = signed_decimal z

-- one after the other
abbrev pub pieces_text : List Piece → List ℕ
pieces_text ps = flat_map piece_text ps

-- a field of a line stands behind a space
abbrev pub field_text : Piece → List ℕ
field_text p = codes " " ++ piece_text p

-- the fields one after the other, and a newline
abbrev pub fields_text : List Piece → List ℕ
fields_text [] = codes "\n"
fields_text (p ∷ ps) = field_text p ++ fields_text ps

-- a line: its mark, and its fields
abbrev pub line_text : List ℕ → List Piece → List ℕ
line_text mark fields = mark ++ fields_text fields
