-- The law of the lines. Assumes nothing.
use Rattle.std.proofs.Common.{◌≡◌, ℕ, zero, suc, ◌+◌, ◌<◌, Bool, true, false, cond, List, [], ◌∷◌, length, get_or, count_by, refl, ap, ◌∙◌, arith}
use Rattle.std.specs.List.{flat_map, AllByRecursion}
use Rattle.std.proofs.lemmas.List.Sums.{sum_by-cons}
use Rattle.std.proofs.lemmas.Bool.{eqb-true, eqb-false}
use Rattle.reader.specs.Cuts.{is_newline, last_or, lines, onto_first, unended, LinesLaw}
use Rattle.reader.proofs.Cutting.{lines_first}

joined_onto : (b : ℕ) (ls : List (List ℕ)) → flat_map (λ l. l) (onto_first b ls) ≡ b ∷ flat_map (λ l. l) ls
joined_onto b [] = refl
joined_onto b (l ∷ ls) = refl

covered : (s : List ℕ) → flat_map (λ l. l) (lines s) ≡ s
unfolding lines
covered [] = refl
covered (b ∷ bs) =
    elim (is_newline b) as (λ t. flat_map (λ l. l) (cond t ((b ∷ []) ∷ lines bs) (onto_first b (lines bs))) ≡ b ∷ bs) [
      | true ↦ ap (λ l. b ∷ l) (covered bs)
      | false ↦ joined_onto b (lines bs) ∙ ap (λ l. b ∷ l) (covered bs)
    ]

abbrev Filled : List ℕ → Type 0
Filled line = 0 < length line

filled_onto : (b : ℕ) (ls : List (List ℕ)) → AllByRecursion Filled ls → AllByRecursion Filled (onto_first b ls)
filled_onto b [] all = (omega arith, tt)
filled_onto b (l ∷ ls) all = (omega arith, all.1)

filled : (s : List ℕ) → AllByRecursion Filled (lines s)
unfolding lines
filled [] = tt
filled (b ∷ bs) =
    elim (is_newline b) as (λ t. AllByRecursion Filled (cond t ((b ∷ []) ∷ lines bs) (onto_first b (lines bs)))) [
      | true ↦ (omega arith, filled bs)
      | false ↦ filled_onto b (lines bs) (filled bs)
    ]

-- no newline stands before the last byte
abbrev Ended : List ℕ → Type 0
Ended line = (k : ℕ) → k + 1 < length line → get_or line k 0 ≡ 10 → ⊥

ended_more : (b : ℕ) (line : List ℕ) → (b ≡ 10 → ⊥) → Ended line → Ended (b ∷ line)
ended_more b line apart end zero h e = apart e
ended_more b line apart end (suc k) h e = end k (omega arith) e

ended_onto : (b : ℕ) (ls : List (List ℕ)) → (b ≡ 10 → ⊥) → AllByRecursion Ended ls → AllByRecursion Ended (onto_first b ls)
ended_onto b [] apart all = (λ k h e. omega arith, tt)
ended_onto b (l ∷ ls) apart all = (ended_more b l apart all.0, all.1)

ended : (s : List ℕ) → AllByRecursion Ended (lines s)
unfolding lines
ended [] = tt
ended (b ∷ bs) =
    (elim (is_newline b) as (λ t. is_newline b ≡ t → AllByRecursion Ended (cond t ((b ∷ []) ∷ lines bs) (onto_first b (lines bs)))) [
      | true ↦ λ is. (λ k h e. omega arith, ended bs)
      | false ↦ λ is. ended_onto b (lines bs) (eqb-false b 10 is) (ended bs)
    ]) refl

length_onto : (b : ℕ) (ls : List (List ℕ)) → 0 < length ls → length (onto_first b ls) ≡ length ls
length_onto b [] some = absurd (omega arith)
length_onto b (l ∷ ls) some = refl

abbrev Counted : List ℕ → Type 0
Counted s = length (lines s) ≡ count_by is_newline s + unended s

-- one byte more, a newline or not
count_more : (b : ℕ) (bs : List ℕ) (t : Bool) → is_newline b ≡ t → count_by is_newline (b ∷ bs) ≡ cond t 1 0 + count_by is_newline bs
count_more b bs t is = sum_by-cons (λ x. cond (is_newline x) 1 0) b bs ∙ ap (λ x. cond x 1 0 + count_by is_newline bs) is

counted_newline : (b : ℕ) (bs : List ℕ) → is_newline b ≡ true → Counted bs → suc (length (lines bs)) ≡ count_by is_newline (b ∷ bs) + unended (b ∷ bs)
counted_newline b bs is rest =
    let last : unended (b ∷ bs) ≡ unended bs = ap (λ x. cond (is_newline (last_or x bs)) 0 1) (eqb-true b 10 is) in
    omega (arith, count_more b bs true is, last, rest)

counted_other : (b : ℕ) (bs : List ℕ) → is_newline b ≡ false → Counted bs → length (onto_first b (lines bs)) ≡ count_by is_newline (b ∷ bs) + unended (b ∷ bs)
unfolding lines
counted_other b [] is rest =
    let last : unended (b ∷ []) ≡ 1 = ap (λ t. cond t 0 1) is in
    omega (arith, count_more b [] false is, last)
counted_other b (c ∷ cs) is rest =
    let some : 0 < length (lines (c ∷ cs)) = omega (arith, ap length (lines_first (c ∷ cs) (omega arith))) in
    omega (arith, length_onto b (lines (c ∷ cs)) some, rest, count_more b (c ∷ cs) false is)

counted : (s : List ℕ) → Counted s
unfolding lines
counted [] = refl
counted (b ∷ bs) =
    (elim (is_newline b) as (λ t. is_newline b ≡ t → length (cond t ((b ∷ []) ∷ lines bs) (onto_first b (lines bs))) ≡ count_by is_newline (b ∷ bs) + unended (b ∷ bs)) [
      | true ↦ λ is. counted_newline b bs is (counted bs)
      | false ↦ λ is. counted_other b bs is (counted bs)
    ]) refl

pub lines_law : LinesLaw
lines_law = record { covered = covered; filled = filled; ended = ended; counted = counted }
