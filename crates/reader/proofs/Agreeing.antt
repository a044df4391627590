-- In a line that fits its layout every field of digits has its value. Assumes nothing.
use Rattle.std.proofs.Common.{◌≡◌, ℕ, zero, suc, ◌+◌, ◌≤◌, Bool, true, false, cond, ◌&&◌, ltb, List, [], ◌∷◌, length, get_or, take, drop, Some, None, Err, Option, refl, subst, arith, length-take}
use Rattle.std.specs.Option.{ok_or}
use Rattle.std.specs.Str.Parse.{digits_value}
use Rattle.std.specs.List.{common_prefix_len}
use Rattle.std.proofs.lemmas.List.{drop-drop}
use Rattle.std.proofs.lemmas.List.Sums.{common_prefix_len-le}
use Rattle.std.proofs.lemmas.Bool.{ltb-false}
use Rattle.std.proofs.lemmas.Bool.Decides.{nat_tests}
use Rattle.kinds.specs.declared.months.Ticker.{Ticker}
use Rattle.kinds.specs.Months.{listed_month}
use Rattle.reader.specs.declared.fault.ReadFault.TheVariants.{Misfit, OutOfTurn, Unlisted}
use Rattle.reader.specs.declared.layout.Class.{Class}
use Rattle.reader.specs.declared.layout.Class.TheVariants.{Digit}
use Rattle.reader.specs.declared.layout.Mark.{Mark}
use Rattle.reader.specs.declared.layout.Mark.TheVariants.{Opening, Registration, Trade, Quotation, Notice, Marking, Designation, Expiry}
use Rattle.reader.specs.Entries.{Entry}
use Rattle.reader.specs.Fields.{all_digits, number_of}
use Rattle.reader.specs.Layouts.{accepts, digits, fitting, layout, marked, out_of_turn}
use Rattle.reader.specs.Readings.{asked_of, asked_on, in_numbers, opening_in, opening_on, part, reading, spelling, ticker_of, written}

-- what fits throughout fits from any place on
past : {X Y : Type 0} (e : X → Y → Bool) (n : ℕ) (xs : List X) (ys : List Y) → common_prefix_len e xs ys ≡ length xs → common_prefix_len e (drop n xs) (drop n ys) ≡ length (drop n xs)
past e zero xs ys h = h
past e (suc n) [] ys h = refl
past e (suc n) (x ∷ xs) [] h = absurd (omega arith)
past e (suc n) (x ∷ xs) (y ∷ ys) h =
    (elim (e x y) as (λ t. cond t (1 + common_prefix_len e xs ys) 0 ≡ suc (length xs) → common_prefix_len e (drop n xs) (drop n ys) ≡ length (drop n xs)) [
      | true ↦ λ k. past e n xs ys (omega arith)
      | false ↦ λ k. absurd (omega arith)
    ]) h

-- where digits belong, digits stand
front : (n : ℕ) (cs : List Class) (bs : List ℕ) → common_prefix_len accepts cs bs ≡ length cs → take n cs ≡ digits n → all_digits (take n bs) ≡ true
front zero cs bs h is = refl
front (suc n) [] bs h is = absurd (let z : ◌≡◌ {A = ℕ} 0 1 = cc in omega arith)
front (suc n) (c ∷ cs) [] h is = refl
front (suc n) (c ∷ cs) (b ∷ bs) h is =
    let here : c ≡ Digit = cc in
    let rest : take n cs ≡ digits n = cc in
    let fits : cond (accepts Digit b) (1 + common_prefix_len accepts cs bs) 0 ≡ suc (length cs) = subst (λ d. cond (accepts d b) (1 + common_prefix_len accepts cs bs) 0 ≡ suc (length cs)) here h in
    (elim (accepts Digit b) as (λ t. cond t (1 + common_prefix_len accepts cs bs) 0 ≡ suc (length cs) → (t && all_digits (take n bs)) ≡ true) [
      | true ↦ λ k. front n cs bs (omega arith) rest
      | false ↦ λ k. absurd (omega arith)
    ]) fits

worth : (bytes : List ℕ) → length bytes ≤ 9 → all_digits bytes ≡ true → number_of bytes ≡ digits_value 10 bytes
unfolding number_of
worth bytes short all = grind (arith, nat_tests)

-- a line that fits its mark's layout
abbrev Whole : Mark → List ℕ → Type 0
Whole m line = fitting m line ≡ length (layout m)

-- a field of digits of such a line
field : (m : Mark) (line : List ℕ) → Whole m line → (n w : ℕ) → take w (drop n (layout m)) ≡ digits w → w ≤ 9 → number_of (part (2 + n) w line) ≡ digits_value 10 (part (2 + n) w line)
field m line whole n w is short =
    let stand : all_digits (take w (drop n (drop 2 line))) ≡ true = front w (drop n (layout m)) (drop n (drop 2 line)) (past accepts n (layout m) (drop 2 line) whole) is in
    subst (λ l. number_of (take w l) ≡ digits_value 10 (take w l)) (drop-drop n 2 line) (worth (take w (drop n (drop 2 line))) (omega (arith, length-take w (drop n (drop 2 line)))) stand)

module _ (at : ℕ) (line : List ℕ) where
  abbrev Same : Option (Entry (List ℕ)) → Type 0
  Same o = in_numbers number_of (ok_or o (Unlisted at)) ≡ in_numbers (digits_value 10) (ok_or o (Unlisted at))

  opened_in : (whole : Whole Opening line) (ticker : Ticker) (month : Option ℕ) → Same (opening_in ticker month line)
  opened_in whole ticker None = refl
  opened_in whole ticker (Some month) = cc (field Opening line whole 4 2 refl (omega arith), field Opening line whole 6 3 refl (omega arith), field Opening line whole 9 3 refl (omega arith), field Opening line whole 12 3 refl (omega arith))

  opened_on : (whole : Whole Opening line) (ticker : Option Ticker) → Same (opening_on ticker line)
  opened_on whole None = refl
  opened_on whole (Some ticker) = opened_in whole ticker (listed_month ticker (get_or line 5 0))

  same_written : (m : Mark) → Whole m line → Same (written m line)
  same_written Opening whole = opened_on whole (ticker_of (part 2 3 line))
  same_written Registration whole = refl
  same_written Trade whole = cc (field Trade line whole 0 2 refl (omega arith), field Trade line whole 2 2 refl (omega arith), field Trade line whole 4 6 refl (omega arith), field Trade line whole 10 4 refl (omega arith))
  same_written Quotation whole = cc (field Quotation line whole 0 6 refl (omega arith), field Quotation line whole 6 4 refl (omega arith))
  same_written Notice whole = cc (field Notice line whole 0 2 refl (omega arith), field Notice line whole 2 4 refl (omega arith))
  same_written Marking whole = cc (field Marking line whole 0 6 refl (omega arith), field Marking line whole 6 7 refl (omega arith))
  same_written Designation whole = refl
  same_written Expiry whole = refl

  same_asked : (opened : Bool) (o : Option Mark) → in_numbers number_of (asked_of opened at line o) ≡ in_numbers (digits_value 10) (asked_of opened at line o)
  same_asked opened None = refl
  same_asked opened (Some m) =
      (elim (ltb (fitting m line) (length (layout m))) as (λ t. ltb (fitting m line) (length (layout m)) ≡ t → in_numbers number_of (cond t (Err (Misfit (at + 2 + fitting m line))) (asked_on opened at line m)) ≡ in_numbers (digits_value 10) (cond t (Err (Misfit (at + 2 + fitting m line))) (asked_on opened at line m))) [
        | true ↦ λ short. refl
        | false ↦ λ long.
            let whole : Whole m line = omega (arith, ltb-false _ _ long, (common_prefix_len-le accepts (layout m) (drop 2 line)).0) in
            elim (out_of_turn opened m) as (λ t. in_numbers number_of (cond t (Err (OutOfTurn at)) (ok_or (written m line) (Unlisted at))) ≡ in_numbers (digits_value 10) (cond t (Err (OutOfTurn at)) (ok_or (written m line) (Unlisted at)))) [
              | true ↦ refl
              | false ↦ same_written m whole
            ]
      ]) refl

-- a line's numbers are what its fields write
pub numbers_agree : (opened : Bool) (at : ℕ) (line : List ℕ) → in_numbers number_of (spelling opened at line) ≡ reading opened at line
unfolding spelling reading
numbers_agree opened at line = same_asked at line opened (marked line)
