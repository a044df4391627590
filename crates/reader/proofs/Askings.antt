-- Which answer a line gets, from what was asked of it. Assumes nothing.
use Rattle.std.proofs.Common.{◌≡◌, ℕ, ◌+◌, ◌-◌, ◌<◌, ◌≤◌, Bool, true, false, cond, ltb, List, [], ◌∷◌, length, take, drop, Some, None, Err, Option, sym, refl, ap, ◌∙◌, arith, length-drop}
use Rattle.std.specs.Option.{ok_or}
use Rattle.std.specs.List.{common_prefix_len, prefix_len, zip}
use Rattle.std.proofs.lemmas.List.{take_rest}
use Rattle.std.proofs.lemmas.List.Sums.{common_prefix_len-le}
use Rattle.std.proofs.lemmas.Bool.{lt-ltb, le-ltb}
use Rattle.reader.specs.declared.fault.ReadFault.TheVariants.{UnknownMark, Misfit, OutOfTurn, Unlisted}
use Rattle.reader.specs.declared.layout.Class.{Class}
use Rattle.reader.specs.declared.layout.Mark.{Mark}
use Rattle.reader.specs.Entries.{Entry}
use Rattle.reader.specs.Layouts.{accepts, fitting, layout, marked, out_of_turn}
use Rattle.reader.specs.Readings.{asked, asked_of, asked_on, spelling, written}

-- bytes and classes counted pair by pair
pub fitting_pairs : (classes : List Class) (bytes : List ℕ) → prefix_len (λ p. accepts p.0 p.1) (zip classes bytes) ≡ common_prefix_len accepts classes bytes
fitting_pairs [] bytes = refl
fitting_pairs (c ∷ cs) [] = refl
fitting_pairs (c ∷ cs) (b ∷ bs) = ap (λ n. cond (accepts c b) (1 + n) 0) (fitting_pairs cs bs)

-- what was counted is what fits, and no more than the line has
pub fit_is : (m : Mark) (classes : List Class) (line : List ℕ) (n : ℕ) → classes ≡ layout m → n ≡ common_prefix_len accepts classes (take (length line - 2) (drop 2 line)) → n ≡ fitting m line
fit_is m classes line n is counted = counted ∙ ap (λ l. common_prefix_len accepts l (take (length line - 2) (drop 2 line))) is ∙ ap (common_prefix_len accepts (layout m)) (take_rest line 2)

pub fit_within : (m : Mark) (line : List ℕ) → 2 ≤ length line → 2 + fitting m line ≤ length line
fit_within m line long = omega (arith, (common_prefix_len-le accepts (layout m) (drop 2 line)).1, length-drop 2 line)

module _ (opened : Bool) (at : ℕ) (line : List ℕ) where
  pub unmarked : None ≡ marked line → Err (UnknownMark at) ≡ spelling opened at line
  unfolding spelling
  unmarked e = ap (asked_of opened at line) e

  module _ (m : Mark) (is : Some m ≡ marked line) where
    found : asked opened at line m ≡ spelling opened at line
    unfolding spelling
    found = ap (asked_of opened at line) is

    pub misfit : (place : ℕ) → fitting m line < length (layout m) → place ≡ at + 2 + fitting m line → Err (Misfit place) ≡ spelling opened at line
    misfit place short is_there =
        let test : ltb (fitting m line) (length (layout m)) ≡ true = lt-ltb _ _ short in
        ap (λ k. Err (Misfit k)) is_there ∙ sym (ap (λ b. cond b (Err (Misfit (at + 2 + fitting m line))) (asked_on opened at line m)) test) ∙ found

    module _ (whole : length (layout m) ≤ fitting m line) where
      passed : asked_on opened at line m ≡ spelling opened at line
      passed =
          let test : ltb (fitting m line) (length (layout m)) ≡ false = le-ltb _ _ whole in
          sym (ap (λ b. cond b (Err (Misfit (at + 2 + fitting m line))) (asked_on opened at line m)) test) ∙ found

      pub turned : true ≡ out_of_turn opened m → Err (OutOfTurn at) ≡ spelling opened at line
      turned e = ap (λ b. cond b (Err (OutOfTurn at)) (ok_or (written m line) (Unlisted at))) e ∙ passed

      pub in_turn : (o : Option (Entry (List ℕ))) → false ≡ out_of_turn opened m → o ≡ written m line → ok_or o (Unlisted at) ≡ spelling opened at line
      in_turn o e told = ap (λ w. ok_or w (Unlisted at)) told ∙ ap (λ b. cond b (Err (OutOfTurn at)) (ok_or (written m line) (Unlisted at))) e ∙ passed
