-- The worked line follows from the law of its kind.
use Rattle.std.proofs.Common.{◌≡◌, ℕ, ◌+◌, ◌<◌, ◌≤◌, List, length, get_or, drop, pos, Some, None, Option, sym, ap, ◌∙◌, arith}
use borrow.Author.Differences.{ints}
use Rattle.std.proofs.lemmas.List.{at_drop_more, at_drop_all}
use Rattle.money.proofs.Rounding.{unique}
use Rattle.kinds.specs.declared.indexes.LastFive.{LastFive}
use Rattle.kinds.specs.Quoted.{state}
use Rattle.kinds.specs.MeanFacts.{mean_near}
use Rattle.kinds.specs.Indexes.{IndexPrice}
use Rattle.kinds.specs.Indexing.{five, five_after}
use Rattle.kinds.specs.Worked.{indexes, worked, WorkedLine}

-- five indexes have one right price
one_price : (o : Option ℕ) → IndexPrice (indexes worked) o → o ≡ Some 5520
one_price None h = absurd (omega (arith, h))
one_price (Some p) h =
    let e : pos p ≡ pos 5520 = unique (pos 27601) 5 (pos p) (pos 5520) (omega arith) h.1 (mean_near 27601 5 (omega arith)) in
    let same : p ≡ 5520 = omega (arith, ints, e) in
    ap Some same

pub worked_line : WorkedLine
worked_line k law = one_price _ (law.by_price (indexes worked))

-- one turn of a loop over prices, and its end
pub turn : (k j last : LastFive) (ps : List ℕ) (i : ℕ) → i < length ps → j ≡ five_after k (record { price = get_or ps i 0; quantity = 1 }) → state five k (indexes (drop i ps)) ≡ last → state five j (indexes (drop (i + 1) ps)) ≡ last
turn k j last ps i h e s =
    ap (λ (x : LastFive). state five x (indexes (drop (i + 1) ps))) e ∙ (sym (at_drop_more (λ (xs : List ℕ). state five k (indexes xs)) ps i 0 h) ∙ s)

pub ended : (k last : LastFive) (ps : List ℕ) (i : ℕ) → length ps ≤ i → state five k (indexes (drop i ps)) ≡ last → k ≡ last
ended k last ps i h s = sym (at_drop_all (λ (xs : List ℕ). state five k (indexes xs)) ps i h) ∙ s
