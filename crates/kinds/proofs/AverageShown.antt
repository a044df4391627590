-- The two sums show the quotations taken, so the weighted average obeys its rule.
use Rattle.std.proofs.Common.{◌≡◌, ℕ, ◌*◌, ◌<◌, ◌≤◌, Bool, true, false, cond, eqb, List, [], ◌∷◌, ◌++◌, length, pos, is_ok, Some, None, refl, ap, subst, arith}
use Rattle.std.proofs.lemmas.List.{length_push}
use Rattle.std.proofs.lemmas.List.Sums.{sum_by_push}
use Rattle.std.proofs.lemmas.Bool.{cond-true, eqb-true, eqb-false}
use Rattle.money.specs.Nearest.{Nearest, nearest_size}
use Rattle.kinds.specs.declared.quotation.Quotation.{Quotation}
use Rattle.kinds.specs.declared.weighted.WeightedAverage.{WeightedAverage}
use Rattle.kinds.specs.Quoted.{Obeys}
use Rattle.kinds.specs.Averages.{quantities, values, average_reply, average_rule, AveragePrice}
use Rattle.kinds.specs.AverageFacts.{ranged, was_taken}
use Rattle.kinds.specs.MeanFacts.{mean_near}
use Rattle.kinds.specs.Weighting.{weighted, weighted_after}
use Rattle.kinds.proofs.Showing.{Shown, obeys}

-- the sums are those of the quotations taken, and each of these weighs something
pub record Sums (v w : ℕ) (done : List Quotation) : Type 0 where
  pub value_is : v ≡ values done
  pub quantity_is : w ≡ quantities done
  pub weighs : length done ≤ w
  pub none : length done ≡ 0 → w ≡ 0

abbrev Shows : WeightedAverage → List Quotation → Type 0
Shows k done = Sums k.value k.quantity done

price_shown : (v w : ℕ) (done : List Quotation) → Sums v w done → (b : Bool) → eqb w 0 ≡ b → AveragePrice done (cond b None (Some (nearest_size v w)))
price_shown v w done s true e = omega (arith, eqb-true w 0 e, s.weighs)
price_shown v w done s false e =
    let some : 0 < w = omega (arith, eqb-false w 0 e) in
    let taken : 1 ≤ length done = some_of (length done) (λ z. eqb-false w 0 e (s.none z)) in
    (taken, subst (λ (x : ℕ). Nearest (pos x) (quantities done) (pos (nearest_size v w))) s.value_is (subst (λ (y : ℕ). Nearest (pos v) y (pos (nearest_size v w))) s.quantity_is (mean_near v w some)))
  where
    some_of : (n : ℕ) → (n ≡ 0 → ⊥) → 1 ≤ n
    some_of n h = omega (arith, h)

push : (k : WeightedAverage) (done : List Quotation) (q : Quotation) → Shows k done → is_ok (average_reply k.quantity q) ≡ true → Shows (weighted_after k q) (done ++ (q ∷ []))
push k done q s e =
    let c = cond-true (is_ok (average_reply k.quantity q)) q.quantity 0 e in
    let d = cond-true (is_ok (average_reply k.quantity q)) (q.price * q.quantity) 0 e in
    let some = (ranged q (was_taken k.quantity q e).fits).some in
    let n = length_push done q in
    record {
      value_is = omega (arith, d, s.value_is, sum_by_push (λ (x : Quotation). x.price * x.quantity) done q);
      quantity_is = omega (arith, c, s.quantity_is, sum_by_push (λ (x : Quotation). x.quantity) done q);
      weighs = omega (arith, c, n, some, s.weighs);
      none = λ z. absurd (omega (arith, n, z));
    }

average_shown : Shown weighted average_rule AveragePrice Shows
average_shown = record {
  alike = λ k done q s. ap (λ (n : ℕ). average_reply n q) s.quantity_is;
  takes = push;
  prices = λ k done s. price_shown k.value k.quantity done s (eqb k.quantity 0) refl;
}

pub average_obeys : (k : WeightedAverage) → k.value ≡ 0 → k.quantity ≡ 0 → Obeys weighted k average_rule AveragePrice
average_obeys k v w =
    obeys average_shown k (record { value_is = v; quantity_is = w; weighs = omega arith; none = λ _. w })
