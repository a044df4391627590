-- The kind that ends at a weighted average, by the two sums that it keeps.
use Rattle.std.specs.Prelude.{◌≡◌, ◌+◌, ◌*◌, false, is_ok, refl}
use mathlib.Core.HLevel.{is_prop→PathP, ×₃_prop}
use Rattle.std.proofs.Math.Bridge.{le_prop}
use Rattle.std.proofs.lemmas.Bool.{false≢true}
use Rattle.kinds.specs.declared.quotation.Quotation.{Quotation}
use Rattle.kinds.specs.declared.weighted.WeightedAverage.{WeightedAverage}
use Rattle.kinds.specs.Meaning.{Meaning}
use Rattle.kinds.specs.Means.{mean_price}
use Rattle.kinds.specs.MeanFacts.{priced_mean}
use Rattle.kinds.specs.Averages.{average_reply, SumsFit}
use Rattle.kinds.specs.AverageFacts.{added, grown, none_added, was_taken}

-- a quotation that is taken adds to both sums
abbrev pub weighted_after : WeightedAverage → Quotation → WeightedAverage
weighted_after k q = record {
  terms = k.terms;
  value = k.value + added k.quantity q (q.price * q.quantity);
  quantity = k.quantity + added k.quantity q q.quantity;
  ok = grown k.value k.quantity q k.ok;
}

-- two are the same where their terms and sums are
pub same_average : (a b : WeightedAverage) → a.terms ≡ b.terms → a.value ≡ b.value → a.quantity ≡ b.quantity → a ≡ b
same_average a b t v n = λ i. record {
  terms = t i;
  value = v i;
  quantity = n i;
  ok = is_prop→PathP (λ j. SumsFit (v j) (n j)) (λ j. ×₃_prop le_prop le_prop le_prop) a.ok b.ok i;
}

pub weighted_unmoved : (k : WeightedAverage) (q : Quotation) → is_ok (average_reply k.quantity q) ≡ false → weighted_after k q ≡ k
weighted_unmoved k q e =
    same_average (weighted_after k q) k refl (none_added _ k.value (q.price * q.quantity) e) (none_added _ k.quantity q.quantity e)

-- the kind: it replies by the quantity so far, and ends at the mean of its sums
abbrev pub weighted : Meaning WeightedAverage
weighted = record {
  size = λ k. k.terms.size;
  currency = λ k. k.terms.currency;
  tick = λ k. k.terms.tick;
  delivers = λ k. false;
  final = λ k. mean_price k.value k.quantity;
  reply = λ k q. average_reply k.quantity q;
  after = weighted_after;
  sized = λ k. k.terms.sized;
  ticked = λ k. k.terms.ticked;
  priced = λ k. priced_mean k.value k.quantity k.ok.1 k.ok.2;
  unmoved = weighted_unmoved;
  stays = λ k q. (refl, refl, refl, refl);
  fit = λ k q e. (was_taken k.quantity q e).fits;
  no_price = λ k e. absurd (false≢true e);
  takes_none = λ k q e. absurd (false≢true e);
}
