-- The kind that ends at the mean of its last five indexes, by the five places that it keeps.
use Rattle.std.specs.Prelude.{◌≡◌, ◌+◌, min, false, cond, None, Ok, Err, sum, nat_le, refl}
use mathlib.Core.HLevel.{is_prop→PathP, ×₃_prop}
use Rattle.std.proofs.Math.Bridge.{le_prop}
use std.HLevel.{Π_prop}
use Rattle.std.specs.Coded.{coded_ℕ, coded_bool}
use denote.Struct.Props.{≡_prop}
use Rattle.std.proofs.lemmas.Bool.{false≢true, cond-false}
use Rattle.kinds.specs.declared.indexes.LastFive.{LastFive}
use Rattle.kinds.specs.declared.quotation.KindFault.TheVariants.{Unfit}
use Rattle.kinds.specs.declared.quotation.Quotation.{Quotation}
use Rattle.kinds.specs.Meaning.{Meaning}
use Rattle.kinds.specs.Means.{mean_price}
use Rattle.kinds.specs.Indexes.{is_index, FiveFit}
use Rattle.kinds.specs.IndexFacts.{shifted, passed, not_taken, was_taken, quotable_index, priced_five}

-- an index takes the last place, and the others move up
abbrev pub five_after : LastFive → Quotation → LastFive
five_after k q = record {
  terms = k.terms;
  last = cond (is_index q) (shifted k.last q.price) k.last;
  held = cond (is_index q) (min 5 (k.held + 1)) k.held;
  ok = passed k.last k.held q k.ok;
}

-- two are the same where their terms and places are
pub same_five : (a b : LastFive) → a.terms ≡ b.terms → a.last ≡ b.last → a.held ≡ b.held → a ≡ b
same_five a b t l n = λ i. record {
  terms = t i;
  last = l i;
  held = n i;
  ok = is_prop→PathP (λ j. FiveFit (l j) (n j)) (λ j. ×₃_prop (≡_prop coded_ℕ _ _) le_prop (Π_prop (λ x. Π_prop (λ _. ≡_prop coded_bool _ _)))) a.ok b.ok i;
}

pub five_unmoved : (k : LastFive) (q : Quotation) → is_index q ≡ false → five_after k q ≡ k
five_unmoved k q e = same_five (five_after k q) k refl (cond-false (is_index q) _ _ e) (cond-false (is_index q) _ _ e)

-- the kind: it takes an index, and ends at the mean of the five places once they are filled
abbrev pub five : Meaning LastFive
five = record {
  size = λ k. k.terms.size;
  currency = λ k. k.terms.currency;
  tick = λ k. k.terms.tick;
  delivers = λ k. false;
  final = λ k. cond (nat_le 5 k.held) (mean_price (sum k.last) 5) None;
  reply = λ k q. cond (is_index q) (Ok tt) (Err Unfit);
  after = five_after;
  sized = λ k. k.terms.sized;
  ticked = λ k. k.terms.ticked;
  priced = λ k. priced_five k.last k.held k.ok;
  unmoved = λ k q e. five_unmoved k q (not_taken (is_index q) e);
  stays = λ k q. (refl, refl, refl, refl);
  fit = λ k q e. quotable_index q (was_taken (is_index q) e);
  no_price = λ k e. absurd (false≢true e);
  takes_none = λ k q e. absurd (false≢true e);
}
