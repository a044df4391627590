-- The kind that delivers obeys its rule.
use Rattle.std.proofs.Common.{List, refl}
use Rattle.std.proofs.lemmas.Bool.{false≢true}
use Rattle.kinds.specs.declared.delivering.Delivering.{Delivering}
use Rattle.kinds.specs.declared.quotation.Quotation.{Quotation}
use Rattle.kinds.specs.Quoted.{Obeys}
use Rattle.kinds.specs.Delivery.{delivery_rule, NoPrice, delivering}
use Rattle.kinds.proofs.Showing.{Shown, obeys}

abbrev Shows : Delivering → List Quotation → Type 0
Shows k done = Unit {0}

none_shown : Shown delivering delivery_rule NoPrice Shows
none_shown = record {
  alike = λ k done q s. refl;
  takes = λ k done q s e. absurd (false≢true e);
  prices = λ k done s. refl;
}

pub none_obeys : (k : Delivering) → Obeys delivering k delivery_rule NoPrice
none_obeys k = obeys none_shown k tt
