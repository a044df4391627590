-- The contract that ends in delivery.
use Rattle.std.specs.Prelude.{◌≡◌, Bool, true, false, None, Err, refl}
use Rattle.std.proofs.lemmas.Bool.{false≢true}
use Rattle.kinds.specs.declared.delivering.Delivering.{Delivering}
use Rattle.kinds.specs.declared.quotation.KindFault.TheVariants.{Unfit}
use Rattle.kinds.specs.Meaning.{Meaning}
use Rattle.kinds.specs.Quoted.{Rule, Pricing}

-- no quotation is taken
abbrev pub delivery_rule : Rule
delivery_rule done q = Err Unfit

-- there is no final price
abbrev pub NoPrice : Pricing
NoPrice done o = o ≡ None

-- the kind, with its terms alone to remember
abbrev pub delivering : Meaning Delivering
delivering = record {
  size = λ k. k.terms.size;
  currency = λ k. k.terms.currency;
  tick = λ k. k.terms.tick;
  delivers = λ k. true;
  final = λ k. None;
  reply = λ k q. Err Unfit;
  after = λ k q. k;
  sized = λ k. k.terms.sized;
  ticked = λ k. k.terms.ticked;
  priced = λ k. tt;
  unmoved = λ k q _. refl;
  stays = λ k q. (refl, refl, refl, refl);
  fit = λ k q e. let z : ◌≡◌ {A = Bool} false true = e in absurd (false≢true z);
  no_price = λ k _. refl;
  takes_none = λ k q _. refl;
}
