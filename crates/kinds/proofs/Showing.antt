-- A kind obeys a rule where its states show the quotations taken.
use Rattle.std.proofs.Common.{◌≡◌, Bool, true, false, cond, List, [], ◌∷◌, ◌++◌, is_ok, sym, refl, ap, ◌∙◌, subst}
use Rattle.std.proofs.lemmas.List.{append-nil}
use Rattle.kinds.specs.declared.quotation.Quotation.{Quotation}
use Rattle.kinds.specs.Meaning.{Meaning}
use Rattle.kinds.specs.Quoted.{Rule, Pricing, Obeys, state, said, taken, replies, with_next}

pub record Shown {K : Type 0} (m : Meaning K) (rule : Rule) (Priced : Pricing) (Shows : K → List Quotation → Type 0) : Type 0 where
  pub alike : (k : K) (done : List Quotation) (q : Quotation) → Shows k done → m.reply k q ≡ rule done q
  pub takes : (k : K) (done : List Quotation) (q : Quotation) → Shows k done → is_ok (m.reply k q) ≡ true → Shows (m.after k q) (done ++ (q ∷ []))
  pub prices : (k : K) (done : List Quotation) → Shows k done → Priced done (m.final k)

module _ {K : Type 0} {m : Meaning K} {rule : Rule} {Priced : Pricing} {Shows : K → List Quotation → Type 0} (s : Shown m rule Priced Shows) where
  by_case : (k : K) (done : List Quotation) (q : Quotation) → Shows k done → (b : Bool) → is_ok (rule done q) ≡ b → Shows (m.after k q) (done ++ cond b (q ∷ []) [])
  by_case k done q h true e = s.takes k done q h (ap is_ok (s.alike k done q h) ∙ e)
  by_case k done q h false e =
      subst (λ (x : K). Shows x (done ++ [])) (sym (m.unmoved k q (ap is_ok (s.alike k done q h) ∙ e))) (subst (λ (d : List Quotation). Shows k d) (sym (append-nil done)) h)

  one_more : (k : K) (done : List Quotation) (q : Quotation) → Shows k done → Shows (m.after k q) (with_next rule done q)
  one_more k done q h = by_case k done q h (is_ok (rule done q)) refl

  all_said : (qs : List Quotation) (k : K) (done : List Quotation) → Shows k done → said m k qs ≡ replies rule done qs
  all_said [] k done h = refl
  all_said (q ∷ qs) k done h = let a = s.alike k done q h in let b = all_said qs (m.after k q) (with_next rule done q) (one_more k done q h) in cc

  all_shown : (qs : List Quotation) (k : K) (done : List Quotation) → Shows k done → Shows (state m k qs) (taken rule done qs)
  all_shown [] k done h = h
  all_shown (q ∷ qs) k done h = all_shown qs (m.after k q) (with_next rule done q) (one_more k done q h)

  pub obeys : (k : K) → Shows k [] → Obeys m k rule Priced
  obeys k h = record {
    by_rule = λ qs. all_said qs k [] h;
    by_price = λ qs. s.prices (state m k qs) (taken rule [] qs) (all_shown qs k [] h);
  }
