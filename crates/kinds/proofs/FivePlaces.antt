-- What the code of the five places owes: its reply, and the kind that it leaves.
use Rattle.std.proofs.Common.{◌≡◌, ◌+◌, min, true, false, Ok, Err, sym, ◌∙◌}
use Rattle.std.proofs.lemmas.Bool.{cond-true, cond-false}
use Rattle.kinds.specs.declared.indexes.LastFive.{LastFive}
use Rattle.kinds.specs.declared.quotation.KindFault.TheVariants.{Unfit}
use Rattle.kinds.specs.declared.quotation.Quotation.{Quotation}
use Rattle.kinds.specs.Indexes.{is_index}
use Rattle.kinds.specs.IndexFacts.{shifted}
use Rattle.kinds.specs.Indexing.{five, five_after, five_unmoved, same_five}

pub took : (k : LastFive) (q : Quotation) → is_index q ≡ true → Ok tt ≡ five.reply k q
took k q e = sym (cond-true (is_index q) _ _ e)

-- with the places moved and the newest in the last, it is the kind after the quotation
pub moved : (k j : LastFive) (q : Quotation) → is_index q ≡ true → j.terms ≡ k.terms → j.last ≡ shifted k.last q.price → j.held ≡ min 5 (k.held + 1) → j ≡ five_after k q
moved k j q e t l n =
    same_five j (five_after k q) t (l ∙ sym (cond-true (is_index q) _ _ e)) (n ∙ sym (cond-true (is_index q) _ _ e))

pub refused : (k : LastFive) (q : Quotation) → is_index q ≡ false → (Err Unfit ≡ five.reply k q) × (k ≡ five_after k q)
refused k q e = (sym (cond-false (is_index q) _ _ e), sym (five_unmoved k q e))
