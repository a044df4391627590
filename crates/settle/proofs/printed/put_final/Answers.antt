use Rattle.std.proofs.Common.{Some, sym, ap, ◌∙◌, subst}
use Rattle.kinds.specs.Meaning.{cents_of}
use Rattle.text.specs.Writers.{Writes}
use Rattle.text.proofs.Writing.{writes_then}
use Rattle.settle.specs.Lines.{final_text}
use Rattle.settle.proofs.printed.put_final.Goals as goal

pub returns-in_ok-put-in-Some : goal.returns-in_ok-put-in-Some
returns-in_ok-put-in-Some c =
    let price_is = ap (λ n. final_text (Some n)) c.cents.ensures.value ∙ ap (λ p. final_text (cents_of p)) (sym c.in-Some.is) in
    subst (λ t. Writes c.args.out.now t c.put_number.new.self c.put_number.result) price_is (writes_then c.in_ok-put-in-Some.ensures _ _ _ c.put_number.ensures)
