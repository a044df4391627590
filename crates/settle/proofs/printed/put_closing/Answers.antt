use Rattle.std.proofs.Common.{subst}
use Rattle.kinds.specs.Meaning.{cents_of}
use Rattle.text.specs.Writers.{Overflows, Writes}
use Rattle.text.proofs.Writing.{handed_on, overflows_front, overflows_then, writes_then, wrote_then}
use Rattle.settle.specs.Lines.{final_text}
use Rattle.settle.proofs.Closing.{closing, end}
use Rattle.settle.proofs.printed.put_closing.Goals as goal

pub returns-in_err-put_pieces : goal.returns-in_err-put_pieces
returns-in_err-put_pieces c =
    let long = overflows_front end (overflows_front (final_text (cents_of c.args.price)) c.in_err-put_pieces.ensures) in
    handed_on _ c.from_residual.ensures.0 (subst (λ t. Overflows c.args.out.now t c.put_pieces.new.self) (closing c.args.records c.args.taken (cents_of c.args.price)) long)

pub returns-in_err-put_final : goal.returns-in_err-put_final
returns-in_err-put_final c =
    let long = overflows_front end (overflows_then c.in_ok-put_pieces.ensures c.in_err-put_final.ensures) in
    handed_on _ c.from_residual-in_err-put_final.ensures.0 (subst (λ t. Overflows c.args.out.now t c.put_final.new.out) (closing c.args.records c.args.taken (cents_of c.args.price)) long)

pub returns : goal.returns
returns c =
    let wrote = writes_then (wrote_then c.in_ok-put_pieces.ensures c.in_ok-put_final.ensures) _ _ _ c.put.ensures in
    subst (λ t. Writes c.args.out.now t c.put.new.self c.put.result) (closing c.args.records c.args.taken (cents_of c.args.price)) wrote
