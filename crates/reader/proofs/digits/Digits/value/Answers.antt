use Rattle.std.proofs.Common.{get_or, sym, ◌∙◌, arith}
use Rattle.std.proofs.lemmas.List.{take_all}
use Rattle.std.proofs.lemmas.Int.Digits.{digits_more, digits_value_more}
use Rattle.reader.proofs.Values.{no_digit, too_long, worth, all_read, room}
use Rattle.reader.proofs.digits.Digits.value.Goals as goal

pub returns-then-self-gt-LONGEST : goal.returns-then-self-gt-LONGEST
returns-then-self-gt-LONGEST c = record { value = sym (too_long _ c.if-self-gt-LONGEST.true) }

pub returns-then-not-is_ascii_digit : goal.returns-then-not-is_ascii_digit
returns-then-not-is_ascii_digit c = record { value = sym (no_digit _ _ c.loop-b-test.true (sym c.if-not-is_ascii_digit.ensures.value)) }

pub overflow_mul-n : goal.overflow_mul-n
overflow_mul-n c = omega (arith, room c.args.self.now.bytes.now c.loop-b.b-index c.if-self-gt-LONGEST.false c.loop-b-test.true c.loop-b.invariant.digits)

pub overflow_add-n : goal.overflow_add-n
overflow_add-n c =
    let bytes = c.args.self.now.bytes.now in
    let i = c.loop-b.b-index in
    omega (arith, room bytes i c.if-self-gt-LONGEST.false c.loop-b-test.true c.loop-b.invariant.digits, worth (get_or bytes i 0) (sym c.if-not-is_ascii_digit.ensures.value))

pub loop-b-preserved : goal.loop-b-preserved
loop-b-preserved c =
    let bytes = c.args.self.now.bytes.now in
    let i = c.loop-b.b-index in
    let digit = worth (get_or bytes i 0) (sym c.if-not-is_ascii_digit.ensures.value) in
    record {
      digits = digits_more 10 bytes i c.loop-b-test.true c.loop-b.invariant.digits (omega (arith, digit));
      value = omega (arith, digits_value_more 10 bytes i c.loop-b-test.true, digit);
    }

pub returns : goal.returns
returns c =
    let all = take_all c.loop-b.b-index c.args.self.now.bytes.now c.loop-b-test.false in
    record { value = rw all at c.loop-b.invariant.value ∙ all_read _ c.if-self-gt-LONGEST.false (rw all at c.loop-b.invariant.digits) }
