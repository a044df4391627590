-- One record at a time.
use Rattle.std.proofs.Common.{◌≡◌, ℕ, ◌+◌, ◌<◌, false, Bool, List, ◌∷◌, ◌++◌, length, drop, Option, Result, sym, ap, ◌∙◌, arith}
use Rattle.reader.specs.Cuts.{lines}
use Rattle.reader.specs.Readings.{reading}
use Rattle.reader.specs.Saying.{said}
use Rattle.reader.specs.declared.fault.ReadFault.{ReadFault}
use Rattle.reader.specs.declared.reading.Reader.{Reader}
use Rattle.reader.specs.declared.record.Record.{Record}
use Rattle.desk.specs.declared.faults.Fault.{Fault}
use Rattle.desk.specs.declared.openings.Opening.{Opening}
use Rattle.desk.specs.declared.place.Place.{Place}
use Rattle.desk.specs.Openings.{opening_to}
use Rattle.desk.specs.Places.{AtEnd, ReadOn, lines_left}
use Rattle.desk.specs.Progress.{waiting_at}
use Rattle.desk.specs.Waiting.{Sequel, onward, opening_in, record_text, waiting}

module _ {opened : Bool} {old new : Reader} {p : Place} {came : Result Record ReadFault} (step : ReadOn opened old p came new) where
  -- one line fewer is left
  pub one_fewer : lines_left old ≡ step.stepped.line ∷ lines_left new
  one_fewer = λ i. (step.stepped.first ∙ ap (λ x. step.stepped.line ∷ lines (drop new.at x)) (sym step.same)) i

  pub fewer : length (lines_left new) < length (lines_left old)
  fewer = omega (arith, ap length one_fewer)

-- what is told over the lines left before a book is open: the text of the next, and what follows
pub waited : {old new : Reader} {p : Place} {came : Result Record ReadFault} (s : Sequel) (step : ReadOn false old p came new) (r : Result (Option Opening) Fault) → r ≡ opening_to (said came) →
    waiting_at s old ≡ record_text p.number p.start r ++ onward (opening_in r) (λ o. s.opened o new.number new.at (lines_left new)) (waiting_at s new)
unfolding waiting
waited {old} {new} {p} {came} s step r e =
    let st = step.stepped in
    let number : old.number + 1 ≡ p.number = sym st.counted ∙ sym step.number in
    let counted = sym st.counted in
    let start = sym step.start in
    let onwards = sym st.onward in
    let answer : opening_to (reading false old.at st.line) ≡ r = ap opening_to (sym st.says) ∙ sym e in
    ap (waiting s old.number old.at) (one_fewer step)
    ∙ (λ i. record_text (number i) (start i) (answer i) ++ onward (opening_in (answer i)) (λ o. s.opened o (counted i) (onwards i) (lines_left new)) (waiting s (counted i) (onwards i) (lines_left new)))

pub waited_all : {old new : Reader} (s : Sequel) → AtEnd false old new → waiting_at s old ≡ s.over new.number
unfolding waiting
waited_all {old} {new} s h = ap (waiting s old.number old.at) h.over.0 ∙ ap s.over (sym h.over.2)

-- a reader that is new has the whole input left
pub whole_left : {input : List ℕ} (r : Reader) → r.input.now ≡ input → r.at ≡ 0 → lines_left r ≡ lines input
whole_left {input} r same none = λ i. lines (drop (none i) (same i))

pub from_the_top : {input : List ℕ} (r : Reader) (s : Sequel) → r.input.now ≡ input → r.number ≡ 0 → r.at ≡ 0 → waiting_at s r ≡ waiting s 0 0 (lines input)
from_the_top {input} r s same number none = λ i. waiting s (number i) (none i) (whole_left r same none i)
