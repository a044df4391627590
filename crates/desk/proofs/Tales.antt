-- Answers told one after the other.
use Rattle.std.proofs.Common.{◌≡◌, ℕ, ◌+◌, ◌-◌, true, List, [], ◌++◌, length, Result, sym, ap, ◌∙◌, arith}
use Rattle.reader.specs.Readings.{reading}
use Rattle.reader.specs.Saying.{said}
use Rattle.reader.specs.declared.fault.ReadFault.{ReadFault}
use Rattle.reader.specs.declared.reading.Reader.{Reader}
use Rattle.reader.specs.declared.record.Record.{Record}
use Rattle.desk.specs.declared.place.Place.{Place}
use Rattle.desk.specs.declared.telling.Teller.{Teller}
use Rattle.desk.specs.Places.{AtEnd, ReadOn, lines_left}
use Rattle.desk.specs.Tellers.{before, behind, stage}
use Rattle.desk.specs.Told.{after_line, line_text, telling}
use Rattle.desk.proofs.Steps.{one_fewer}

-- what is told over the lines that a reader has left
abbrev pub told_at : Reader → Teller → List ℕ
told_at r t = telling (stage r.number r.at t) (lines_left r)

-- one record more: its text, and then that of the others
pub told_more : {old new : Reader} {p : Place} {came : Result Record ReadFault} (t u : Teller) → ReadOn true old p came new → ((width : ℕ) → behind p width u ≡ after_line (before p t) width (said came)) →
    told_at old t ≡ line_text (before p t) (said came) ++ told_at new u
unfolding telling
told_more {old} {new} {p} {came} t u step after =
    let st = step.stepped in
    let line = st.line in
    let number : old.number ≡ p.number - 1 = omega (arith, step.number, st.counted) in
    let start = sym step.start in
    let says = sym st.says in
    let counted = step.number in
    let onward : p.start + length line ≡ new.at = omega (arith, step.start, st.onward) in
    let next : after_line (stage old.number old.at t) (length line) (reading true old.at line) ≡ stage new.number new.at u =
    (λ i. after_line (stage (number i) (start i) t) (length line) (says i)) ∙ sym (after (length line)) ∙ (λ i. stage (counted i) (onward i) u) in
    ap (telling (stage old.number old.at t)) (one_fewer step)
    ∙ (λ i. line_text (stage (number i) (start i) t) (says i) ++ telling (next i) (lines_left new))

pub told_all : {old new : Reader} → AtEnd true old new → (t : Teller) → told_at old t ≡ []
unfolding telling
told_all {old} h t = ap (telling (stage old.number old.at t)) h.over.0
