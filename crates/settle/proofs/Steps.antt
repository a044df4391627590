-- A report, one record at a time.
use Rattle.std.proofs.Common.{◌≡◌, ℕ, ◌+◌, true, List, ◌++◌, Result, sym, ap, ◌∙◌, arith}
use Rattle.reader.specs.Saying.{said}
use Rattle.reader.specs.declared.fault.ReadFault.{ReadFault}
use Rattle.reader.specs.declared.reading.Reader.{Reader}
use Rattle.reader.specs.declared.record.Record.{Record}
use Rattle.desk.specs.declared.place.Place.{Place}
use Rattle.desk.specs.Courses.{Course}
use Rattle.desk.specs.Places.{AtEnd, ReadOn, lines_left}
use Rattle.desk.specs.Waiting.{record_text}
use Rattle.desk.proofs.Steps.{one_fewer}
use Rattle.settle.specs.Answers.{answered, answering}
use Rattle.settle.specs.Lines.{closing_line}
use Rattle.settle.specs.Report.{serving, standing, taken_in}

module _ {S : Type 0} (c : Course S) where
  -- what is served over the lines that a reader has left
  abbrev pub served_at : Reader → ℕ → S → List ℕ
  served_at r taken s = serving c (standing r.number r.at taken s) (lines_left r)

  pub served_all : {old new : Reader} → AtEnd true old new → (t : ℕ) (s : S) → served_at old t s ≡ closing_line new.number t (c.final s)
  unfolding serving
  served_all {old} {new} h t s = ap (serving c (standing old.number old.at t s)) h.over.0 ∙ ap (λ n. closing_line n t (c.final s)) (sym h.over.2)

  pub served_more : {old new : Reader} {p : Place} {came : Result Record ReadFault} → ReadOn true old p came new → (t t' : ℕ) (s s' : S) → s' ≡ answered c s (said came) → t' ≡ t + taken_in (answering c s (said came)) →
      served_at old t s ≡ record_text p.number p.start (answering c s (said came)) ++ served_at new t' s'
  unfolding serving
  served_more {old} {new} {p} {came} step t t' s s' es et =
      let st = step.stepped in
      let says = sym st.says in
      let number : old.number + 1 ≡ p.number = omega (arith, st.counted, step.number) in
      let start = sym step.start in
      let counted = sym st.counted in
      let onward = sym st.onward in
      let taken = ap (λ x. t + taken_in (answering c s x)) says ∙ sym et in
      let memory = ap (answered c s) says ∙ sym es in
      ap (serving c (standing old.number old.at t s)) (one_fewer step)
      ∙ (λ i. record_text (number i) (start i) (answering c s (says i)) ++ serving c (standing (counted i) (onward i) (taken i) (memory i)) (lines_left new))
