-- A kind that obeys a rule of the trade has the rule's report.
use Rattle.std.proofs.Common.{◌≡◌, ℕ, ◌+◌, Bool, true, false, cond, List, [], ◌∷◌, ◌++◌, length, Some, None, Ok, Err, Option, sym, refl, ap, ◌∙◌}
use Rattle.money.specs.Ranges.{is_price}
use Rattle.kinds.specs.Limits.{is_quantity}
use Rattle.kinds.specs.Meaning.{Meaning}
use Rattle.kinds.specs.Quotations.{quotable}
use Rattle.kinds.specs.Quoted.{Rule}
use Rattle.kinds.specs.Tickers.{row}
use Rattle.kinds.specs.declared.months.Ticker.{Ticker}
use Rattle.kinds.specs.declared.quotation.Quotation.{Quotation}
use Rattle.reader.specs.Readings.{reading}
use Rattle.tally.specs.declared.refusal.Refusal.TheVariants.{Unpriced, Uncounted}
use Rattle.desk.specs.Calls.{Line}
use Rattle.desk.specs.Courses.{course}
use Rattle.desk.specs.Endings.{by_rule, course_of}
use Rattle.desk.specs.Waiting.{record_text}
use Rattle.desk.proofs.Following.{Follows, follows_next, replies_so}
use Rattle.settle.specs.Answers.{answer_to, answered, answering, of_book, quotation_in, remembered}
use Rattle.settle.specs.Courses.{of_kind}
use Rattle.settle.specs.Lines.{closing_line}
use Rattle.settle.specs.Report.{opened_on, serving, standing, taken_in}

module _ {K : Type 0} (m : Meaning K) (rule : Rule) (price : List Quotation → Option ℕ) where
  follows_if : (b : Bool) (k k' : K) (done done' : List Quotation) → Follows m rule price k' done' → Follows m rule price k done → Follows m rule price (cond b k' k) (cond b done' done)
  follows_if true k k' done done' yes' no' = yes'
  follows_if false k k' done done' yes' no' = no'

  answers_so : (k : K) (done : List Quotation) (o : Option Quotation) → Follows m rule price k done → answer_to (course m) k o ≡ answer_to (by_rule rule price) done o
  answers_so k done None h = refl
  answers_so k done (Some q) h =
      ap (λ r. of_book (cond (is_price q.price) (cond (is_quantity q.quantity) (of_kind r) (Err Uncounted)) (Err Unpriced))) (replies_so m rule price k done q h)

  follows_so : (k : K) (done : List Quotation) (o : Option Quotation) → Follows m rule price k done → Follows m rule price (remembered (course m) k o) (remembered (by_rule rule price) done o)
  follows_so k done None h = h
  follows_so k done (Some q) h = follows_if (quotable q) k _ done _ (follows_next m rule price k done q h) h

  answering_so : (k : K) (done : List Quotation) (line : Line) → Follows m rule price k done → answering (course m) k line ≡ answering (by_rule rule price) done line
  answering_so k done (Ok entry) h = answers_so k done (quotation_in entry) h
  answering_so k done (Err fault) h = refl

  follows_line : (k : K) (done : List Quotation) (line : Line) → Follows m rule price k done → Follows m rule price (answered (course m) k line) (answered (by_rule rule price) done line)
  follows_line k done (Ok entry) h = follows_so k done (quotation_in entry) h
  follows_line k done (Err fault) h = h

  pub served_so : (k : K) (done : List Quotation) (n p t : ℕ) (ls : List (List ℕ)) → Follows m rule price k done → serving (course m) (standing n p t k) ls ≡ serving (by_rule rule price) (standing n p t done) ls
  unfolding serving
  served_so k done n p t [] h = ap (closing_line n t) (h.pricing [])
  served_so k done n p t (line ∷ rest) h =
      let came = reading true p line in
      let same = answering_so k done came h in
      let on = served_so (answered (course m) k came) (answered (by_rule rule price) done came) (n + 1) (p + length line) (t + taken_in (answering (course m) k came)) rest (follows_line k done came h) in
      ap (λ x. record_text (n + 1) p (answering (course m) k came) ++ x) on ∙ (λ i. record_text (n + 1) p (same i) ++ serving (by_rule rule price) (standing (n + 1) (p + length line) (t + taken_in (same i)) (answered (by_rule rule price) done came)) rest)

  -- the run of a kind that follows the rule of a contract is that of a book just opened on it
  pub run_so : (ticker : Ticker) (k : K) (n p : ℕ) (ls : List (List ℕ)) → course_of (row ticker).ending ≡ by_rule rule price → Follows m rule price k [] → serving (course m) (standing n p 0 k) ls ≡ opened_on ticker n p ls
  run_so ticker k n p ls e h = served_so k [] n p 0 ls h ∙ ap (λ c. serving c (standing n p 0 []) ls) (sym e)
