-- The run of a book over a kind, by the course of the kind's quotations.
use Rattle.std.proofs.Common.{◌≡◌, ℕ, ◌+◌, ◌≤◌, true, List, [], ◌∷◌, map, length, take, Some, None, Option, ap, ◌∙◌, arith}
use Rattle.std.proofs.lemmas.List.{take_all}
use Rattle.kinds.specs.Meaning.{Meaning}
use Rattle.reader.specs.Readings.{reading}
use Rattle.tally.specs.Questions.{is_buildable}
use Rattle.tally.specs.Runs.{Entry, log}
use Rattle.tally.specs.Answers.{Answer}
use Rattle.tally.specs.declared.call.Call.{Call}
use Rattle.tally.specs.declared.rows.PageRow.{PageRow}
use Rattle.contract_book.specs.Sendings.{Ran, rows_in}
use Rattle.contract_book.specs.Stands.{Stand, terms_on}
use Rattle.desk.specs.declared.openings.Opening.{Opening}
use Rattle.desk.specs.Calls.{call_of}
use Rattle.desk.specs.Courses.{course}
use Rattle.desk.specs.Openings.{terms_for}
use Rattle.desk.specs.Report.{calls_in, events_by, log_by, log_text, with_call}
use Rattle.desk.specs.Told.{starting, telling}
use Rattle.desk.proofs.Rooms.{same_run}

-- a line makes one call at most
one_call : (o : Option Call) (xs : List Call) → length (with_call o xs) ≤ length xs + 1
one_call None xs = omega arith
one_call (Some x) xs = omega arith

pub few_calls : (p : ℕ) (ls : List (List ℕ)) → length (calls_in p ls) ≤ length ls
unfolding calls_in
few_calls p [] = omega arith
few_calls p (line ∷ rest) = omega (arith, one_call (call_of (reading true p line)) (calls_in (p + length line) rest), few_calls (p + length line) rest)

-- the text of a run, from its log and pages
pub run_told : {K : Type 0} (m : Meaning K) (k : K) (o : Opening) (records place : ℕ) (ls : List (List ℕ)) (calls : List Call) (log₀ log₁ : List Answer) (pages₀ pages₁ : List PageRow) (s : Stand K) (n rows : ℕ) →
    terms_on m k o.sessions ≡ terms_for o → is_buildable (terms_for o) ≡ true → calls ≡ calls_in place ls → length ls ≤ length log₀ → 16704 ≤ length pages₀ →
    Ran m k o.sessions calls log₀ log₁ pages₀ pages₁ s n rows →
    telling (starting records place (take n log₁) (take rows pages₁)) ls ≡ log_text records place (log_by (course m) k o place ls) ls
run_told m k o records place ls calls log₀ log₁ pages₀ pages₁ s n rows terms built gathered long enough ran =
    let few = few_calls place ls in
    let c = terms_on m k o.sessions in
    let all : take n calls ≡ calls_in place ls = take_all n calls (omega (arith, ran.served, few, ap length gathered)) ∙ gathered in
    let same = same_run m k o.sessions (length pages₀) (take n calls) (ap is_buildable terms ∙ built) enough in
    let entries : log c (events_by (course m) k (take n calls)) ≡ log_by (course m) k o place ls = λ i. log (terms i) (events_by (course m) k (all i)) in
    let answers = ran.logged ∙ same.answers ∙ ap (map (λ (x : Entry). x.answer)) entries in
    let pages = ran.paged ∙ same.rows ∙ ap rows_in entries in
    λ i. telling (starting records place (answers i) (pages i)) ls
