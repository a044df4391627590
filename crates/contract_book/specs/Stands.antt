-- Where a book over a kind stands, and where calls lead it.
use Rattle.std.specs.Prelude.{◌≡◌, ℕ, ◌-◌, List, [], ◌∷◌, ◌++◌, length, Ok, Err}
use Rattle.kinds.specs.Meaning.{Meaning}
use Rattle.tally.specs.declared.rows.PageRow.{PageRow}
use Rattle.tally.specs.Answers.{Answer}
use Rattle.tally.specs.declared.call.Reply.TheVariants.{Numbered, Accepted, Designated, Paid}
use Rattle.tally.specs.declared.call.Call.{Call}
use Rattle.tally.specs.declared.sessions.Sessions.{Sessions}
use Rattle.tally.specs.Book.{Terms, View}
use Rattle.tally.specs.Events.{Event, Request, event, kind_after}
use Rattle.tally.specs.Runs.{after, opened, reply, written}

-- where a book stands: what it was built on, its kind, and what it shows
pub record Stand (K : Type 0) : Type 0 where
  pub terms : Terms
  pub kind : K
  pub view : View

-- a call with the rows of its page
abbrev pub asked : Call → ℕ → Request
asked call room = record { call = call; room = room }

-- what a book over a kind is built on: four things are the kind's
abbrev pub terms_on : {K : Type 0} → Meaning K → K → Sessions → Terms
terms_on m k sessions = record { size = m.size k; currency = m.currency k; tick = m.tick k; delivers = m.delivers k; last = sessions.last; opens = sessions.opens; closes = sessions.closes }

-- the other three
abbrev pub sessions_of : Terms → Sessions
sessions_of c = record { last = c.last; opens = c.opens; closes = c.closes }

-- a book that has just been built
abbrev pub built : {K : Type 0} → Meaning K → K → Sessions → Stand K
built m k sessions = record { terms = terms_on m k sessions; kind = k; view = opened }

-- a request as the book meets it, with what the kind says to it
abbrev pub met : {K : Type 0} → Meaning K → Stand K → Request → Event
met m s r = event m s.kind r.call r.room

-- where it leads, what it is answered, and the rows that it writes
abbrev pub next : {K : Type 0} → Meaning K → Stand K → Request → Stand K
next m s r = record { terms = s.terms; kind = kind_after m s.kind r.call; view = after s.terms s.view (met m s r) }

abbrev pub answer_to : {K : Type 0} → Meaning K → Stand K → Request → Answer
answer_to m s r = reply s.terms s.view (met m s r)

abbrev pub rows_to : {K : Type 0} → Meaning K → Stand K → Request → List PageRow
rows_to m s r = written s.terms s.view (met m s r)

-- how many rows a call has written by its answer: one for each account where it was paid
abbrev pub rows_by : Answer → ℕ → ℕ
rows_by (Err refusal) accounts = 0
rows_by (Ok (Numbered number)) accounts = 0
rows_by (Ok Accepted) accounts = 0
rows_by (Ok (Designated designation)) accounts = 0
rows_by (Ok (Paid totals)) accounts = accounts

-- requests one after the other: where they lead, what each is answered, and all rows that they write
unfoldable pub stands : {K : Type 0} → Meaning K → Stand K → List Request → Stand K
stands m s [] = s
stands m s (r ∷ rs) = stands m (next m s r) rs

unfoldable pub answers : {K : Type 0} → Meaning K → Stand K → List Request → List Answer
answers m s [] = []
answers m s (r ∷ rs) = answer_to m s r ∷ answers m (next m s r) rs

unfoldable pub pages : {K : Type 0} → Meaning K → Stand K → List Request → List PageRow
pages m s [] = []
pages m s (r ∷ rs) = rows_to m s r ++ pages m (next m s r) rs

-- calls that share the rows of one slice: each has those that the ones before it left
unfoldable pub sharing : {K : Type 0} → Meaning K → Stand K → ℕ → List Call → List Request
sharing m s room [] = []
sharing m s room (x ∷ xs) = asked x room ∷ sharing m (next m s (asked x room)) (room - length (rows_to m s (asked x room))) xs

-- the terms of a book are those of its kind
abbrev pub OnKind : {K : Type 0} → Meaning K → Stand K → Type 0
OnKind m s = s.terms ≡ terms_on m s.kind (sessions_of s.terms)

-- a book that stood at s took a request: it gave this answer and stands at t, as the rules say, and so after any history
pub record Takes {K : Type 0} (m : Meaning K) (s : Stand K) (r : Request) (a : Answer) (t : Stand K) : Type 0 where
  pub answers : a ≡ answer_to m s r
  pub leads : t ≡ next m s r
  pub history : (s₀ : Stand K) (h : List Request) → s ≡ stands m s₀ h → t ≡ stands m s₀ (h ++ r ∷ [])
