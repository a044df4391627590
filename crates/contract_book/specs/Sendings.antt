-- What sending calls to a book does, and what a whole run is.
use Rattle.std.specs.Prelude.{◌≡◌, ℕ, ◌≤◌, min, List, [], ◌∷◌, ◌++◌, map, length, take, drop}
use Rattle.kinds.specs.Meaning.{Meaning}
use Rattle.tally.specs.declared.rows.PageRow.{PageRow}
use Rattle.tally.specs.Answers.{Answer}
use Rattle.tally.specs.declared.call.Call.{Call}
use Rattle.tally.specs.declared.sessions.Sessions.{Sessions}
use Rattle.tally.specs.Events.{Event, Request, events, kind_then}
use Rattle.tally.specs.Law.{Settled}
use Rattle.tally.specs.Runs.{Entry, log, shown}
use Rattle.contract_book.specs.Stands.{Stand, answers, built, pages, sharing, stands, terms_on}

-- after the requests h, which led from the start s₀ to s, the first n calls were sent, and their pages have so many rows:
-- answers and rows continue those of h, and what lies behind them is as before
pub record Sent {K : Type 0} (m : Meaning K) (s₀ s : Stand K) (h : List Request) (calls : List Call) (log₀ log₁ : List Answer) (pages₀ pages₁ : List PageRow) (t : Stand K) (n rows : ℕ) : Type 0 where
  -- as many calls are served as the log has places
  pub served : n ≡ min (length calls) (length log₀)
  pub leads : t ≡ stands m s₀ (h ++ sharing m s (length pages₀) (take n calls))
  pub logged : answers m s₀ h ++ take n log₁ ≡ answers m s₀ (h ++ sharing m s (length pages₀) (take n calls))
  pub unlogged : drop n log₁ ≡ drop n log₀
  pub paged : pages m s₀ h ++ take rows pages₁ ≡ pages m s₀ (h ++ sharing m s (length pages₀) (take n calls))
  pub inside : rows ≤ length pages₀
  pub unpaged : drop rows pages₁ ≡ drop rows pages₀

-- the rows of all pages of a log
unfoldable pub rows_in : List Entry → List PageRow
rows_in [] = []
rows_in (x ∷ xs) = x.rows ++ rows_in xs

-- the events of a run: a book built over a kind, then calls that share a slice of so many page rows
abbrev pub run_of : {K : Type 0} → Meaning K → K → Sessions → ℕ → List Call → List Event
run_of m k sessions room calls = events m k (sharing m (built m k sessions) room calls)

-- a whole run: a book built over the kind k was sent the first n calls and stands at t;
-- log and pages have what the tally's log has, and the settlement law holds of it
pub record Ran {K : Type 0} (m : Meaning K) (k : K) (sessions : Sessions) (calls : List Call) (log₀ log₁ : List Answer) (pages₀ pages₁ : List PageRow) (t : Stand K) (n rows : ℕ) : Type 0 where
  pub served : n ≡ min (length calls) (length log₀)
  pub terms : t.terms ≡ terms_on m k sessions
  pub kind : t.kind ≡ kind_then m k (sharing m (built m k sessions) (length pages₀) (take n calls))
  pub shows : t.view ≡ shown (terms_on m k sessions) (run_of m k sessions (length pages₀) (take n calls))
  pub logged : take n log₁ ≡ map (λ x. x.answer) (log (terms_on m k sessions) (run_of m k sessions (length pages₀) (take n calls)))
  pub unlogged : drop n log₁ ≡ drop n log₀
  pub paged : take rows pages₁ ≡ rows_in (log (terms_on m k sessions) (run_of m k sessions (length pages₀) (take n calls)))
  pub inside : rows ≤ length pages₀
  pub unpaged : drop rows pages₁ ≡ drop rows pages₀
  pub settled : Settled (terms_on m k sessions) (run_of m k sessions (length pages₀) (take n calls))
