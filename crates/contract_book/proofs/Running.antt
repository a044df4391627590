-- A whole run: what a book built over a kind answers, writes and shows is what the tally's log has.
use Rattle.std.proofs.Common.{◌≡◌, ℕ, true, false, List, [], ◌∷◌, ◌++◌, map, length, take, fold, refl, ap, ◌∙◌, subst}
use Rattle.kinds.specs.Meaning.{Meaning}
use Rattle.tally.specs.Answers.{Answer}
use Rattle.tally.specs.declared.call.Call.{Call}
use Rattle.tally.specs.declared.rows.PageRow.{PageRow}
use Rattle.tally.specs.declared.sessions.Sessions.{Sessions}
use Rattle.tally.specs.Book.{Tally, Terms, View, numbered, seen}
use Rattle.tally.specs.Events.{Request, event, events, kind_after, kind_then}
use Rattle.tally.specs.Law.{Buildable}
use Rattle.tally.specs.Questions.{is_buildable}
use Rattle.tally.specs.Runs.{after, begun, fed, log_from, opened, reply, written}
use Rattle.tally.proofs.Law.{settled}
use Rattle.tally.proofs.Runs.{no_window, sound_fed, square}
use Rattle.tally.proofs.Sound.{Sound, sound_begun}
use Rattle.tally.proofs.Square.{two}
use Rattle.contract_book.specs.Sendings.{Ran, Sent, rows_in}
use Rattle.contract_book.specs.Stands.{Stand, answers, built, next, pages, sharing, stands, terms_on}

module _ {K : Type 0} (m : Meaning K) where
  -- ---- where requests lead
  stands_terms : (s : Stand K) (rs : List Request) → (stands m s rs).terms ≡ s.terms
  unfolding stands
  stands_terms s [] = refl
  stands_terms s (r ∷ rs) = stands_terms (next m s r) rs

  stands_kind : (s : Stand K) (rs : List Request) → (stands m s rs).kind ≡ kind_then m s.kind rs
  unfolding stands
  stands_kind s [] = refl
  stands_kind s (r ∷ rs) = stands_kind (next m s r) rs

  stands_view : (s : Stand K) (rs : List Request) → (stands m s rs).view ≡ fold (after s.terms) s.view (events m s.kind rs)
  unfolding stands
  stands_view s [] = refl
  stands_view s (r ∷ rs) = stands_view (next m s r) rs

  -- ---- a book that shows a tally answers and writes what the tally's log has
  module _ (c : Terms) (windows : c.delivers ≡ false → c.closes ≡ 0) where
    answers_logged : (k : K) (t : Tally) → Sound c t → (v : View) → v ≡ seen c.size t → (rs : List Request) → answers m (record { terms = c; kind = k; view = v }) rs ≡ map (λ x. x.answer) (log_from c t (events m k rs))
    unfolding answers
    answers_logged k t h v e [] = refl
    answers_logged k t h v e (r ∷ rs) =
        let x = event m k r.call r.room in
        two (λ x xs. x ∷ xs) (ap (λ w. reply c w x) e)
        (answers_logged (kind_after m k r.call) (fed c t x) (sound_fed c windows t h x) (after c v x) (ap (λ w. after c w x) e ∙ square c windows t h x) rs)

    pages_logged : (k : K) (t : Tally) → Sound c t → (v : View) → v ≡ seen c.size t → (rs : List Request) → pages m (record { terms = c; kind = k; view = v }) rs ≡ rows_in (log_from c t (events m k rs))
    unfolding pages rows_in
    pages_logged k t h v e [] = refl
    pages_logged k t h v e (r ∷ rs) =
        let x = event m k r.call r.room in
        two (λ xs ys. xs ++ ys) (ap (λ w. written c w x) e)
        (pages_logged (kind_after m k r.call) (fed c t x) (sound_fed c windows t h x) (after c v x) (ap (λ w. after c w x) e ∙ square c windows t h x) rs)

  opens_begun : (c : Terms) → opened ≡ seen c.size begun
  unfolding numbered
  opens_begun c = refl

  -- the terms of a kind, where the sessions and the window can be had
  pub buildable : (k : K) (sessions : Sessions) → is_buildable (terms_on m k sessions) ≡ true → Buildable (terms_on m k sessions)
  buildable k sessions e = record { built = e; sized = m.sized k }

  -- calls sent to a book that was just built
  pub ran : (k : K) (sessions : Sessions) (calls : List Call) (log₀ log₁ : List Answer) (pages₀ pages₁ : List PageRow) (s t : Stand K) (n rows : ℕ) →
      is_buildable (terms_on m k sessions) ≡ true → s ≡ built m k sessions → Sent m (built m k sessions) s [] calls log₀ log₁ pages₀ pages₁ t n rows →
      Ran m k sessions calls log₀ log₁ pages₀ pages₁ t n rows
  unfolding answers pages
  ran k sessions calls log₀ log₁ pages₀ pages₁ s t n rows ok start given =
      let s₀ = built m k sessions in
      let c = terms_on m k sessions in
      let b = buildable k sessions ok in
      let windows = no_window c b in
      let x = subst (λ (z : Stand K). Sent m s₀ z [] calls log₀ log₁ pages₀ pages₁ t n rows) start given in
      let rs = sharing m s₀ (length pages₀) (take n calls) in
      record {
        served = x.served;
        terms = ap (λ z. z.terms) x.leads ∙ stands_terms s₀ rs;
        kind = ap (λ z. z.kind) x.leads ∙ stands_kind s₀ rs;
        shows = ap (λ z. z.view) x.leads ∙ stands_view s₀ rs;
        logged = x.logged ∙ answers_logged c windows k begun (sound_begun c) opened (opens_begun c) rs;
        unlogged = x.unlogged;
        paged = x.paged ∙ pages_logged c windows k begun (sound_begun c) opened (opens_begun c) rs;
        inside = x.inside;
        unpaged = x.unpaged;
        settled = settled c b (events m k rs);
      }
