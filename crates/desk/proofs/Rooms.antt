-- Page rows never run out: a run that shares 16,704 of them is answered as one whose pages have 64 rows each.
use Rattle.std.proofs.Common.{◌≡◌, ℕ, ◌+◌, ◌-◌, ◌*◌, ◌≤◌, true, false, cond, not, ◌&&◌, eqb, ltb, leb, List, [], ◌∷◌, ◌++◌, map, length, Some, None, Err, Option, sym, refl, ap, ◌∙◌, arith}
use lib.ListN.{length-map}
use Rattle.std.proofs.lemmas.List.{length-append}
use Rattle.std.proofs.lemmas.Bool.{and_parts, eqb-true, le-leb, leb-true, ltb-true, not-true}
use Rattle.kinds.specs.Meaning.{Meaning}
use Rattle.tally.specs.declared.call.Call.{Call}
use Rattle.tally.specs.declared.sessions.Sessions.{Sessions}
use Rattle.tally.specs.declared.call.Call.TheVariants as call
use Rattle.tally.specs.declared.call.Marking.{Marking}
use Rattle.tally.specs.declared.refusal.Refusal.TheVariants.{PageShort}
use Rattle.tally.specs.declared.rows.Account.{Account}
use Rattle.tally.specs.declared.rows.Lot.{Lot}
use Rattle.tally.specs.declared.rows.Notice.{Notice}
use Rattle.tally.specs.declared.rows.PageRow.{PageRow}
use Rattle.tally.specs.Book.{Tally, Terms, View, account, numbered, seen}
use Rattle.tally.specs.Events.{Event, registering, trading, quoting, noticing, designating, marking, expiring, event, events, kind_after}
use Rattle.tally.specs.Law.{Buildable}
use Rattle.tally.specs.Pages.{Listed, Owed, by_expiry, by_marking, page, roll, row_of}
use Rattle.tally.specs.Questions.{Question, ask, between, first_unmet, is_buildable, questions, verdict}
use Rattle.tally.specs.Runs.{Entry, after, answer, begun, fed, log, log_from, page_of, reply, rows_of, written}
use Rattle.tally.specs.Steps.{entered, fed_designation, fed_expiry, fed_marking, fed_oldest}
use Rattle.tally.proofs.Facts.{between_is, length_numbered, met}
use Rattle.tally.proofs.Runs.{no_window, sound_fed, square}
use Rattle.tally.proofs.Sound.{Sound, sound_begun}
use Rattle.contract_book.specs.Sendings.{rows_in, run_of}
use Rattle.contract_book.specs.Stands.{Stand, sharing, terms_on}
use Rattle.desk.specs.Courses.{course}
use Rattle.desk.specs.Report.{after_by, event_by, events_by}

-- two lists of questions that differ only behind a question which is met
behind : (q : Question) (ps qs : List Question) → (q.met ≡ true → first_unmet ps ≡ first_unmet qs) → first_unmet (q ∷ ps) ≡ first_unmet (q ∷ qs)
unfolding first_unmet
behind q ps qs =
    elim q.met as (λ b. (b ≡ true → first_unmet ps ≡ first_unmet qs) → cond b (first_unmet ps) (Some q.refusal) ≡ cond b (first_unmet qs) (Some q.refusal))
    [ true ↦ λ h. h refl | false ↦ λ h. refl ]

-- how many expiries there were
abbrev expiries : Tally → ℕ
expiries t = cond t.expired 1 0

none_yet : (t : Tally) → not t.expired ≡ true → expiries t ≡ 0
none_yet t e = ap (λ b. cond b 1 0) (not-true t.expired e)

one_at_most : (t : Tally) → expiries t ≤ 1
one_at_most t = elim t.expired as (λ b. cond b 1 0 ≤ 1) [ true ↦ omega arith | false ↦ omega arith ]

-- at most 64 accounts, and of 16,704 rows at most 64 gone for each closed session and for an expiry; the open session adds 64 to both sides
pub record Stocked (t : Tally) (room : ℕ) : Type 0 where
  pub few : length t.parties ≤ 64
  pub left : 16704 + 64 ≤ room + 64 * (t.session + expiries t)

-- a book that can be built has at most 260 sessions
few_sessions : (c : Terms) → is_buildable c ≡ true → c.last ≤ 260
unfolding is_buildable
few_sessions c e = (between_is 1 260 c.last (and_parts (between 1 260 c.last) (cond c.delivers (leb 1 c.opens && (leb c.opens c.closes && ltb c.closes c.last)) (eqb c.opens 0 && eqb c.closes 0)) e).0).1

module _ (c : Terms) (sessions : c.last ≤ 260) (t : Tally) (room : ℕ) (h : Stocked t room) where
  abbrev v : View
  v = seen c.size t

  shown_accounts : length v.accounts ≡ length t.parties
  shown_accounts = length_numbered (account c.size t) 1 t.parties

  -- the last question of a page is met by 64 rows and by more
  same_short : 64 ≤ room → first_unmet (ask (leb (length v.accounts) room) PageShort ∷ []) ≡ first_unmet (ask (leb (length v.accounts) 64) PageShort ∷ [])
  same_short enough =
      let many = shown_accounts in
      let few = h.few in
      ap (λ b. first_unmet (ask b PageShort ∷ [])) (le-leb (length v.accounts) room (omega arith) ∙ sym (le-leb (length v.accounts) 64 (omega arith)))

  same_marking : (m : Marking) → verdict c v (marking m room) ≡ verdict c v (marking m 64)
  unfolding questions
  same_marking m =
      behind _ _ _ (λ unclosed. behind _ _ _ (λ _. behind _ _ _ (λ _. behind _ _ _ (λ _. same_short
      (omega (arith, h.left, leb-true t.session c.last unclosed, one_at_most t, sessions))))))

  -- an expiry is asked first whether the last session is closed and no expiry came before
  expiry_due : (not c.delivers && (eqb t.session (c.last + 1) && not t.expired)) ≡ true → (t.session ≡ c.last + 1) × (expiries t ≡ 0)
  expiry_due e =
      let due = and_parts (eqb t.session (c.last + 1)) (not t.expired) (and_parts (not c.delivers) (eqb t.session (c.last + 1) && not t.expired) e).1 in
      (eqb-true t.session (c.last + 1) due.0, none_yet t due.1)

  same_expiry : (final : Option ℕ) → verdict c v (expiring final room) ≡ verdict c v (expiring final 64)
  unfolding questions
  same_expiry final =
      behind _ _ _ (λ due. behind _ _ _ (λ _. same_short (let d = expiry_due due in omega (arith, h.left, d.0, d.1, sessions))))

  abbrev listed : ℕ → Account → Listed
  listed k a = record { number = k; account = a }

  -- a page has a row for each account
  page_long : (rate : ℕ) (owes : Listed → Owed) → length (page c rate owes (roll v)).rows ≤ 64
  page_long rate owes = omega (arith, length-map (roll v) (row_of c rate owes), length_numbered listed 1 v.accounts, shown_accounts, h.few)

  stocked_oldest : (ns : List Notice) (ls : List Lot) → Stocked (fed_oldest t ns ls) room
  unfolding fed_designation
  stocked_oldest [] ls = h
  stocked_oldest (n ∷ ns) [] = h
  stocked_oldest (n ∷ ns) (l ∷ ls) = record { few = h.few; left = h.left }

  stocked_entered : (e : Event) → verdict c v e ≡ None → Stocked (entered t e) (room - length (rows_of (page_of c v e)))
  unfolding entered questions fed_marking fed_expiry
  stocked_entered (registering r) e =
      let q3 = met _ _ (met _ _ e).1 in
      record { few = omega (arith, ltb-true _ _ q3.0, shown_accounts, length-append t.parties (r ∷ [])); left = omega (arith, h.left) }
  stocked_entered (trading w) e = record { few = h.few; left = omega (arith, h.left) }
  stocked_entered (quoting q said) e = record { few = h.few; left = omega (arith, h.left) }
  stocked_entered (noticing n) e = record { few = h.few; left = omega (arith, h.left) }
  stocked_entered designating e = let s = stocked_oldest t.notices t.lots in record { few = s.few; left = omega (arith, s.left) }
  stocked_entered (marking m r) e = record { few = h.few; left = omega (arith, h.left, page_long m.rate (by_marking c v m.price)) }
  stocked_entered (expiring None r) e = record { few = h.few; left = omega (arith, h.left) }
  stocked_entered (expiring (Some final) r) e = record { few = h.few; left = omega (arith, h.left, (expiry_due (met _ _ e).0).1, page_long t.rate (by_expiry c v final)) }

  stocked_fed : (e : Event) → Stocked (fed c t e) (room - length (written c v e))
  stocked_fed e =
      let o = verdict c v e in
      elim o as (λ a. o ≡ a → Stocked (elim a [ None ↦ entered t e | Some _ ↦ t ]) (room - length {A = PageRow} (elim a [ None ↦ rows_of (page_of c v e) | Some _ ↦ [] ])))
      [ None ↦ stocked_entered e | Some _ ↦ λ _. record { few = h.few; left = omega (arith, h.left) } ] refl

-- two events that a book treats alike
record Alike (c : Terms) (t : Tally) (e f : Event) : Type 0 where
  verdicts : verdict c (seen c.size t) e ≡ verdict c (seen c.size t) f
  answers : answer c (seen c.size t) e ≡ answer c (seen c.size t) f
  papers : page_of c (seen c.size t) e ≡ page_of c (seen c.size t) f
  enters : entered t e ≡ entered t f

alike_itself : (c : Terms) (t : Tally) (e : Event) → Alike c t e e
alike_itself c t e = record { verdicts = refl; answers = refl; papers = refl; enters = refl }

module _ {c : Terms} {t : Tally} {e f : Event} (a : Alike c t e f) where
  same_reply : reply c (seen c.size t) e ≡ reply c (seen c.size t) f
  same_reply = λ i. elim (a.verdicts i) [ None ↦ a.answers i | Some r ↦ Err r ]

  same_rows : written c (seen c.size t) e ≡ written c (seen c.size t) f
  same_rows = λ i. elim (a.verdicts i) [ None ↦ rows_of (a.papers i) | Some _ ↦ [] ]

  same_fed : fed c t e ≡ fed c t f
  same_fed = λ i. elim (a.verdicts i) [ None ↦ a.enters i | Some _ ↦ t ]

-- two logs that tell the same
pub record SameTold (es fs : List Entry) : Type 0 where
  pub answers : map (λ x. x.answer) es ≡ map (λ x. x.answer) fs
  pub rows : rows_in es ≡ rows_in fs

module _ {K : Type 0} (m : Meaning K) (c : Terms) (b : Buildable c) where
  alike_expiry : (t : Tally) (room : ℕ) → Stocked t room → (final : Option ℕ) → Alike c t (expiring final room) (expiring final 64)
  unfolding entered
  alike_expiry t room h None = record { verdicts = same_expiry c (few_sessions c b.built) t room h None; answers = refl; papers = refl; enters = refl }
  alike_expiry t room h (Some p) = record { verdicts = same_expiry c (few_sessions c b.built) t room h (Some p); answers = refl; papers = refl; enters = refl }

  -- a call with the rows that are left, and with 64
  alike : (t : Tally) (room : ℕ) → Stocked t room → (k : K) (x : Call) → Alike c t (event m k x room) (event_by (course m) k x 64)
  unfolding entered
  alike t room h k (call.Register r) = alike_itself c t (registering r)
  alike t room h k (call.Trade w) = alike_itself c t (trading w)
  alike t room h k (call.Quote q) = alike_itself c t (quoting q (m.reply k q))
  alike t room h k (call.Notify n) = alike_itself c t (noticing n)
  alike t room h k call.Designate = alike_itself c t designating
  alike t room h k (call.Mark x) = record { verdicts = same_marking c (few_sessions c b.built) t room h x; answers = refl; papers = refl; enters = refl }
  alike t room h k call.Expire = alike_expiry t room h (m.final k)

  same_kind : (k : K) (x : Call) → kind_after m k x ≡ after_by (course m) k x
  same_kind k (call.Register r) = refl
  same_kind k (call.Trade t) = refl
  same_kind k (call.Quote q) = refl
  same_kind k (call.Notify n) = refl
  same_kind k call.Designate = refl
  same_kind k (call.Mark x) = refl
  same_kind k call.Expire = refl

  -- one state, shown by its parts
  abbrev at : K → View → Stand K
  at k v = record { terms = c; kind = k; view = v }

  same_from : (t : Tally) → Sound c t → (room : ℕ) → Stocked t room → (k : K) (xs : List Call) → SameTold (log_from c t (events m k (sharing m (at k (seen c.size t)) room xs))) (log_from c t (events_by (course m) k xs))
  unfolding sharing events_by rows_in
  same_from t s room h k [] = record { answers = refl; rows = refl }
  same_from t s room h k (x ∷ xs) =
      let windows = no_window c b in
      let e = event m k x room in
      let next = kind_after m k x in
      let rest = room - length (written c (seen c.size t) e) in
      let a = alike t room h k x in
      let more = same_from (fed c t e) (sound_fed c windows t s e) rest (stocked_fed c (few_sessions c b.built) t room h e) next xs in
      let shows = square c windows t s e in
      let feeds = same_fed a in
      let kinds = same_kind k x in
      let before : log_from c (fed c t e) (events m next (sharing m (at next (after c (seen c.size t) e)) rest xs)) ≡ log_from c (fed c t e) (events m next (sharing m (at next (seen c.size (fed c t e))) rest xs)) =
      λ i. log_from c (fed c t e) (events m next (sharing m (at next (shows i)) rest xs)) in
      let behind_it : log_from c (fed c t e) (events_by (course m) next xs) ≡ log_from c (fed c t (event_by (course m) k x 64)) (events_by (course m) (after_by (course m) k x) xs) =
      λ i. log_from c (feeds i) (events_by (course m) (kinds i) xs) in
      let replies = same_reply a in
      let pages = same_rows a in
      let answers_on = ap (map (λ (y : Entry). y.answer)) before ∙ more.answers ∙ ap (map (λ (y : Entry). y.answer)) behind_it in
      let rows_on = ap rows_in before ∙ more.rows ∙ ap rows_in behind_it in
      record { answers = λ i. replies i ∷ answers_on i; rows = λ i. pages i ++ rows_on i }

-- a whole run tells the same
pub same_run : {K : Type 0} (m : Meaning K) (k : K) (sessions : Sessions) (room : ℕ) (xs : List Call) → is_buildable (terms_on m k sessions) ≡ true → 16704 ≤ room →
    SameTold (log (terms_on m k sessions) (run_of m k sessions room xs)) (log (terms_on m k sessions) (events_by (course m) k xs))
unfolding numbered
same_run m k sessions room xs built enough =
    let c = terms_on m k sessions in
    same_from m c (record { built = built; sized = m.sized k }) begun (sound_begun c) room (record { few = omega arith; left = omega arith }) k xs
