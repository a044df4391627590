-- Notices in the log: contracts noticed are contracts designated, in order and once, followed by contracts standing.
use Rattle.std.proofs.lemmas.Grind.{common_steps}
use Rattle.std.proofs.Common.{◌≡◌, ℕ, ◌+◌, ◌-◌, ◌<◌, ◌≤◌, Bool, true, false, cond, ltb, leb, List, [], ◌∷◌, ◌++◌, replicate, Some, None, Ok, filter, sym, refl, ap, ◌∙◌, ⊎_elim, arith}
use Rattle.std.specs.List.{AllByRecursion}
use Rattle.std.proofs.lemmas.List.Elements.{filter-append}
use Rattle.std.proofs.ByRecursion.{All-weaker}
use Rattle.std.proofs.lemmas.List.{append_assoc, append-nil}
use Rattle.std.proofs.lemmas.Bool.{ltb-true, le-ltb, not-true, false≢true, cases_lt}
use Rattle.tally.specs.declared.rows.Lot.{Lot}
use Rattle.tally.specs.declared.rows.Notice.{Notice}
use Rattle.tally.specs.declared.rows.Designation.{Designation}
use Rattle.tally.specs.declared.call.Reply.TheVariants.{Designated}
use Rattle.tally.specs.declared.call.Marking.{Marking}
use Rattle.tally.specs.Book.{Terms, Tally, seen}
use Rattle.tally.specs.Events.{Event, registering, trading, quoting, noticing, designating, marking, expiring}
use Rattle.tally.specs.Logs.{designation_in, markings, designations, noticed, sellers, designated, before}
use Rattle.tally.specs.Questions.{questions, verdict, is_due}
use Rattle.tally.specs.Rows.{notice_counting}
use Rattle.tally.specs.Runs.{Entry, answer, page_of, rows_of, designation_of, fed, entry}
use Rattle.tally.specs.Steps.{entered, fed_oldest, fed_marking, fed_designation, fed_expiry, paired, less_oldest_notices}
use Rattle.tally.proofs.Facts.{met}
use Rattle.tally.proofs.Notices.{sellers_append, sellers_first, ordered_undue, less_is}
use Rattle.tally.proofs.Pushes.{notices_push, own_notices, designations_push, designated_append}
use Rattle.tally.proofs.Sound.{Sound, finds_lot}
use Rattle.tally.proofs.Told.{Told}

-- the notices of some sessions
abbrev of_sessions : (ℕ → Bool) → List Notice → List Notice
of_sessions p ns = filter (λ n. p n.session) ns

sessions_append : (p : ℕ → Bool) (xs ys : List Notice) → sellers (of_sessions p (xs ++ ys)) ≡ sellers (of_sessions p xs) ++ sellers (of_sessions p ys)
sessions_append p xs ys = grind (arith, filter-append, sellers_append)

-- of some sessions too, what is taken from the oldest notice stood before what is left
sessions_first : (p : ℕ → Bool) (m : ℕ) (n : Notice) (ns : List Notice) → 1 ≤ n.count → m ≤ n.count →
    sellers (of_sessions p (n ∷ ns)) ≡ sellers (of_sessions p (notice_counting.recount n m ∷ [])) ++ sellers (of_sessions p (less_oldest_notices m (n ∷ ns)))
unfolding sellers
sessions_first p m n ns some le =
    rw (less_is m n ns some le)
    (elim (p n.session) as (λ b. p n.session ≡ b → sellers (of_sessions p (n ∷ ns)) ≡ sellers (of_sessions p (notice_counting.recount n m ∷ [])) ++ sellers (of_sessions p (cond (leb n.count m) ns (notice_counting.recount n (n.count - m) ∷ ns))))
    [ true ↦ λ e. kept e (leb n.count m) (sellers_first m n (of_sessions p ns) some le ∙ ap (λ y. replicate m n.seller ++ sellers y) (less_is m n (of_sessions p ns) some le)) | false ↦ λ e. gone e (leb n.count m) ] refl)
  where
    kept : p n.session ≡ true → (l : Bool) →
        sellers (n ∷ of_sessions p ns) ≡ replicate m n.seller ++ sellers (cond l (of_sessions p ns) (notice_counting.recount n (n.count - m) ∷ of_sessions p ns)) →
        sellers (of_sessions p (n ∷ ns)) ≡ sellers (of_sessions p (notice_counting.recount n m ∷ [])) ++ sellers (of_sessions p (cond l ns (notice_counting.recount n (n.count - m) ∷ ns)))
    kept e true parts = grind (arith, append-nil)
    kept e false parts = grind (arith, append-nil)

    gone : p n.session ≡ false → (l : Bool) → sellers (of_sessions p (n ∷ ns)) ≡ sellers (of_sessions p (notice_counting.recount n m ∷ [])) ++ sellers (of_sessions p (cond l ns (notice_counting.recount n (n.count - m) ∷ ns)))
    gone e true = rw e refl
    gone e false = rw e refl

-- all sessions, none, and those before one
every_session : (ns : List Notice) → of_sessions (λ _. true) ns ≡ ns
every_session [] = refl
every_session (n ∷ ns) = ap (λ l. n ∷ l) (every_session ns)

all_before : (s : ℕ) (ns : List Notice) → AllByRecursion (λ n. n.session < s) ns → before s ns ≡ ns
all_before s [] h = refl
all_before s (n ∷ ns) h = grind (arith, all_before s ns h.1)

none_before : (s : ℕ) (ns : List Notice) → AllByRecursion (λ n. n.session ≡ s) ns → before s ns ≡ []
none_before s [] h = refl
none_before s (n ∷ ns) h = grind (arith, none_before s ns h.1)

pub record Served (xs : List Entry) (t : Tally) : Type 0 where
  -- what was designated, with the session that it was noticed in
  pub parts : List Notice
  pub answered : designated (designations xs) ≡ sellers parts
  pub in_order : (p : ℕ → Bool) → sellers (of_sessions p (noticed xs)) ≡ sellers (of_sessions p parts) ++ sellers (of_sessions p t.notices)
  pub past : AllByRecursion (λ n. n.session < t.session) parts
  pub once : (s : ℕ) → s < t.session → (rest : List ℕ) × (designated (designations xs) ≡ sellers (before s (noticed xs)) ++ rest)

-- the law that the log shows
pub all_in_order : (xs : List Entry) (t : Tally) → Served xs t → sellers (noticed xs) ≡ designated (designations xs) ++ sellers t.notices
all_in_order xs t h =
    ap sellers (sym (every_session (noticed xs))) ∙ h.in_order (λ _. true)
    ∙ ap (λ l. sellers l ++ sellers (of_sessions (λ _. true) t.notices)) (every_session h.parts) ∙ ap (λ l. sellers h.parts ++ sellers l) (every_session t.notices)
    ∙ ap (λ l. l ++ sellers t.notices) (sym h.answered)

-- ---- an entry that neither notices nor designates
quiet_served : (xs : List Entry) (x : Entry) (t t' : Tally) → own_notices (1 + markings xs) x ≡ [] → designation_in x.answer ≡ [] → Served xs t →
    t'.session ≡ t.session → t'.notices ≡ t.notices → Served (xs ++ x ∷ []) t'
quiet_served xs x t t' en ed h es ens =
    let n : noticed (xs ++ x ∷ []) ≡ noticed xs = notices_push 1 xs x ∙ ap (λ l. noticed xs ++ l) en ∙ append-nil (noticed xs) in
    let d : designations (xs ++ x ∷ []) ≡ designations xs = designations_push xs x ∙ ap (λ l. designations xs ++ l) ed ∙ append-nil (designations xs) in
    record {
      parts = h.parts;
      answered = ap designated d ∙ h.answered;
      in_order = λ p. grind arith;
      past = rw es h.past;
      once = λ s lt. let o = h.once s (rw es at lt) in (o.0, ap designated d ∙ o.1 ∙ ap (λ l. sellers (before s l) ++ o.0) (sym n));
    }

module _ (c : Terms) (xs : List Entry) (t : Tally) (told : Told c xs t) (h : Sound c t) (served : Served xs t) where
  -- ---- a notice
  served_notice : (x : Entry) (n : Notice) → n.session ≡ t.session → own_notices (1 + markings xs) x ≡ n ∷ [] → designation_in x.answer ≡ [] →
      (t' : Tally) → t'.session ≡ t.session → t'.notices ≡ t.notices ++ n ∷ [] → Served (xs ++ x ∷ []) t'
  served_notice x n es en ed t' same more =
      let list : noticed (xs ++ x ∷ []) ≡ noticed xs ++ n ∷ [] = notices_push 1 xs x ∙ ap (λ l. noticed xs ++ l) en in
      let d : designations (xs ++ x ∷ []) ≡ designations xs = designations_push xs x ∙ ap (λ l. designations xs ++ l) ed ∙ append-nil (designations xs) in
      record {
        parts = served.parts;
        answered = ap designated d ∙ served.answered;
        in_order = λ p. grind (arith, sessions_append, append_assoc);
        past = rw same served.past;
        once = λ s lt.
            let below : s < t.session = omega (arith, same) in
            let o = served.once s below in
            let late : before s (n ∷ []) ≡ [] = rw (le-ltb n.session s (omega (arith, es))) refl in
            (o.0, ap designated d ∙ o.1 ∙ ap (λ l. sellers l ++ o.0) (sym (ap (before s) list ∙ filter-append (λ y. ltb y.session s) (noticed xs) (n ∷ []) ∙ ap (λ l. before s (noticed xs) ++ l) late ∙ append-nil (before s (noticed xs)))));
      }

  -- ---- a designation
  served_designation : (x : Entry) (n : Notice) (ns : List Notice) (l : Lot) → t.notices ≡ n ∷ ns → n.session < t.session → x.event ≡ designating →
      x.answer ≡ Ok (Designated (record { buyer = l.owner; seller = n.seller; contracts = paired n l; price = t.price })) → Served (xs ++ x ∷ []) (fed_designation t n l)
  unfolding fed_designation designated sellers
  served_designation x n ns l nx due event answered =
      let m = paired n l in
      let part : Notice = notice_counting.recount n m in
      let d : Designation = record { buyer = l.owner; seller = n.seller; contracts = m; price = t.price } in
      let none : own_notices (1 + markings xs) x ≡ [] = rw (event, answered) refl in
      let list : noticed (xs ++ x ∷ []) ≡ noticed xs = notices_push 1 xs x ∙ ap (λ y. noticed xs ++ y) none ∙ append-nil (noticed xs) in
      let more : designated (designations (xs ++ x ∷ [])) ≡ designated (designations xs) ++ designated (d ∷ []) = ap designated (designations_push xs x ∙ ap (λ a. designations xs ++ designation_in a) answered) ∙ designated_append (designations xs) (d ∷ []) in
      record {
        parts = served.parts ++ part ∷ [];
        answered = grind (arith, sellers_append);
        in_order = λ p. grind (arith, sessions_first, append_assoc, sessions_append);
        past = grind (arith, common_steps);
        once = λ s lt. let o = served.once s lt in
            (o.0 ++ designated (d ∷ []), more ∙ ap (λ y. y ++ designated (d ∷ [])) o.1 ∙ append_assoc (sellers (before s (noticed xs))) o.0 (designated (d ∷ [])) ∙ ap (λ y. sellers (before s y) ++ (o.0 ++ designated (d ∷ []))) (sym list));
      }

  -- ---- a marking
  served_marking : (x : Entry) (m : Marking) → own_notices (1 + markings xs) x ≡ [] → designation_in x.answer ≡ [] → AllByRecursion (λ n. n.session ≡ t.session) t.notices → Served (xs ++ x ∷ []) (fed_marking t m)
  unfolding fed_marking sellers
  served_marking x m en ed undue =
      let n : noticed (xs ++ x ∷ []) ≡ noticed xs = notices_push 1 xs x ∙ ap (λ l. noticed xs ++ l) en ∙ append-nil (noticed xs) in
      let d : designations (xs ++ x ∷ []) ≡ designations xs = designations_push xs x ∙ ap (λ l. designations xs ++ l) ed ∙ append-nil (designations xs) in
      let now_once : designated (designations xs) ≡ sellers (before t.session (noticed xs)) ++ [] =
      served.answered ∙ sym (append-nil _ ∙ served.in_order (λ z. ltb z t.session) ∙ ap (λ l. sellers l ++ sellers (before t.session t.notices)) (all_before t.session served.parts served.past)
      ∙ ap (λ l. sellers served.parts ++ sellers l) (none_before t.session t.notices undue) ∙ append-nil (sellers served.parts)) in
      record {
        parts = served.parts;
        answered = ap designated d ∙ served.answered;
        in_order = λ p. ap (λ l. sellers (of_sessions p l)) n ∙ served.in_order p;
        past = All-weaker (λ y. y.session < t.session) (λ y. y.session < t.session + 1) (λ y lt. omega arith) served.parts served.past;
        once = λ s lt. ⊎_elim
            (λ (below : s < t.session). let o = served.once s below in (o.0, ap designated d ∙ o.1 ∙ ap (λ l. sellers (before s l) ++ o.0) (sym n)))
            (λ (above : t.session ≤ s). let same : t.session ≡ s = omega arith in ([], ap designated d ∙ now_once ∙ ap (λ i. sellers (before i (noticed xs)) ++ []) same ∙ ap (λ l. sellers (before s l) ++ []) (sym n)))
            (cases_lt s t.session);
      }

  -- ---- any accepted call
  served_oldest : (ns : List Notice) (ls : List Lot) → t.notices ≡ ns → t.lots ≡ ls → is_due t.session ns ≡ true →
      Served (xs ++ record { event = designating; answer = designation_of (seen c.size t) ns ls; rows = [] } ∷ []) (fed_oldest t ns ls)
  served_oldest [] ls en el d = absurd (false≢true d)
  served_oldest (n ∷ ns) [] en el d = absurd (finds_lot c t h n ns en (ltb-true n.session t.session d) el)
  served_oldest (n ∷ ns) (l ∷ ls) en el d =
      served_designation (record { event = designating; answer = designation_of (seen c.size t) (n ∷ ns) (l ∷ ls); rows = [] }) n ns l en (ltb-true n.session t.session d) refl refl

  abbrev taken : Event → Entry
  taken e = record { event = e; answer = answer c (seen c.size t) e; rows = rows_of (page_of c (seen c.size t) e) }

  served_entered : (e : Event) → verdict c (seen c.size t) e ≡ None → Served (xs ++ taken e ∷ []) (entered t e)
  unfolding entered questions fed_expiry
  served_entered (registering r) q = grind (arith, quiet_served)
  served_entered (trading w) q = grind (arith, quiet_served)
  served_entered (quoting x reply) q = grind (arith, quiet_served)
  served_entered (noticing n) q = grind (arith, served_notice)
  served_entered designating q = served_oldest t.notices t.lots refl refl (met _ _ q).0
  served_entered (marking m room) q = grind (arith, served_marking, ordered_undue, not-true, met)
  served_entered (expiring None room) q = absurd (false≢true (met _ _ (met _ _ q).1).0)
  served_entered (expiring (Some final) room) q = grind (arith, quiet_served)

  pub served_fed : (e : Event) → Served (xs ++ entry c (seen c.size t) e ∷ []) (fed c t e)
  served_fed e = grind (arith, served_entered, quiet_served)
