-- The settlement law.
use Rattle.std.proofs.Common.{◌≡◌, ℕ, ◌+◌, ◌-◌, ◌<◌, ◌≤◌, false, cond, not, ◌&&◌, eqb, ltb, leb, List, [], ◌∷◌, ◌++◌, length, get_or, pos, ◌+ℤ◌, ◌-ℤ◌, ◌*ℤ◌, Some, None, fold, sum, Option, sym, refl, ap, ◌∙◌, subst, arith}
use Rattle.std.specs.List.{AllByRecursion}
use Rattle.std.proofs.lemmas.List.{append_assoc, append-nil}
use Rattle.std.proofs.lemmas.Bool.{and_parts, eqb-true, false≢true}
use Rattle.tally.specs.declared.rows.Lot.{Lot}
use Rattle.tally.specs.declared.rows.Notice.{Notice}
use Rattle.tally.specs.declared.call.Marking.{Marking}
use Rattle.tally.specs.Account.{net, position}
use Rattle.tally.specs.Book.{Terms, Tally, View, prices, carried, account, seen}
use Rattle.tally.specs.Events.{Event, registering, trading, quoting, noticing, designating, marking, expiring}
use Rattle.tally.specs.Law.{Registered, page_rate, Balances, Met, Buildable, SettlementLaw}
use Rattle.tally.specs.Logs.{Side, bought, sold, markings, closed, trades, designations, notices_from, last_marked, settlement_price, sellers, designated, counted, value, contracts_of, value_of, postings, final_price, carried_by}
use Rattle.tally.specs.Pages.{Page}
use Rattle.tally.specs.Questions.{questions, verdict, first_unmet, find, is_due, is_buildable, between}
use Rattle.tally.specs.Runs.{Entry, fed, begun, entry, log, log_from, page_of, shown, tally}
use Rattle.tally.proofs.Clock.{Clocked, clocked}
use Rattle.tally.proofs.Facts.{met, between_is, length_numbered, get_d_numbered, someone}
use Rattle.tally.proofs.Lots.{oldest_first}
use Rattle.tally.proofs.Notices.{ordered_undue}
use Rattle.tally.proofs.Pages.{marking_balances, expiry_balances}
use Rattle.tally.proofs.Pushes.{prices_count, prices_value}
use Rattle.tally.proofs.Runs.{no_window, sound, sound_fed, shown_is_seen}
use Rattle.tally.proofs.Served.{Served, served_fed, all_in_order}
use Rattle.tally.proofs.Sound.{Sound, sound_begun, finds_lot}
use Rattle.tally.proofs.Telling.{told_fed}
use Rattle.tally.proofs.Told.{Told, side_of}
use Rattle.tally.proofs.Zero.{totals_zero}

-- ---- a run, with its log
record Standing (c : Terms) (xs : List Entry) (t : Tally) : Type 0 where
  sound : Sound c t
  told : Told c xs t
  served : Served xs t

told_begun : (c : Terms) → Told c [] begun
unfolding markings last_marked trades closed designations final_price contracts_of value_of
told_begun c = record {
  session = refl;
  price = refl;
  rate = refl;
  waits = refl;
  running = λ _. grind arith;
  ended = λ e. absurd (false≢true e);
}
  where
    sides : (side : Side) (k : ℕ) → contracts_of k (side_of side begun) ≡ contracts_of k (postings side [])
    sides bought k = refl
    sides sold k = refl

    worths : (side : Side) (k : ℕ) → value_of k (side_of side begun) ≡ value_of k (postings side [])
    worths bought k = refl
    worths sold k = refl

served_begun : Served [] begun
unfolding designations designated sellers notices_from
served_begun = grind arith

module _ (c : Terms) (windows : c.delivers ≡ false → c.closes ≡ 0) where
  standing_begun : Standing c [] begun
  standing_begun = record { sound = sound_begun c; told = told_begun c; served = served_begun }

  standing_fed : (xs : List Entry) (t : Tally) → Standing c xs t → (e : Event) → Standing c (xs ++ entry c (seen c.size t) e ∷ []) (fed c t e)
  standing_fed xs t h e = record {
    sound = sound_fed c windows t h.sound e;
    told = told_fed c xs t h.told h.sound e;
    served = served_fed c xs t h.told h.sound h.served e;
  }

  standing_from : (xs : List Entry) (t : Tally) → Standing c xs t → (es : List Event) → Standing c (xs ++ log_from c t es) (fold (fed c) t es)
  standing_from xs t h [] = rw (append-nil xs) h
  standing_from xs t h (e ∷ es) =
      let x = entry c (seen c.size t) e in
      rw (← append_assoc xs (x ∷ []) (log_from c (fed c t e) es)) (standing_from (xs ++ x ∷ []) (fed c t e) (standing_fed xs t h e) es)

  standing : (es : List Event) → Standing c (log c es) (tally c es)
  standing es = standing_from [] begun standing_begun es

-- ---- what the log counts is what the tally counts
module _ (c : Terms) (xs : List Entry) (t : Tally) (told : Told c xs t) where
  counts : (side : Side) (k : ℕ) → Registered (length t.parties) k → (contracts_of k (side_of side t) ≡ counted side xs k) × (value_of k (side_of side t) ≡ value side xs k)
  counts side k r = grind arith

  carries : (k : ℕ) → Registered (length t.parties) k → carried t k ≡ carried_by xs k
  unfolding net
  carries k r = grind (arith, prices_count)

  worth : (k : ℕ) → Registered (length t.parties) k →
      position c.size t.price (prices k t.bought) (prices k t.sold) ≡ pos c.size *ℤ (((carried_by xs k *ℤ pos (settlement_price xs)) +ℤ pos (value sold xs k)) -ℤ pos (value bought xs k))
  unfolding position
  worth k r =
      ap (λ z. pos c.size *ℤ (((z *ℤ pos t.price) +ℤ pos (sum (prices k t.sold))) -ℤ pos (sum (prices k t.bought)))) (carries k r)
      ∙ ap (λ p. pos c.size *ℤ (((carried_by xs k *ℤ pos p) +ℤ pos (sum (prices k t.sold))) -ℤ pos (sum (prices k t.bought)))) told.price
      ∙ ap (λ n. pos c.size *ℤ (((carried_by xs k *ℤ pos (settlement_price xs)) +ℤ pos n) -ℤ pos (sum (prices k t.bought)))) (prices_value k t.sold ∙ (counts sold k r).1)
      ∙ ap (λ n. pos c.size *ℤ (((carried_by xs k *ℤ pos (settlement_price xs)) +ℤ pos (value sold xs k)) -ℤ pos n)) (prices_value k t.bought ∙ (counts bought k r).1)

-- the account that the tally shows under a number
pub shows_account : (c : Terms) (t : Tally) (k : ℕ) → Registered (length t.parties) k → find (seen c.size t) k ≡ account c.size t k (get_or t.parties (k - 1) someone)
shows_account c t k r = grind (arith, get_d_numbered)

-- ---- a call that a run meets
module _ (c : Terms) (b : Buildable c) (t : Tally) (h : Sound c t) (k : Clocked c t) where
  abbrev v : View
  v = seen c.size t

  no_page : {p : Page} → ◌≡◌ {A = Option Page} None (Some p) → ⊥
  no_page e = let z : ◌≡◌ {A = ℕ} 0 1 = cc in omega arith

  same_page : {p q : Page} → ◌≡◌ {A = Option Page} (Some p) (Some q) → p ≡ q
  same_page e = cc

  page_met : (e : Event) (p : Page) → verdict c v e ≡ None → page_of c v e ≡ Some p → Balances c (page_rate v e) p
  unfolding questions is_buildable
  page_met (registering r) p q e = absurd (no_page e)
  page_met (trading w) p q e = absurd (no_page e)
  page_met (quoting x reply) p q e = absurd (no_page e)
  page_met (noticing n) p q e = absurd (no_page e)
  page_met designating p q e = absurd (no_page e)
  page_met (marking m room) p q e =
      let q19 = met _ _ (met _ _ q).1 in
      let q20 = met _ _ (met _ _ q19.1).1 in
      let rated = between_is 100000 9999999 m.rate q20.0 in
      subst (λ x. Balances c m.rate x) (same_page e) (marking_balances c t m h.balanced (omega (arith, rated.0)))
  page_met (expiring None room) p q e = absurd (no_page e)
  page_met (expiring (Some final) room) p q e =
      let q22 = and_parts (not c.delivers) (eqb t.session (c.last + 1) && not t.expired) (met _ _ q).0 in
      let over = eqb-true t.session (c.last + 1) (and_parts (eqb t.session (c.last + 1)) (not t.expired) q22.1).0 in
      let some = between_is 1 260 c.last (and_parts (between 1 260 c.last) (cond c.delivers (leb 1 c.opens && (leb c.opens c.closes && ltb c.closes c.last)) (eqb c.opens 0 && eqb c.closes 0)) b.built).0 in
      subst (λ x. Balances c t.rate x) (same_page e) (expiry_balances c t final h.balanced (k.some_rate (omega (arith, some.0))))

  undue_met : (m : Marking) (room : ℕ) → verdict c v (marking m room) ≡ None → AllByRecursion (λ n. n.session ≡ t.session) t.notices
  unfolding questions
  undue_met m room q = grind (arith, ordered_undue, met)

  none_due : (verdict c v designating ≡ None → ⊥) → is_due t.session t.notices ≡ false
  unfolding questions first_unmet
  none_due refused = grind arith

  lot_found : (n : Notice) (ns : List Notice) → t.notices ≡ n ∷ ns → n.session < t.session → (ls : List Lot) → t.lots ≡ ls → (l : Lot) × (rest : List Lot) × (t.lots ≡ l ∷ rest) × AllByRecursion (λ x. l.session ≤ x.session) rest
  lot_found n ns nx due [] el = absurd (finds_lot c t h n ns nx due el)
  lot_found n ns nx due (l ∷ ls) el = grind (arith, oldest_first)

  pub call_met : (e : Event) → Met c t e
  call_met e = record {
    page_balances = page_met e;
    notices_come_first = λ m room is q. undue_met m room (rw is at q);
    refused_if_none_due = λ is refused. none_due (λ q. refused (rw is q));
    oldest_lot_found = λ n ns nx due. lot_found n ns nx due t.lots refl;
  }

-- ---- logs and runs in two parts
module _ (c : Terms) where
  tally_append : (t : Tally) (xs ys : List Event) → fold (fed c) t (xs ++ ys) ≡ fold (fed c) (fold (fed c) t xs) ys
  tally_append t [] ys = refl
  tally_append t (x ∷ xs) ys = tally_append (fed c t x) xs ys

  log_append : (t : Tally) (xs ys : List Event) → log_from c t (xs ++ ys) ≡ log_from c t xs ++ log_from c (fold (fed c) t xs) ys
  log_append t [] ys = refl
  log_append t (x ∷ xs) ys = grind (arith, log_append (fed c t x) xs ys)

pub settled : SettlementLaw
unfolding account
settled c b es =
    let windows = no_window c b in
    let t = tally c es in
    let e = shown_is_seen c windows es in
    let s = standing c windows es in
    let many : length (seen c.size t).accounts ≡ length t.parties = length_numbered (account c.size t) 1 t.parties in
    let inside : (k : ℕ) → Registered (length (shown c es).accounts) k → Registered (length t.parties) k = λ k r. (r.0, omega (arith, r.1, ap (λ w. length w.accounts) e, many)) in
    record {
      shows_the_tally = e;
      session_counted = ap (λ w. w.session) e ∙ s.told.session;
      price_settled = ap (λ w. w.price) e ∙ s.told.price;
      rate_settled = ap (λ w. w.rate) e ∙ s.told.rate;
      carried_counted = λ k r. ap (λ w. (find w k).carried) e ∙ ap (λ a. a.carried) (shows_account c t k (inside k r)) ∙ carries c (log c es) t s.told k (inside k r);
      totals_match_positions = λ k r. grind (arith, shows_account, worth);
      totals_sum_to_zero = grind (arith, totals_zero);
      lots_are_long = λ k r. grind (arith, shows_account);
      lots_in_order = rw e s.sound.lots_ordered;
      designated_in_order = grind (arith, all_in_order);
      designated_once = λ i lt. s.served.once i (rw e at lt);
      calls_met = λ front x back split. (
        call_met c b (tally c front) (sound c windows front) (clocked c front) x,
        ap (log c) split ∙ log_append c begun front (x ∷ back) ∙ ap (λ u. log c front ++ entry c (seen c.size (tally c front)) x ∷ log_from c u back) (sym (tally_append c begun front (x ∷ []))),
      );
    }
