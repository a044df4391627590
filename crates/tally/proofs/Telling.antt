-- What each call tells: the log with its entry counts what the fed tally counts.
use Rattle.std.proofs.Common.{◌≡◌, ℕ, ◌+◌, ◌*◌, ◌≤◌, Bool, true, false, not, ◌&&◌, eqb, List, [], ◌∷◌, ◌++◌, map, length, pos, ◌-ℤ◌, Some, None, Ok, Err, sum, sym, refl, ap, ◌∙◌, arith}
use Rattle.std.proofs.lemmas.List.{append_assoc, append-nil, map-append, length-replicate}
use Rattle.std.proofs.lemmas.Bool.{and_parts, leb-true, ltb-true, eqb-true, not-true, false≢true}
use Rattle.tally.specs.declared.rows.Trade.{Trade}
use Rattle.tally.specs.declared.rows.Lot.{Lot}
use Rattle.tally.specs.declared.rows.Notice.{Notice}
use Rattle.tally.specs.declared.rows.Designation.{Designation}
use Rattle.tally.specs.declared.rows.PageRow.{PageRow}
use Rattle.tally.specs.declared.refusal.Refusal.{Refusal}
use Rattle.tally.specs.Answers.{Answer}
use Rattle.tally.specs.declared.call.Reply.TheVariants.{Designated}
use Rattle.tally.specs.declared.call.Marking.{Marking}
use Rattle.tally.specs.Account.{net}
use Rattle.tally.specs.Book.{Terms, Tally, numbered, carried, seen}
use Rattle.tally.specs.Events.{Event, registering, trading, quoting, noticing, designating, marking, expiring}
use Rattle.tally.specs.Law.{Registered}
use Rattle.tally.specs.Logs.{Side, bought, sold, marked_by, ended_by, is_marking, designation_in, closed, trades, designations, final_price, by_trade, by_designation, at_expiry, postings, contracts_of, value_of, open_contracts}
use Rattle.tally.specs.Questions.{questions, verdict, is_due}
use Rattle.tally.specs.Runs.{Entry, answer, page_of, rows_of, designation_of, fed, entry}
use Rattle.tally.specs.Steps.{entered, fed_oldest, fed_marking, fed_designation, fed_expiry, paired}
use Rattle.tally.proofs.Facts.{met}
use Rattle.tally.proofs.Numbered.{each, prices_each}
use Rattle.tally.proofs.Positions.{sum_replicate}
use Rattle.tally.proofs.Pushes.{markings_push, trades_push, own_trades, designations_push, last_push, final_push, or_else, closed_all, contracts_append, value_append, prices_count, prices_value}
use Rattle.tally.proofs.Sound.{Sound, finds_lot}
use Rattle.tally.proofs.Told.{Told, Running, Silent, side_of, silent_told, markings_same, last_same, closed_same, final_same, postings_same, trades_same}

never : (b : Bool) → b ≡ true → b ≡ false → ⊥
never b p q = false≢true (sym q ∙ p)

-- the entry of an accepted call
abbrev taken : Terms → Tally → Event → Entry
taken c t e = record { event = e; answer = answer c (seen c.size t) e; rows = rows_of (page_of c (seen c.size t) e) }

module _ (c : Terms) (xs : List Entry) (t : Tally) (told : Told c xs t) where
  -- a call that is open till the last session comes before any expiry
  not_over : t.session ≤ c.last → t.expired ≡ true → ⊥
  not_over le e = omega (arith, (told.ended e).over)

  -- ---- a trade waits
  told_trade : (w : Trade) → t.session ≤ c.last → Told c (xs ++ taken c t (trading w) ∷ []) (entered t (trading w))
  unfolding entered
  told_trade w le =
      let x = taken c t (trading w) in
      record {
        session = grind (arith, markings_same);
        price = told.price ∙ sym (last_same xs x (λ m. m.price) refl);
        rate = told.rate ∙ sym (last_same xs x (λ m. m.rate) refl);
        waits = grind (arith, trades_push, append_assoc, closed_same);
        running = λ e. let r = told.running e in record {
          unended = final_same xs x refl ∙ r.unended;
          contracts = λ side k. sides side k ∙ r.contracts side k ∙ ap (contracts_of k) (sym (postings_same xs x side refl refl));
          values = λ side k. worths side k ∙ r.values side k ∙ ap (value_of k) (sym (postings_same xs x side refl refl));
        };
        ended = λ e. absurd (not_over le e);
      }
    where
      sides : (side : Side) (k : ℕ) → contracts_of k (side_of side (entered t (trading w))) ≡ contracts_of k (side_of side t)
      sides bought k = refl
      sides sold k = refl

      worths : (side : Side) (k : ℕ) → value_of k (side_of side (entered t (trading w))) ≡ value_of k (side_of side t)
      worths bought k = refl
      worths sold k = refl

  -- ---- a marking counts the trades that wait
  marked_side : (side : Side) (m : Marking) → side_of side (fed_marking t m) ≡ side_of side t ++ map (by_trade side) t.waiting
  unfolding fed_marking
  marked_side bought m = refl
  marked_side sold m = refl

  marked_postings : (side : Side) (x : Entry) → is_marking x ≡ true → own_trades x ≡ [] → designation_in x.answer ≡ [] →
      postings side (xs ++ x ∷ []) ≡ (map (by_trade side) (trades (closed xs)) ++ map (by_trade side) t.waiting) ++ map (by_designation side) (designations xs)
  marked_postings side x e n d = grind (arith, closed_all, trades_same, map-append, designations_push, append-nil)

  told_marking : (m : Marking) (room : ℕ) → t.session ≤ c.last → Told c (xs ++ taken c t (marking m room) ∷ []) (fed_marking t m)
  unfolding fed_marking
  told_marking m room le =
      let x = taken c t (marking m room) in
      record {
        session = grind (arith, markings_push);
        price = sym (last_push (λ y. y.price) 0 xs x);
        rate = sym (last_push (λ y. y.rate) 0 xs x);
        waits = grind (arith, closed_all, append-nil);
        running = λ e. let r = told.running e in record {
          unended = final_same xs x refl ∙ r.unended;
          contracts = λ side k.
              let p = map (by_trade side) (trades (closed xs)) in
              let w = map (by_trade side) t.waiting in
              let d = map (by_designation side) (designations xs) in
              ap (contracts_of k) (marked_side side m)
              ∙ omega (arith, contracts_append k (side_of side t) w, r.contracts side k, contracts_append k p d, ap (contracts_of k) (marked_postings side x refl refl refl), contracts_append k (p ++ w) d, contracts_append k p w);
          values = λ side k.
              let p = map (by_trade side) (trades (closed xs)) in
              let w = map (by_trade side) t.waiting in
              let d = map (by_designation side) (designations xs) in
              ap (value_of k) (marked_side side m)
              ∙ omega (arith, value_append k (side_of side t) w, r.values side k, value_append k p d, ap (value_of k) (marked_postings side x refl refl refl), value_append k (p ++ w) d, value_append k p w);
        };
        ended = λ e. absurd (not_over le e);
      }

  -- ---- a designation
  module _ (n : Notice) (l : Lot) where
    abbrev given : Designation
    given = record { buyer = l.owner; seller = n.seller; contracts = paired n l; price = t.price }

    designated_side : (side : Side) → side_of side (fed_designation t n l) ≡ side_of side t ++ by_designation side given ∷ []
    unfolding fed_designation
    designated_side bought = refl
    designated_side sold = refl

    pub told_designation : (x : Entry) → x.event ≡ designating → x.answer ≡ Ok (Designated given) → (t.expired ≡ true → ⊥) → Told c (xs ++ x ∷ []) (fed_designation t n l)
    unfolding fed_designation
    told_designation x event answered alive =
        let unmarked : marked_by x ≡ None = rw (event, answered) refl in
        let unended : ended_by x ≡ None = rw (event, answered) refl in
        let one : designations (xs ++ x ∷ []) ≡ designations xs ++ given ∷ [] = designations_push xs x ∙ ap (λ a. designations xs ++ designation_in a) answered in
        record {
          session = grind (arith, markings_same);
          price = told.price ∙ sym (last_same xs x (λ m. m.price) unmarked);
          rate = told.rate ∙ sym (last_same xs x (λ m. m.rate) unmarked);
          waits = grind (arith, trades_same, closed_same);
          running = λ e. let r = told.running e in record {
            unended = final_same xs x unended ∙ r.unended;
            contracts = λ side k.
                let p = map (by_trade side) (trades (closed xs)) in
                let d = map (by_designation side) (designations xs) in
                let g = by_designation side given in
                ap (contracts_of k) (designated_side side)
                ∙ omega (arith, contracts_append k (side_of side t) (g ∷ []), r.contracts side k, contracts_append k p d, ap (contracts_of k) (more side unmarked one), contracts_append k p (d ++ g ∷ []), contracts_append k d (g ∷ []));
            values = λ side k.
                let p = map (by_trade side) (trades (closed xs)) in
                let d = map (by_designation side) (designations xs) in
                let g = by_designation side given in
                ap (value_of k) (designated_side side)
                ∙ omega (arith, value_append k (side_of side t) (g ∷ []), r.values side k, value_append k p d, ap (value_of k) (more side unmarked one), value_append k p (d ++ g ∷ []), value_append k d (g ∷ []));
          };
          ended = λ e. absurd (alive e);
        }
      where
        more : (side : Side) → marked_by x ≡ None → designations (xs ++ x ∷ []) ≡ designations xs ++ given ∷ [] →
            postings side (xs ++ x ∷ []) ≡ map (by_trade side) (trades (closed xs)) ++ (map (by_designation side) (designations xs) ++ by_designation side given ∷ [])
        more side unmarked one =
            ap (λ y. map (by_trade side) (trades y) ++ map (by_designation side) (designations (xs ++ x ∷ []))) (closed_same xs x unmarked)
            ∙ ap (λ y. map (by_trade side) (trades (closed xs)) ++ map (by_designation side) y) one
            ∙ ap (λ y. map (by_trade side) (trades (closed xs)) ++ y) (map-append (by_designation side) (designations xs) (given ∷ []))

  -- ---- an expiry counts what is still held
  closes : (side : Side) → ℕ → ℕ
  closes side k = at_expiry side (carried t k)

  expired_side : (side : Side) (final : ℕ) → side_of side (fed_expiry t final) ≡ side_of side t ++ numbered (each final (closes side)) 1 t.parties
  unfolding fed_expiry closes
  expired_side bought final = refl
  expired_side sold final = refl

  each_contracts : (final : ℕ) (of : ℕ → ℕ) (k : ℕ) → Registered (length t.parties) k → contracts_of k (numbered (each final of) 1 t.parties) ≡ of k
  each_contracts final of k r =
      sym (prices_count k (numbered (each final of) 1 t.parties)) ∙ ap length (prices_each final of k 1 t.parties r.0 (omega arith)) ∙ length-replicate (of k) final

  each_values : (final : ℕ) (of : ℕ → ℕ) (k : ℕ) → Registered (length t.parties) k → value_of k (numbered (each final of) 1 t.parties) ≡ final * of k
  each_values final of k r =
      sym (prices_value k (numbered (each final of) 1 t.parties)) ∙ ap sum (prices_each final of k 1 t.parties r.0 (omega arith)) ∙ sum_replicate (of k) final

  -- what the log has before the expiry is what is carried
  carries : Running xs t → (k : ℕ) → open_contracts xs k ≡ carried t k
  unfolding net
  carries r k = grind (arith, prices_count)

  told_expiry : (final room : ℕ) → t.expired ≡ false → t.session ≡ c.last + 1 → t.notices ≡ [] → Told c (xs ++ taken c t (expiring (Some final) room) ∷ []) (fed_expiry t final)
  unfolding fed_expiry closes
  told_expiry final room fresh over none =
      let x = taken c t (expiring (Some final) room) in
      let r = told.running fresh in
      let ends : final_price (xs ++ x ∷ []) ≡ Some final = final_push xs x ∙ ap (λ o. or_else o (Some final)) r.unended in
      record {
        session = grind (arith, markings_same);
        price = told.price ∙ sym (last_same xs x (λ m. m.price) refl);
        rate = told.rate ∙ sym (last_same xs x (λ m. m.rate) refl);
        waits = grind (arith, trades_same, closed_same);
        running = λ e. absurd (false≢true (sym e));
        ended = λ _. record {
          over = over;
          no_notice = none;
          contracts = λ side k reg.
              let all = numbered (each final (closes side)) 1 t.parties in
              let same = opens k r x refl refl in
              ap (contracts_of k) (expired_side side final)
              ∙ omega (
                arith,
                contracts_append k (side_of side t) all,
                r.contracts side k,
                each_contracts final (closes side) k reg,
                ap (contracts_of k) (postings_same xs x side refl refl),
                ap (λ o. elim o as (λ _. ℕ) [ None ↦ 0 | Some g ↦ at_expiry side (open_contracts (xs ++ x ∷ []) k) ]) ends,
                ap (at_expiry side) same,
              );
          values = λ side k reg.
              let all = numbered (each final (closes side)) 1 t.parties in
              let same = opens k r x refl refl in
              ap (value_of k) (expired_side side final)
              ∙ omega (
                arith,
                value_append k (side_of side t) all,
                r.values side k,
                each_values final (closes side) k reg,
                ap (value_of k) (postings_same xs x side refl refl),
                ap (λ o. elim o as (λ _. ℕ) [ None ↦ 0 | Some g ↦ g * at_expiry side (open_contracts (xs ++ x ∷ []) k) ]) ends,
                ap (λ z. final * at_expiry side z) same,
              );
        };
      }
    where
      opens : (k : ℕ) → Running xs t → (x : Entry) → marked_by x ≡ None → designation_in x.answer ≡ [] → open_contracts (xs ++ x ∷ []) k ≡ carried t k
      opens k r x u d =
          ap (λ l. pos (contracts_of k l) -ℤ pos (contracts_of k (postings sold (xs ++ x ∷ [])))) (postings_same xs x bought u d)
          ∙ ap (λ l. pos (contracts_of k (postings bought xs)) -ℤ pos (contracts_of k l)) (postings_same xs x sold u d)
          ∙ carries r k

  -- ---- any accepted call
  quiet : (e : Event) → marked_by (taken c t e) ≡ None → ended_by (taken c t e) ≡ None → own_trades (taken c t e) ≡ [] → designation_in (taken c t e).answer ≡ [] → Silent (taken c t e)
  quiet e a b d f = grind arith

  told_oldest : Sound c t → (ns : List Notice) (ls : List Lot) → t.notices ≡ ns → t.lots ≡ ls → is_due t.session ns ≡ true →
      Told c (xs ++ record { event = designating; answer = designation_of (seen c.size t) ns ls; rows = [] } ∷ []) (fed_oldest t ns ls)
  told_oldest h [] ls en el d = absurd (false≢true d)
  told_oldest h (n ∷ ns) [] en el d = absurd (finds_lot c t h n ns en (ltb-true n.session t.session d) el)
  told_oldest h (n ∷ ns) (l ∷ ls) en el d =
      told_designation n l (record { event = designating; answer = designation_of (seen c.size t) (n ∷ ns) (l ∷ ls); rows = [] }) refl refl
      (λ e. let z : ◌≡◌ {A = ℕ} 0 1 = cc (sym en ∙ (told.ended e).no_notice) in omega arith)

  told_entered : Sound c t → (e : Event) → verdict c (seen c.size t) e ≡ None → Told c (xs ++ taken c t e ∷ []) (entered t e)
  unfolding entered questions
  told_entered h (registering r) q =
      silent_told c xs (taken c t (registering r)) t (entered t (registering r)) (quiet (registering r) refl refl refl refl) told refl refl refl refl refl refl refl
      (λ e. absurd (not_over (leb-true t.session c.last (met _ _ q).0) e))
  told_entered h (trading w) q = told_trade w (leb-true t.session c.last (met _ _ q).0)
  told_entered h (quoting x reply) q = silent_told c xs (taken c t (quoting x reply)) t t (quiet (quoting x reply) refl refl refl refl) told refl refl refl refl refl refl refl (λ _. refl)
  told_entered h (noticing n) q =
      silent_told c xs (taken c t (noticing n)) t (entered t (noticing n)) (quiet (noticing n) refl refl refl refl) told refl refl refl refl refl refl refl
      (λ e. absurd (not_over (leb-true t.session c.last (met _ _ q).0) e))
  told_entered h designating q = told_oldest h t.notices t.lots refl refl (met _ _ q).0
  told_entered h (marking m room) q = told_marking m room (leb-true t.session c.last (met _ _ q).0)
  told_entered h (expiring None room) q = absurd (false≢true (met _ _ (met _ _ q).1).0)
  told_entered h (expiring (Some final) room) q =
      let q22 = and_parts (not c.delivers) (eqb t.session (c.last + 1) && not t.expired) (met _ _ q).0 in
      let at_end = and_parts (eqb t.session (c.last + 1)) (not t.expired) q22.1 in
      told_expiry final room (not-true t.expired at_end.1) (eqb-true t.session (c.last + 1) at_end.0) (h.mini (not-true c.delivers q22.0))

  told_refused : (e : Event) (r : Refusal) → Told c (xs ++ record { event = e; answer = Err r; rows = [] } ∷ []) t
  told_refused e r =
      silent_told c xs (record { event = e; answer = Err r; rows = [] }) t t (record { unmarked = refl; unended = refl; untraded = refl; undesignated = refl }) told refl refl refl refl refl refl refl (λ _. refl)

  pub told_fed : Sound c t → (e : Event) → Told c (xs ++ entry c (seen c.size t) e ∷ []) (fed c t e)
  told_fed h e =
      let v = seen c.size t in
      let o = verdict c v e in
      elim o as (λ a. o ≡ a → Told c
      (xs ++ record { event = e; answer = elim a as (λ _. Answer) [ None ↦ answer c v e | Some r ↦ Err r ]; rows = elim a as (λ _. List PageRow) [ None ↦ rows_of (page_of c v e) | Some _ ↦ [] ] } ∷ [])
      (elim a as (λ _. Tally) [ None ↦ entered t e | Some _ ↦ t ]))
      [ None ↦ told_entered h e | Some r ↦ λ _. told_refused e r ] refl
