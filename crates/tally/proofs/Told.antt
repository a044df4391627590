-- Log and tally count the same contracts.
use Rattle.std.proofs.Common.{◌≡◌, ℕ, ◌+◌, true, false, List, [], ◌∷◌, ◌++◌, length, pos, ◌-ℤ◌, Some, None, Option, sym, refl, ap, ◌∙◌, arith}
use Rattle.std.proofs.lemmas.List.{append-nil}
use Rattle.tally.specs.declared.call.Marking.{Marking}
use Rattle.tally.specs.Book.{Terms, Tally, Posting}
use Rattle.tally.specs.Law.{Registered}
use Rattle.tally.specs.Logs.{Side, bought, sold, marked_by, ended_by, is_marking, designation_in, markings, closed, trades, last_marked, settlement_price, settlement_rate, final_price, postings, contracts_of, value_of, open_contracts, counted, value}
use Rattle.tally.specs.Runs.{Entry}
use Rattle.tally.proofs.Pushes.{markings_push, trades_push, own_trades, designations_push, last_push, final_push, or_else, closed_push}

-- one side of the tally
abbrev pub side_of : Side → Tally → List Posting
side_of bought t = t.bought
side_of sold t = t.sold

-- before an expiry
pub record Running (xs : List Entry) (t : Tally) : Type 0 where
  pub unended : final_price xs ≡ None
  pub contracts : (side : Side) (k : ℕ) → contracts_of k (side_of side t) ≡ contracts_of k (postings side xs)
  pub values : (side : Side) (k : ℕ) → value_of k (side_of side t) ≡ value_of k (postings side xs)

-- after it
pub record Ended (c : Terms) (xs : List Entry) (t : Tally) : Type 0 where
  pub over : t.session ≡ c.last + 1
  pub no_notice : t.notices ≡ []
  pub contracts : (side : Side) (k : ℕ) → Registered (length t.parties) k → contracts_of k (side_of side t) ≡ counted side xs k
  pub values : (side : Side) (k : ℕ) → Registered (length t.parties) k → value_of k (side_of side t) ≡ value side xs k

pub record Told (c : Terms) (xs : List Entry) (t : Tally) : Type 0 where
  pub session : t.session ≡ 1 + markings xs
  pub price : t.price ≡ settlement_price xs
  pub rate : t.rate ≡ settlement_rate xs
  pub waits : trades xs ≡ trades (closed xs) ++ t.waiting
  pub running : t.expired ≡ false → Running xs t
  pub ended : t.expired ≡ true → Ended c xs t

-- an entry that tells nothing of what was bought and sold
pub record Silent (x : Entry) : Type 0 where
  pub unmarked : marked_by x ≡ None
  pub unended : ended_by x ≡ None
  pub untraded : own_trades x ≡ []
  pub undesignated : designation_in x.answer ≡ []

pub no_marking : (x : Entry) → marked_by x ≡ None → is_marking x ≡ false
no_marking x e = grind arith

module _ (xs : List Entry) (x : Entry) where
  pub markings_same : marked_by x ≡ None → markings (xs ++ x ∷ []) ≡ markings xs
  markings_same e = grind (arith, markings_push)

  pub last_same : (f : Marking → ℕ) → marked_by x ≡ None → last_marked f 0 (xs ++ x ∷ []) ≡ last_marked f 0 xs
  last_same f e = grind (arith, last_push)

  pub closed_same : marked_by x ≡ None → closed (xs ++ x ∷ []) ≡ closed xs
  closed_same e = closed_push xs x (no_marking x e)

  pub final_same : ended_by x ≡ None → final_price (xs ++ x ∷ []) ≡ final_price xs
  final_same e = final_push xs x ∙ ap (or_else (final_price xs)) e ∙ none (final_price xs)
    where
      none : (o : Option ℕ) → or_else o None ≡ o
      none None = refl
      none (Some f) = refl

  pub postings_same : (side : Side) → marked_by x ≡ None → designation_in x.answer ≡ [] → postings side (xs ++ x ∷ []) ≡ postings side xs
  postings_same side e d = grind (arith, closed_same, designations_push, append-nil)

  pub trades_same : own_trades x ≡ [] → trades (xs ++ x ∷ []) ≡ trades xs
  trades_same e = grind (arith, trades_push, append-nil)

  -- what is counted by the log stays
  pub counted_same : (side : Side) (k : ℕ) → Silent x → (counted side (xs ++ x ∷ []) k ≡ counted side xs k) × (value side (xs ++ x ∷ []) k ≡ value side xs k)
  counted_same side k h =
      let b = postings_same bought h.unmarked h.undesignated in
      let s = postings_same sold h.unmarked h.undesignated in
      let p = postings_same side h.unmarked h.undesignated in
      let f = final_same h.unended in
      let z : open_contracts (xs ++ x ∷ []) k ≡ open_contracts xs k = ap (λ l. pos (contracts_of k l) -ℤ pos (contracts_of k (postings sold (xs ++ x ∷ [])))) b ∙ ap (λ l. pos (contracts_of k (postings bought xs)) -ℤ pos (contracts_of k l)) s in
      (by_parts f p z, by_values f p z)
    where
      by_parts : final_price (xs ++ x ∷ []) ≡ final_price xs → postings side (xs ++ x ∷ []) ≡ postings side xs → open_contracts (xs ++ x ∷ []) k ≡ open_contracts xs k → counted side (xs ++ x ∷ []) k ≡ counted side xs k
      by_parts f p z = grind arith

      by_values : final_price (xs ++ x ∷ []) ≡ final_price xs → postings side (xs ++ x ∷ []) ≡ postings side xs → open_contracts (xs ++ x ∷ []) k ≡ open_contracts xs k → value side (xs ++ x ∷ []) k ≡ value side xs k
      by_values f p z = grind arith

-- ---- an entry that tells nothing leaves a tally told that differs at most in what the log does not count
pub silent_told : (c : Terms) (xs : List Entry) (x : Entry) (t t' : Tally) → Silent x → Told c xs t →
    t'.session ≡ t.session → t'.price ≡ t.price → t'.rate ≡ t.rate → t'.waiting ≡ t.waiting → t'.bought ≡ t.bought → t'.sold ≡ t.sold → t'.expired ≡ t.expired →
    (t.expired ≡ true → t' ≡ t) → Told c (xs ++ x ∷ []) t'
silent_told c xs x t t' h told es ep er ew eb ed ee stuck = record {
  session = grind (arith, markings_same);
  price = grind (arith, last_same);
  rate = grind (arith, last_same);
  waits = grind (arith, trades_same, closed_same);
  running = λ e.
      let r = told.running (sym ee ∙ e) in
      record {
        unended = final_same xs x h.unended ∙ r.unended;
        contracts = λ side k. ap (contracts_of k) (sides side) ∙ r.contracts side k ∙ ap (contracts_of k) (sym (postings_same xs x side h.unmarked h.undesignated));
        values = λ side k. ap (value_of k) (sides side) ∙ r.values side k ∙ ap (value_of k) (sym (postings_same xs x side h.unmarked h.undesignated));
      };
  ended = λ e.
      let r = told.ended (sym ee ∙ e) in
      let same = stuck (sym ee ∙ e) in
      record {
        over = es ∙ r.over;
        no_notice = ap (λ u. u.notices) same ∙ r.no_notice;
        contracts = λ side k reg. ap (contracts_of k) (sides side) ∙ r.contracts side k (rw same at reg) ∙ sym (counted_same xs x side k h).0;
        values = λ side k reg. ap (value_of k) (sides side) ∙ r.values side k (rw same at reg) ∙ sym (counted_same xs x side k h).1;
      };
}
  where
    sides : (side : Side) → side_of side t' ≡ side_of side t
    sides bought = eb
    sides sold = ed
