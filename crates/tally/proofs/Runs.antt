-- Every run: what the book shows is what the tally shows, and the tally is sound.
use Rattle.std.proofs.Common.{◌≡◌, ℕ, ◌+◌, true, false, List, [], ◌∷◌, ◌++◌, length, ℤ, Some, None, fold, sym, refl, ap, ◌∙◌, arith}
use Rattle.std.proofs.lemmas.Bool.{ltb-true}
use Rattle.tally.specs.declared.rows.Account.{Account}
use Rattle.tally.specs.declared.rows.Trade.{Trade}
use Rattle.tally.specs.declared.rows.Lot.{Lot}
use Rattle.tally.specs.declared.rows.Notice.{Notice}
use Rattle.tally.specs.declared.call.Registration.{Registration}
use Rattle.tally.specs.Account.{net, position}
use Rattle.tally.specs.Book.{Terms, Tally, View, numbered, prices, buys, sells, carried, account, seen}
use Rattle.tally.specs.Events.{Event, registering, trading, quoting, noticing, designating, marking, expiring}
use Rattle.tally.specs.Law.{Buildable}
use Rattle.tally.specs.Questions.{questions, verdict, is_buildable, is_due, traded_account}
use Rattle.tally.specs.Runs.{after, fed, begun, shown, tally}
use Rattle.tally.specs.Steps.{new_account, designate_oldest, fed_oldest, done, entered}
use Rattle.tally.proofs.Facts.{met, count_buys, count_sells, prices_stranger}
use Rattle.tally.proofs.Kept.{waited}
use Rattle.tally.proofs.Numbered.{numbered_twice, numbered_push}
use Rattle.tally.proofs.Positions.{position_none, net_none}
use Rattle.tally.proofs.Sound.{Sound, sound_begun, sound_register, sound_trade, sound_notice, sound_marking, sound_expiry, sound_designation}
use Rattle.tally.proofs.Square.{two, mark_square, designate_square, expire_square}

-- a kind that does not deliver has no notice window
pub no_window : (c : Terms) → Buildable c → c.delivers ≡ false → c.closes ≡ 0
unfolding is_buildable
no_window c b e = grind arith

module _ (c : Terms) (windows : c.delivers ≡ false → c.closes ≡ 0) (t : Tally) (h : Sound c t) where
  sound_oldest : (ns : List Notice) (ls : List Lot) → t.notices ≡ ns → t.lots ≡ ls → is_due t.session ns ≡ true → Sound c (fed_oldest t ns ls)
  sound_oldest [] ls en el d = h
  sound_oldest (x ∷ xs) [] en el d = h
  sound_oldest (x ∷ xs) (l ∷ ls) en el d = sound_designation c windows t h x l xs ls en el (ltb-true _ _ d)

  pub sound_entered : (e : Event) → verdict c (seen c.size t) e ≡ None → Sound c (entered t e)
  unfolding entered questions
  sound_entered (registering p) e = sound_register c windows t h p
  sound_entered (trading w) e = sound_trade c windows t h w e
  sound_entered (quoting q r) e = h
  sound_entered (noticing n) e = sound_notice c windows t h n e
  sound_entered designating e = sound_oldest t.notices t.lots refl refl (met _ _ e).0
  sound_entered (marking m r) e = sound_marking c windows t h m r
  sound_entered (expiring None r) e = h
  sound_entered (expiring (Some f) r) e = sound_expiry c windows t h f r e

  pub sound_fed : (e : Event) → Sound c (fed c t e)
  sound_fed e = grind (arith, sound_entered)

  -- ---- the square
  abbrev v : View
  v = seen c.size t

  abbrev with : List Account → List Trade → View
  with xs ws = record { accounts = xs; sheet = ws; lots = t.lots; notices = t.notices; session = t.session; price = t.price; rate = t.rate; expired = t.expired }

  abbrev made : Registration → ℤ → ℕ → ℕ → ℤ → Account
  made p y b s z = record { identity = p.identity; residency = p.residency; carried = y; bought = b; sold = s; total = z }

  fresh : (p : Registration) → new_account p ≡ account c.size t (1 + length t.parties) p
  unfolding account
  fresh p =
      let n = length t.parties in
      let k = 1 + n in
      let w = waited n t.waiting h.balanced.traders in
      let B = prices_stranger n k t.bought (omega arith) h.balanced.buyers in
      let S = prices_stranger n k t.sold (omega arith) h.balanced.sellers in
      let b = prices_stranger n k (buys t.waiting) (omega arith) w.0 in
      let s = prices_stranger n k (sells t.waiting) (omega arith) w.1 in
      two (λ y z. made p y 0 0 z) (net_none ∙ sym (two net B S)) (position_none c.size t.price ∙ sym (two (position c.size t.price) B S))
      ∙ two (λ i j. made p (carried t k) i j (position c.size t.price (prices k t.bought) (prices k t.sold))) (sym (ap length b)) (sym (ap length s))

  square_register : (p : Registration) → done c v (registering p) ≡ seen c.size (entered t (registering p))
  unfolding done entered account
  square_register p = ap (λ xs. with xs t.waiting) (ap (λ a. numbered (account c.size t) 1 t.parties ++ a ∷ []) (fresh p) ∙ sym (numbered_push (account c.size t) 1 t.parties p))

  traded : (w : Trade) (k : ℕ) (p : Registration) → traded_account w k (account c.size t k p) ≡ account c.size (entered t (trading w)) k p
  unfolding account traded_account entered
  traded w k p = grind (arith, count_buys, count_sells)

  square_trade : (w : Trade) → done c v (trading w) ≡ seen c.size (entered t (trading w))
  unfolding done entered
  square_trade w = grind (arith, numbered_twice, traded)

  square_oldest : (ns : List Notice) (ls : List Lot) → designate_oldest v ns ls ≡ seen c.size (fed_oldest t ns ls)
  square_oldest [] ls = refl
  square_oldest (x ∷ xs) [] = refl
  square_oldest (x ∷ xs) (l ∷ ls) = designate_square c t x l

  pub square_done : (e : Event) → done c v e ≡ seen c.size (entered t e)
  unfolding done entered account
  square_done (registering p) = square_register p
  square_done (trading w) = square_trade w
  square_done (quoting q r) = refl
  square_done (noticing n) = refl
  square_done designating = square_oldest t.notices t.lots
  square_done (marking m r) = mark_square c t m
  square_done (expiring None r) = refl
  square_done (expiring (Some f) r) = expire_square c t f

  pub square : (e : Event) → after c v e ≡ seen c.size (fed c t e)
  square e = grind (arith, square_done)

module _ (c : Terms) (windows : c.delivers ≡ false → c.closes ≡ 0) where
  sound_from : (t : Tally) → Sound c t → (es : List Event) → Sound c (fold (fed c) t es)
  sound_from t h [] = h
  sound_from t h (e ∷ es) = sound_from (fed c t e) (sound_fed c windows t h e) es

  pub sound : (es : List Event) → Sound c (tally c es)
  sound es = sound_from begun (sound_begun c) es

  shown_from : (t : Tally) → Sound c t → (es : List Event) → fold (after c) (seen c.size t) es ≡ seen c.size (fold (fed c) t es)
  shown_from t h [] = refl
  shown_from t h (e ∷ es) = grind (arith, square, sound_fed, shown_from (fed c t e) (sound_fed c windows t h e) es)

  pub shown_is_seen : (es : List Event) → shown c es ≡ seen c.size (tally c es)
  unfolding numbered
  shown_is_seen es = shown_from begun (sound_begun c) es
