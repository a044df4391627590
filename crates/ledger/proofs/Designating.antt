-- A designation that is due: there is a lot for it, and what its rows make of the view.
use Rattle.std.proofs.Common.{◌≡◌, ℕ, ◌-◌, ◌≤◌, true, List, [], ◌∷◌, ◌++◌, length, get_or, set, ℤ, pos, ◌-ℤ◌, neg_ℤ, is_some, Some, None, Option, sym, refl, ap, ◌∙◌, subst, arith}
use mathlib.Core.Logic.{∥∥₁_elim}
use native.Mathlib.Bridge.{le_prop}
use borrow.Author.Differences.{ints}
use Rattle.std.specs.List.{AllByRecursion}
use Rattle.std.proofs.lemmas.Bool.{false≢true, ltb-true}
use Rattle.arrayvec.specs.ArrayVec.{with_items}
use Rattle.aged.specs.Line.{first, take_oldest}
use Rattle.tally.specs.declared.rows.Account.{Account}
use Rattle.tally.specs.declared.rows.Lot.{Lot}
use Rattle.tally.specs.declared.rows.Notice.{Notice}
use Rattle.tally.specs.Book.{Terms, View, numbered, seen}
use Rattle.tally.specs.Bounds.{LotBounded, NoticeBounded}
use Rattle.tally.specs.Events.{designating}
use Rattle.tally.specs.Law.{Registered}
use Rattle.tally.specs.Questions.{is_due, nobody, questions, registered, verdict}
use Rattle.tally.specs.Rows.{lot_counting, notice_counting}
use Rattle.tally.specs.Runs.{tally}
use Rattle.tally.specs.Steps.{designate, designate_oldest, designated_account, less_oldest_lots, less_oldest_notices, paired}
use Rattle.tally.proofs.Facts.{met}
use Rattle.tally.proofs.Law.{settled}
use Rattle.ledger.specs.declared.state.Ledger.{Ledger}
use Rattle.ledger.specs.Designations.{carrying}
use Rattle.ledger.specs.Ledgers.{view, terms_of}
use Rattle.ledger.specs.Reached.{Reached, viewed}
use Rattle.ledger.proofs.Changes.{handed_back, numbered_both}
use Rattle.ledger.proofs.Tables.{bounded, is_registered}

-- ---- the first of a line
no_first : {X : Type 0} {x : X} → ◌≡◌ {A = Option X} None (Some x) → ⊥
no_first e = let z : ◌≡◌ {A = ℕ} 0 1 = cc in omega arith

the_first : {X : Type 0} {x y : X} → ◌≡◌ {A = Option X} (Some x) (Some y) → x ≡ y
the_first e = cc

first_in : {X : Type 0} (P : X → Type 0) (xs : List X) (x : X) → AllByRecursion P xs → first xs ≡ Some x → P x
first_in P [] x h e = absurd (no_first e)
first_in P (y ∷ ys) x h e = subst P (the_first e) h.0

some_first : {X : Type 0} (xs : List X) → 1 ≤ length xs → is_some (first xs) ≡ true
some_first [] h = absurd (omega arith)
some_first (x ∷ xs) h = refl

-- ---- a due notice finds a lot
due_first : (session : ℕ) (ns : List Notice) → is_due session ns ≡ true → is_some (first ns) ≡ true
due_first session [] e = e
due_first session (n ∷ ns) e = refl

lots_found : (c : Terms) (v : View) → Reached c v → (ns : List Notice) → v.notices ≡ ns → is_due v.session ns ≡ true → 1 ≤ length v.lots
lots_found c v r [] e due = absurd (false≢true due)
lots_found c v r (n ∷ ns) e due =
    let run = settled c r.buildable (r.calls ++ designating ∷ []) in
    let is : v ≡ seen c.size (tally c r.calls) = r.shows ∙ (settled c r.buildable r.calls).shows_the_tally in
    let found = (run.calls_met r.calls designating [] refl).0.oldest_lot_found n ns (ap (λ w. w.notices) (sym is) ∙ e) (omega (arith, ltb-true n.session v.session due, ap (λ (w : View). w.session) is)) in
    omega (arith, ap (λ (w : View). length w.lots) is, ap length found.2)

pub record Due (l : Ledger) : Type 0 where
  pub notice : is_some (first (view l).notices) ≡ true
  pub lot : is_some (first (view l).lots) ≡ true

pub is_designated : (l : Ledger) → verdict (terms_of l) (view l) designating ≡ None → Due l
unfolding questions
is_designated l q =
    let due = (met _ _ q).0 in
    record {
      notice = due_first (view l).session (view l).notices due;
      lot = some_first (view l).lots (∥∥₁_elim l.reached le_prop (λ x. lots_found (terms_of l) (view l) x (view l).notices refl due));
    }

-- ---- the two rows
-- the oldest notice and the oldest lot are of registered accounts, and small
pub record Pair (l : Ledger) (n : Notice) (lot : Lot) : Type 0 where
  pub seller : registered (view l) n.seller ≡ true
  pub owner : registered (view l) lot.owner ≡ true
  pub few : n.count ≤ 3000

pub pair : (l : Ledger) (n : Notice) (lot : Lot) → first (view l).notices ≡ Some n → first (view l).lots ≡ Some lot → Pair l n lot
pair l n lot en el =
    let noticed : Reached (terms_of l) (view l) → NoticeBounded (length (view l).accounts) (view l).session n = λ x. first_in (NoticeBounded (length (view l).accounts) (view l).session) (view l).notices n (bounded (terms_of l) (view l) x).notices_in en in
    let held : Reached (terms_of l) (view l) → LotBounded (length (view l).accounts) lot = λ x. first_in (LotBounded (length (view l).accounts)) (view l).lots lot (bounded (terms_of l) (view l) x).lots_in el in
    record {
      seller = is_registered l n.seller (∥∥₁_elim l.reached le_prop (λ x. (noticed x).0.0), ∥∥₁_elim l.reached le_prop (λ x. (noticed x).0.1));
      owner = is_registered l lot.owner (∥∥₁_elim l.reached le_prop (λ x. (held x).0.0), ∥∥₁_elim l.reached le_prop (λ x. (held x).0.1));
      few = ∥∥₁_elim l.reached le_prop (λ x. (noticed x).2);
    }

abbrev holding : Account → ℤ → Account
holding a z = record { identity = a.identity; residency = a.residency; carried = z; bought = a.bought; sold = a.sold; total = a.total }

abbrev less_short : Account → ℕ → Account
less_short a n = carrying a (pos n)

abbrev less_long : Account → ℕ → Account
less_long a n = holding a (a.carried -ℤ pos n)

-- the seller's row and the owner's, written one after the other, are the accounts after the designation
pub delivered : (n : Notice) (lot : Lot) (xs : List Account) {m d : ℤ} {a b : Account} → Registered (length xs) n.seller → Registered (length xs) lot.owner →
    a ≡ carrying (get_or xs (n.seller - 1) nobody) m → b ≡ carrying (get_or (set xs (n.seller - 1) a) (lot.owner - 1) nobody) d → m ≡ pos (paired n lot) → d ≡ neg_ℤ (pos (paired n lot)) →
    set (set xs (n.seller - 1) a) (lot.owner - 1) b ≡ numbered (designated_account n lot) 1 xs
unfolding designated_account
delivered n lot xs {a = a} {b = b} rs ro ea eb em ed =
    let i = n.seller - 1 in
    let j = lot.owner - 1 in
    let k = paired n lot in
    let seller = less_short (get_or xs i nobody) k in
    let first : a ≡ seller = ea ∙ ap (carrying (get_or xs i nobody)) em in
    let second : b ≡ less_long (get_or (set xs i seller) j nobody) k =
    eb ∙ (λ t. carrying (get_or (set xs i (first t)) j nobody) (ed t)) ∙ ap (holding (get_or (set xs i seller) j nobody)) (omega (arith, ints)) in
    (λ t. set (set xs i (first t)) j (second t))
    ∙ sym (numbered_both less_short less_long (λ x. ap (holding x) (omega (arith, ints))) (λ x. ap (holding x) (omega (arith, ints))) n.seller lot.owner k xs nobody rs ro)

-- ---- the view and the answer
oldest_view : (v : View) (n : Notice) (lot : Lot) (ns : List Notice) (ls : List Lot) → first ns ≡ Some n → first ls ≡ Some lot → designate_oldest v ns ls ≡ designate v n lot
oldest_view v n lot [] ls en el = absurd (no_first en)
oldest_view v n lot (x ∷ ns) [] en el = absurd (no_first el)
oldest_view v n lot (x ∷ ns) (y ∷ ls) en el = ap (λ z. designate v z y) (the_first en) ∙ ap (designate v n) (the_first el)

-- the accounts after the designation and both lines with the contracts taken off are the view that the rules give
pub paired_off : (l : Ledger) (n : Notice) (lot : Lot) (m : ℕ) {slice accounts : List Account} {lots : List Lot} {notices : List Notice} → first (view l).notices ≡ Some n → first (view l).lots ≡ Some lot → m ≡ paired n lot →
    slice ≡ (view l).accounts → accounts ≡ numbered (designated_account n lot) 1 slice → lots ≡ take_oldest lot_counting m (view l).lots → notices ≡ take_oldest notice_counting m (view l).notices →
    viewed (with_items l.accounts accounts).items (view l).sheet lots notices l.session l.price l.rate l.expired ≡ designate_oldest (view l) (view l).notices (view l).lots
unfolding designate less_oldest_lots less_oldest_notices
paired_off l n lot m en el em es ea eo ei =
    (λ i. viewed (handed_back l.accounts (designated_account n lot) es ea i) (view l).sheet ((eo ∙ ap (λ k. take_oldest lot_counting k (view l).lots) em) i) ((ei ∙ ap (λ k. take_oldest notice_counting k (view l).notices) em) i) l.session l.price l.rate l.expired)
    ∙ sym (oldest_view (view l) n lot (view l).notices (view l).lots en el)
