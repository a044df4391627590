-- A notice that meets its questions: there is room for it, and its row makes the view that the rules give.
use Rattle.std.proofs.Common.{◌≡◌, ℕ, ◌<◌, ◌≤◌, length, None, Ok, Err, Result, arith, MatchResult}
use Rattle.std.proofs.lemmas.Bool.{ltb-true}
use Rattle.aged.specs.declared.Refusal.{Refusal}
use Rattle.aged.specs.declared.Refusal.TheVariants.{Empty, Full}
use Rattle.aged.specs.Refusals.{Refused}
use Rattle.tally.specs.declared.call.Notification.{Notification}
use Rattle.tally.specs.Events.{noticing}
use Rattle.tally.specs.Questions.{questions, verdict}
use Rattle.tally.proofs.Facts.{met, between_is}
use Rattle.ledger.specs.declared.state.Ledger.{Ledger}
use Rattle.ledger.specs.Ledgers.{view, terms_of}

pub record Room (l : Ledger) (n : Notification) : Type 0 where
  pub some : 1 ≤ n.contracts
  pub few : n.contracts ≤ 3000
  pub room : length (view l).notices < 64

pub has_room : (l : Ledger) (n : Notification) → verdict (terms_of l) (view l) (noticing n) ≡ None → Room l n
unfolding questions
has_room l n q =
    let q2 = met _ _ q in
    let q15 = met _ _ q2.1 in
    let q6 = met _ _ q15.1 in
    let q8 = met _ _ q6.1 in
    let q16 = met _ _ q8.1 in
    let q17 = met _ _ q16.1 in
    let count = between_is 1 3000 n.contracts q8.0 in
    record {
      some = count.0;
      few = count.1;
      room = ltb-true (length (view l).notices) 64 q17.0;
    }

-- a row that counts something, with a place for it, is appended
pub appended : (r : Result (Unit {0}) Refusal) (count used places : ℕ) (A B C : Type 0) → MatchResult r (λ _. C) (λ e. Refused count used places e) → 0 < count → used < places → MatchResult r (λ _. A) (λ _. B) → A
appended (Ok _) count used places A B C h some room done = done
appended (Err Empty) count used places A B C h some room done = absurd (omega arith)
appended (Err Full) count used places A B C h some room done = absurd (omega (arith, h.1))
