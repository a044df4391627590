-- The calls of a file, one record at a time.
use Rattle.std.proofs.Common.{◌≡◌, ℕ, ◌+◌, ◌<◌, ◌≤◌, true, List, [], ◌∷◌, ◌++◌, length, take, set, Some, None, Option, Result, sym, ap, ◌∙◌, append_assoc, append-nil, arith}
use Rattle.std.proofs.lemmas.List.{length-set, take_more_set}
use Rattle.reader.specs.Saying.{said}
use Rattle.reader.specs.declared.fault.ReadFault.{ReadFault}
use Rattle.reader.specs.declared.reading.Reader.{Reader}
use Rattle.reader.specs.declared.record.Record.{Record}
use Rattle.tally.specs.declared.call.Call.{Call}
use Rattle.desk.specs.declared.place.Place.{Place}
use Rattle.desk.specs.Calls.{call_of}
use Rattle.desk.specs.Places.{AtEnd, ReadOn, lines_left}
use Rattle.desk.specs.Report.{calls_in, with_call}
use Rattle.desk.proofs.Steps.{fewer, one_fewer}

-- the calls that a reader is still to come to
abbrev pub calls_left : Reader → List Call
calls_left r = calls_in r.at (lines_left r)

-- so many calls are in place, and those that the reader has left are still to be gathered
pub record Gathered (calls : List Call) (count : ℕ) (whole : List Call) (r : Reader) : Type 0 where
  pub joins : take count calls ++ calls_left r ≡ whole
  pub places : count + length (lines_left r) ≤ length calls

module _ {old new : Reader} {p : Place} {came : Result Record ReadFault} (step : ReadOn true old p came new) where
  next_call : (o : Option Call) → o ≡ call_of (said came) → calls_left old ≡ with_call o (calls_left new)
  unfolding calls_in
  next_call o e =
      let onward = sym step.stepped.onward in
      let call_is = ap call_of (sym step.stepped.says) ∙ sym e in
      ap (calls_in old.at) (one_fewer step) ∙ (λ i. with_call (call_is i) (calls_in (onward i) (lines_left new)))

  module _ {calls whole : List Call} {count : ℕ} (g : Gathered calls count whole old) where
    -- a place for the next call
    pub place_left : count < length calls
    place_left = omega (arith, g.places, fewer step)

    pub gathered_none : None ≡ call_of (said came) → Gathered calls count whole new
    gathered_none e = record { joins = ap (λ t. take count calls ++ t) (sym (next_call None e)) ∙ g.joins; places = omega (arith, g.places, fewer step) }

    pub gathered_more : (x : Call) → Some x ≡ call_of (said came) → Gathered (set calls count x) (count + 1) whole new
    gathered_more x e = record {
      joins = ap (λ t. t ++ calls_left new) (take_more_set calls count x place_left)
          ∙ append_assoc (take count calls) (x ∷ []) (calls_left new)
          ∙ ap (λ t. take count calls ++ t) (sym (next_call (Some x) e)) ∙ g.joins;
      places = omega (arith, g.places, fewer step, length-set calls count x);
    }

pub gathered_all : {old new : Reader} {calls whole : List Call} {count : ℕ} → AtEnd true old new → Gathered calls count whole old → take count calls ≡ whole
unfolding calls_in
gathered_all {old} {new} {calls} {whole} {count} h g =
    sym (append-nil (take count calls)) ∙ ap (λ t. take count calls ++ calls_in old.at t) (sym h.over.0) ∙ g.joins
