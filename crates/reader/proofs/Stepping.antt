-- One step of a reader. Assumes nothing.
use Rattle.std.proofs.Common.{◌≡◌, ℕ, ◌+◌, ◌-◌, ◌<◌, ◌≤◌, Bool, List, ◌∷◌, length, drop, Ok, Err, Result, sym, ap, ◌∙◌, arith, length-drop, length-take}
use Rattle.reader.specs.declared.fault.ReadFault.{ReadFault}
use Rattle.reader.specs.declared.record.Content.TheVariants.{Registration}
use Rattle.reader.specs.declared.record.Record.{Record}
use Rattle.reader.specs.Cuts.{lines}
use Rattle.reader.specs.Fields.{number_of}
use Rattle.reader.specs.Readings.{in_numbers, part, spelling}
use Rattle.reader.specs.Saying.{spelt, Identified, Starts, Whole}
use Rattle.reader.specs.Steps.{Stepped}
use Rattle.reader.proofs.Agreeing.{numbers_agree}

-- an identity has its bytes by its type
whole : (came : Result Record ReadFault) → Whole came
whole (Ok x) = elim x.content as Identified [
  | Registration identity who ↦ identity.whole
  | _ ↦ tt
]
whole (Err fault) = tt

pub stepped : (opened : Bool) (s : List ℕ) (at n end : ℕ) (came : Result Record ReadFault) (at' n' : ℕ) → lines (drop at s) ≡ part at (end - at) s ∷ lines (drop end s) → at < end → end ≤ length s → spelt came ≡ spelling opened at (part at (end - at) s) → Starts at came → at' ≡ end → n' ≡ n + 1 → Stepped opened s at n came at' n'
stepped opened s at n end came at' n' first some within parts starts on counted =
    let long : length (part at (end - at) s) ≡ end - at = omega (arith, length-take (end - at) (drop at s), length-drop at s) in
    record {
      line = part at (end - at) s;
      first = first ∙ ap (λ k. part at (end - at) s ∷ lines (drop k s)) (sym on);
      lies = ap (λ k. part at k s) (sym long);
      filled = omega arith;
      says = ap (in_numbers number_of) parts ∙ numbers_agree opened at (part at (end - at) s);
      parts = parts;
      starts = starts;
      whole = whole came;
      onward = omega arith;
      counted = counted;
    }
