-- What a kind says to calls.
use Rattle.std.proofs.Common.{◌≡◌, ℕ, true, List, [], ◌∷◌, IfSome, Some, None, Option}
use Rattle.std.specs.List.{AllByRecursion}
use Rattle.money.specs.Ranges.{is_price}
use Rattle.kinds.specs.Meaning.{Meaning}
use Rattle.tally.specs.declared.call.Call.{Call}
use Rattle.tally.specs.declared.call.Call.TheVariants as call
use Rattle.tally.specs.Bounds.{FinalPriced}
use Rattle.tally.specs.Events.{Request, event, events, kind_after, expiring}

final_priced : (o : Option ℕ) (room : ℕ) → IfSome o (λ p. is_price p ≡ true) → FinalPriced (expiring o room)
final_priced None room h = tt
final_priced (Some p) room h = h

module _ {K : Type 0} (m : Meaning K) where
  one_priced : (k : K) (x : Call) (room : ℕ) → FinalPriced (event m k x room)
  one_priced k (call.Register r) room = tt
  one_priced k (call.Trade t) room = tt
  one_priced k (call.Quote q) room = tt
  one_priced k (call.Notify n) room = tt
  one_priced k call.Designate room = tt
  one_priced k (call.Mark x) room = tt
  one_priced k call.Expire room = final_priced (m.final k) room (m.priced k)

  pub all_priced : (k : K) (rs : List Request) → AllByRecursion FinalPriced (events m k rs)
  all_priced k [] = tt
  all_priced k (r ∷ rs) = (one_priced k r.call r.room, all_priced (kind_after m k r.call) rs)
