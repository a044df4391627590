-- When a row is refused.
use Rattle.std.specs.Prelude.{◌≡◌, ℕ, ◌<◌, ◌≤◌}
use Rattle.aged.specs.declared.Refusal.{Refusal}
use Rattle.aged.specs.declared.Refusal.TheVariants.{Empty, Full}

-- A row that counts nothing is refused as empty, and any other as one too many where `used` leaves no place.
abbrev pub Refused : ℕ → ℕ → ℕ → Refusal → Type 0
Refused count used places Empty = count ≡ 0
Refused count used places Full = (0 < count) × (places ≤ used)
