-- The numbers of a range as types.
use Rattle.money.specs.declared.units.Ranged.{Ranged}

-- a price, since antt has no name for an alias
abbrev pub PriceCents : Type 0
PriceCents = Ranged 1 999999
