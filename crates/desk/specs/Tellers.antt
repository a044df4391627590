-- A teller at work: how far it has come.
use Rattle.std.specs.Prelude.{ℕ, ◌+◌, ◌-◌}
use Rattle.desk.specs.declared.place.Place.{Place}
use Rattle.desk.specs.declared.telling.Teller.{Teller}
use Rattle.desk.specs.Told.{Telling}

-- behind so many records, at a place of the input
abbrev pub stage : ℕ → ℕ → Teller → Telling
stage records place t = record { records = records; place = place; session = t.closed + 1; accounts = t.accounts; answers = t.answers.now; rows = t.rows.now }

-- at the record at a place, and behind it, so many bytes on
abbrev pub before : Place → Teller → Telling
before p t = stage (p.number - 1) p.start t

abbrev pub behind : Place → ℕ → Teller → Telling
behind p width t = stage p.number (p.start + width) t
