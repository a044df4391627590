-- Lots and notices as aged lines: how each counts, and whose it is.
use Rattle.std.specs.Prelude.{refl}
use Rattle.aged.specs.Line.{Counting}
use Rattle.tally.specs.declared.rows.Lot.{Lot}
use Rattle.tally.specs.declared.rows.Notice.{Notice}

-- a lot, with another count
abbrev pub lot_counting : Counting Lot
lot_counting = record {
  count = λ l. l.count;
  recount = λ l n. record { owner = l.owner; session = l.session; count = n };
  count_recount = λ l n. refl;
  recount_recount = λ l m n. refl;
  recount_count = λ l. refl;
}

-- a notice, with another count
abbrev pub notice_counting : Counting Notice
notice_counting = record {
  count = λ n. n.count;
  recount = λ n m. record { seller = n.seller; session = n.session; count = m };
  count_recount = λ n m. refl;
  recount_recount = λ n l m. refl;
  recount_count = λ n. refl;
}
