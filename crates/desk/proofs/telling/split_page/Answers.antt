use Rattle.std.proofs.Common.{rules}
use Rattle.std.proofs.lemmas.List.{drop_min, take_min}
use Rattle.desk.proofs.telling.split_page.Goals as goal

pub returns : goal.returns
returns c = record { page = search (rules, take_min); below = search (rules, drop_min) }
