-- Two kinds of rows, and a worked line.
use Rattle.std.specs.Prelude.{◌≡◌, ℕ, List, [], ◌∷◌, refl}
use Rattle.aged.specs.Line.{Counting, take_of}
use Rattle.aged.specs.declared.example.Batch.{Batch}
use Rattle.aged.specs.declared.example.Request.{Request}

abbrev pub batch : ℕ → ℕ → ℕ → Batch
batch account session contracts = record { account = account; session = session; contracts = contracts }

abbrev pub request : ℕ → ℕ → Request
request session contracts = record { session = session; contracts = contracts }

abbrev pub batch_counting : Counting Batch
batch_counting = record {
  count = λ x. x.contracts;
  recount = λ x n. batch x.account x.session n;
  count_recount = λ x n. refl;
  recount_recount = λ x m n. refl;
  recount_count = λ x. refl;
}

abbrev pub request_counting : Counting Request
request_counting = record {
  count = λ x. x.contracts;
  recount = λ x n. request x.session n;
  count_recount = λ x n. refl;
  recount_recount = λ x m n. refl;
  recount_count = λ x. refl;
}

-- Account 1 holds 5 contracts of session 1 and 2 of session 2, with 4 of account 2 between them.
abbrev pub lots_before : List Batch
lots_before = batch 1 1 5 ∷ batch 2 1 4 ∷ batch 1 2 2 ∷ []

-- Less 6 of account 1: its first lot is gone, and its second has one left.
abbrev pub lots_after : List Batch
lots_after = batch 2 1 4 ∷ batch 1 2 1 ∷ []

abbrev pub Worked : Type 0
Worked = take_of batch_counting (λ x. x.account) 1 6 lots_before ≡ lots_after
