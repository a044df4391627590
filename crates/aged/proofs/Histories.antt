-- What holds after any run of operations.
use Rattle.std.proofs.Common.{◌≡◌, ℕ, ◌+◌, ◌<◌, Bool, true, eqb, List, [], ◌∷◌, ◌++◌, length, filter, sym, refl, ap, ◌∙◌, ⊎_elim, append_assoc, arith}
use Rattle.std.specs.List.{AllByRecursion}
use Rattle.std.proofs.ByRecursion.{All-push}
use Rattle.std.proofs.lemmas.List.{append-nil, length-append}
use Rattle.std.proofs.lemmas.Bool.{cases_eq, both_ways, eqb-true, ne_eqb}
use Rattle.aged.specs.Line.{Counting, held, every, owned_by, rows_of, take_oldest, taken_oldest, take_of, taken_of}
use Rattle.aged.specs.Runs.{Operation, Standing, start, after, run, appended, OldestOnly}
use Rattle.aged.specs.Runs.Operation.{appends, takes_oldest, takes_of, empties}
use Rattle.aged.specs.Laws.{units, NothingLost, NothingLostByOwner, InOrder, InOrderByOwner, ClosedUp}
use Rattle.aged.proofs.Rows.{kept_every}
use Rattle.aged.proofs.Parts.{held_append, takes, held_parts, left_counts}
use Rattle.aged.proofs.Units.{length_units, picked_append, units_within, units_apart}

regroup : {R : Type 0} (a b x y : List R) → (a ++ b) ++ (x ++ y) ≡ (a ++ (b ++ x)) ++ y
regroup a b x y = simp append_assoc

module _ {R : Type 0} (c : Counting R) (owner : R → ℕ) where
  run_held : (s : Standing R) (ops : List (Operation R)) → held c (run c owner s ops).gone + held c (run c owner s ops).rows ≡ held c s.gone + held c s.rows + held c (appended ops)
  run_held s [] = omega arith
  run_held s (appends x ∷ ops) = omega (arith, run_held (after c owner s (appends x)) ops, held_append c s.rows (x ∷ []))
  run_held s (takes_oldest n ∷ ops) =
      omega (arith, run_held (after c owner s (takes_oldest n)) ops, held_append c s.gone (taken_oldest c n s.rows), held_parts c every (takes c every n s.rows))
  run_held s (takes_of o n ∷ ops) =
      omega (arith, run_held (after c owner s (takes_of o n)) ops, held_append c s.gone (taken_of c owner o n s.rows), held_parts c (owned_by owner o) (takes c (owned_by owner o) n s.rows))
  run_held s (empties ∷ ops) = omega (arith, run_held (after c owner s empties) ops, held_append c s.gone s.rows)

  run_counts : (s : Standing R) (ops : List (Operation R)) → AllByRecursion (λ x. 0 < c.count x) s.rows → AllByRecursion (λ x. 0 < c.count x) (appended ops) → AllByRecursion (λ x. 0 < c.count x) (run c owner s ops).rows
  run_counts s [] all new = all
  run_counts s (appends x ∷ ops) all new = run_counts (after c owner s (appends x)) ops (All-push (λ y. 0 < c.count y) s.rows x all new.0) new.1
  run_counts s (takes_oldest n ∷ ops) all new = run_counts (after c owner s (takes_oldest n)) ops (left_counts c every (takes c every n s.rows) all) new
  run_counts s (takes_of o n ∷ ops) all new = run_counts (after c owner s (takes_of o n)) ops (left_counts c (owned_by owner o) (takes c (owned_by owner o) n s.rows) all) new
  run_counts s (empties ∷ ops) all new = run_counts (after c owner s empties) ops tt new

  module _ (q : R → Bool) (same : (x : R) (n : ℕ) → q (c.recount x n) ≡ q x) where
    -- The units of q's rows that go, and then those that are left, are those that stood, also where one owner's are taken.
    abbrev Keeps : Operation R → Type 0
    Keeps (appends x) = Unit {0}
    Keeps (takes_oldest n) = Unit {0}
    Keeps (takes_of o n) = (rows : List R) → units c (filter q (taken_of c owner o n rows)) ++ units c (filter q (take_of c owner o n rows)) ≡ units c (filter q rows)
    Keeps empties = Unit {0}

    moved : (gone t left rows : List R) → units c (filter q t) ++ units c (filter q left) ≡ units c (filter q rows) →
        units c (filter q (gone ++ t)) ++ units c (filter q left) ≡ units c (filter q gone) ++ units c (filter q rows)
    moved gone t left rows e =
        ap (λ l. l ++ units c (filter q left)) (picked_append c q gone t)
        ∙ append_assoc (units c (filter q gone)) (units c (filter q t)) (units c (filter q left))
        ∙ ap (λ l. units c (filter q gone) ++ l) e

    run_units : (s : Standing R) (ops : List (Operation R)) → AllByRecursion Keeps ops →
        (units c (filter q s.gone) ++ units c (filter q s.rows)) ++ units c (filter q (appended ops))
        ≡ units c (filter q (run c owner s ops).gone) ++ units c (filter q (run c owner s ops).rows)
    run_units s [] all = append-nil (units c (filter q s.gone) ++ units c (filter q s.rows))
    run_units s (appends x ∷ ops) all =
        let g = units c (filter q s.gone) in
        let w = units c (filter q s.rows) in
        let a = units c (filter q (appended ops)) in
        ap (λ l. (g ++ w) ++ l) (picked_append c q (x ∷ []) (appended ops))
        ∙ regroup g w (units c (filter q (x ∷ []))) a
        ∙ ap (λ l. (g ++ l) ++ a) (sym (picked_append c q s.rows (x ∷ [])))
        ∙ run_units (after c owner s (appends x)) ops all.1
    run_units s (takes_oldest n ∷ ops) all =
        ap (λ l. l ++ units c (filter q (appended ops)))
        (sym (moved s.gone (taken_oldest c n s.rows) (take_oldest c n s.rows) s.rows (units_within c q every same (λ x e. absurd (both_ways true e refl)) (takes c every n s.rows))))
        ∙ run_units (after c owner s (takes_oldest n)) ops all.1
    run_units s (takes_of o n ∷ ops) all =
        ap (λ l. l ++ units c (filter q (appended ops))) (sym (moved s.gone (taken_of c owner o n s.rows) (take_of c owner o n s.rows) s.rows (all.0 s.rows)))
        ∙ run_units (after c owner s (takes_of o n)) ops all.1
    run_units s (empties ∷ ops) all =
        ap (λ l. l ++ units c (filter q (appended ops))) (sym (moved s.gone s.rows [] s.rows (append-nil (units c (filter q s.rows)))))
        ∙ run_units (after c owner s empties) ops all.1

  -- Where all is taken from the oldest, every row's units keep their order.
  oldest_keeps : (ops : List (Operation R)) → OldestOnly ops → AllByRecursion (Keeps every (λ x n. refl)) ops
  oldest_keeps [] only = tt
  oldest_keeps (appends x ∷ ops) only = (tt, oldest_keeps ops only)
  oldest_keeps (takes_oldest n ∷ ops) only = (tt, oldest_keeps ops only)
  oldest_keeps (takes_of o n ∷ ops) only = absurd only
  oldest_keeps (empties ∷ ops) only = (tt, oldest_keeps ops only)

  module _ (whose : (x : R) (n : ℕ) → owner (c.recount x n) ≡ owner x) where
    owned_same : (o : ℕ) (x : R) (n : ℕ) → owned_by owner o (c.recount x n) ≡ owned_by owner o x
    owned_same o x n = ap (λ k. eqb k o) (whose x n)

    -- Another owner's rows are no owner's own, and an owner's own are all of them.
    owner_keeps : (o : ℕ) (ops : List (Operation R)) → AllByRecursion (Keeps (owned_by owner o) (owned_same o)) ops
    owner_keeps o [] = tt
    owner_keeps o (appends x ∷ ops) = (tt, owner_keeps o ops)
    owner_keeps o (takes_oldest n ∷ ops) = (tt, owner_keeps o ops)
    owner_keeps o (takes_of k n ∷ ops) = (
      λ rows. ⊎_elim
          (λ e. units_within c (owned_by owner o) (owned_by owner k) (owned_same o) (λ x other. ap (eqb (owner x)) (sym e) ∙ other) (takes c (owned_by owner k) n rows))
          (λ ne. units_apart c (owned_by owner o) (owned_by owner k) (owned_same o) (λ x mine. ne_eqb (owner x) o (λ e. ne (sym (eqb-true (owner x) k mine) ∙ e))) (takes c (owned_by owner k) n rows))
          (cases_eq k o),
      owner_keeps o ops,
    )
    owner_keeps o (empties ∷ ops) = (tt, owner_keeps o ops)

    pub in_order_by_owner : InOrderByOwner c owner
    in_order_by_owner o ops = run_units (owned_by owner o) (owned_same o) start ops (owner_keeps o ops)

    pub nothing_lost_by_owner : NothingLostByOwner c owner
    nothing_lost_by_owner o ops =
        let gone = rows_of owner o (run c owner start ops).gone in
        let rows = rows_of owner o (run c owner start ops).rows in
        let all = rows_of owner o (appended ops) in
        let e = ap length (in_order_by_owner o ops) ∙ length-append (units c gone) (units c rows) in
        omega (arith, e, length_units c gone, length_units c rows, length_units c all)

module _ {R : Type 0} (c : Counting R) where
  pub nothing_lost : NothingLost c
  nothing_lost owner ops = omega (arith, run_held c owner start ops)

  pub closed_up : ClosedUp c
  closed_up owner ops new = run_counts c owner start ops tt new

  pub in_order : InOrder c
  in_order owner ops only =
      let s = run c owner start ops in
      ap (units c) (sym (kept_every (appended ops)))
      ∙ run_units c owner every (λ x n. refl) start ops (oldest_keeps c owner ops only)
      ∙ ap (λ l. units c l ++ units c (filter every s.rows)) (kept_every s.gone)
      ∙ ap (λ l. units c s.gone ++ units c l) (kept_every s.rows)
