-- A log with one entry more.
use Rattle.std.proofs.Common.{◌≡◌, ℕ, ◌+◌, true, false, cond, List, [], ◌∷◌, ◌++◌, length, Some, None, is_ok, sum, Option, refl, arith}
use Rattle.std.proofs.lemmas.List.{append_assoc, append-nil, length-append, length-replicate}
use Rattle.std.proofs.lemmas.List.Sums.{sum_by-append}
use Rattle.tally.specs.declared.rows.Trade.{Trade}
use Rattle.tally.specs.declared.rows.Notice.{Notice}
use Rattle.tally.specs.declared.rows.Designation.{Designation}
use Rattle.tally.specs.declared.call.Marking.{Marking}
use Rattle.tally.specs.Book.{Posting, prices}
use Rattle.tally.specs.Logs.{trade_in, notice_in, designation_in, marked_by, ended_by, is_marking, markings, closed, trades, designations, notices_from, last_marked, final_price, contracts_of, value_of, designated}
use Rattle.tally.specs.Runs.{Entry}
use Rattle.tally.proofs.Positions.{sum_replicate}

pub markings_push : (xs : List Entry) (x : Entry) → markings (xs ++ x ∷ []) ≡ markings xs + cond (is_marking x) 1 0
unfolding markings
markings_push [] x = omega arith
markings_push (y ∷ xs) x = omega (arith, markings_push xs x)

pub trades_append : (xs ys : List Entry) → trades (xs ++ ys) ≡ trades xs ++ trades ys
unfolding trades
trades_append [] ys = refl
trades_append (x ∷ xs) ys = grind (arith, trades_append xs ys)

abbrev pub own_trades : Entry → List Trade
own_trades x = cond (is_ok x.answer) (trade_in x.event) []

pub trades_push : (xs : List Entry) (x : Entry) → trades (xs ++ x ∷ []) ≡ trades xs ++ own_trades x
unfolding trades
trades_push xs x = grind (arith, trades_append)

pub designations_push : (xs : List Entry) (x : Entry) → designations (xs ++ x ∷ []) ≡ designations xs ++ designation_in x.answer
unfolding designations
designations_push [] x = append-nil (designation_in x.answer)
designations_push (y ∷ xs) x = grind (arith, designations_push xs x)

abbrev pub own_notices : ℕ → Entry → List Notice
own_notices s x = cond (is_ok x.answer) (notice_in s x.event) []

pub notices_push : (s : ℕ) (xs : List Entry) (x : Entry) → notices_from s (xs ++ x ∷ []) ≡ notices_from s xs ++ own_notices (s + markings xs) x
unfolding notices_from markings
notices_push s [] x = grind arith
notices_push s (y ∷ xs) x = grind (arith, append_assoc, notices_push (s + cond (is_marking y) 1 0) xs x)

pub last_push : (f : Marking → ℕ) (p : ℕ) (xs : List Entry) (x : Entry) → last_marked f p (xs ++ x ∷ []) ≡ elim (marked_by x) [ None ↦ last_marked f p xs | Some m ↦ f m ]
unfolding last_marked
last_push f p [] x = refl
last_push f p (y ∷ xs) x = last_push f (elim (marked_by y) [ None ↦ p | Some m ↦ f m ]) xs x

-- the first of two final prices
abbrev pub or_else : Option ℕ → Option ℕ → Option ℕ
or_else None o = o
or_else (Some f) o = Some f

pub final_push : (xs : List Entry) (x : Entry) → final_price (xs ++ x ∷ []) ≡ or_else (final_price xs) (ended_by x)
unfolding final_price
final_push [] x = one (ended_by x)
  where
    one : (o : Option ℕ) → elim o as (λ _. Option ℕ) [ None ↦ None | Some f ↦ Some f ] ≡ o
    one None = refl
    one (Some f) = refl
final_push (y ∷ xs) x = two (final_push xs x) (ended_by y)
  where
    two : final_price (xs ++ x ∷ []) ≡ or_else (final_price xs) (ended_by x) → (o : Option ℕ) → elim o as (λ _. Option ℕ) [ None ↦ final_price (xs ++ x ∷ []) | Some f ↦ Some f ] ≡ or_else (elim o as (λ _. Option ℕ) [ None ↦ final_price xs | Some f ↦ Some f ]) (ended_by x)
    two h None = h
    two h (Some f) = refl

-- an entry that is no marking closes nothing
pub closed_push : (xs : List Entry) (x : Entry) → is_marking x ≡ false → closed (xs ++ x ∷ []) ≡ closed xs
unfolding closed markings
closed_push [] x e = rw e refl
closed_push (y ∷ xs) x e = grind (arith, markings_push, closed_push xs x e)

-- a marking closes all
pub closed_all : (xs : List Entry) (x : Entry) → is_marking x ≡ true → closed (xs ++ x ∷ []) ≡ xs ++ x ∷ []
unfolding closed markings
closed_all [] x e = rw e refl
closed_all (y ∷ xs) x e = grind (arith, markings_push, closed_all xs x e)

-- ---- counts
pub contracts_append : (k : ℕ) (ps qs : List Posting) → contracts_of k (ps ++ qs) ≡ contracts_of k ps + contracts_of k qs
unfolding contracts_of
contracts_append k [] qs = omega arith
contracts_append k (p ∷ ps) qs = omega (arith, contracts_append k ps qs)

pub value_append : (k : ℕ) (ps qs : List Posting) → value_of k (ps ++ qs) ≡ value_of k ps + value_of k qs
unfolding value_of
value_append k [] qs = omega arith
value_append k (p ∷ ps) qs = omega (arith, value_append k ps qs)

pub prices_count : (k : ℕ) (ps : List Posting) → length (prices k ps) ≡ contracts_of k ps
unfolding prices contracts_of
prices_count k [] = refl
prices_count k (p ∷ ps) = grind (arith, length-append, length-replicate, prices_count k ps)

pub prices_value : (k : ℕ) (ps : List Posting) → sum (prices k ps) ≡ value_of k ps
unfolding prices value_of
prices_value k [] = refl
prices_value k (p ∷ ps) = grind (arith, sum_by-append, sum_replicate, prices_value k ps)

pub designated_append : (ds es : List Designation) → designated (ds ++ es) ≡ designated ds ++ designated es
unfolding designated
designated_append [] es = refl
designated_append (d ∷ ds) es = grind (arith, append_assoc, designated_append ds es)
