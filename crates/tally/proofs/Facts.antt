-- What the questions tell, and what an account shows.
use Rattle.std.proofs.Common.{◌≡◌, ℕ, zero, suc, ◌+◌, ◌-◌, ◌<◌, ◌≤◌, min, true, cond, eqb, List, [], ◌∷◌, ◌++◌, length, get_or, ℤ, pos, negsuc, None, refl, ap, ◌∙◌, arith}
use borrow.Author.Differences.{up, down}
use Rattle.std.specs.List.{AllByRecursion}
use Rattle.std.proofs.lemmas.List.{map_push, length-append, length-replicate}
use Rattle.tally.specs.declared.rows.Trade.{Trade}
use Rattle.tally.specs.declared.call.Registration.{Registration}
use Rattle.tally.specs.Account.{net}
use Rattle.tally.specs.Law.{Registered}
use Rattle.tally.proofs.Balance.{Balanced}
use Rattle.tally.specs.Book.{Terms, Posting, Tally, numbered, prices, buys, sells, carried, account, seen}
use Rattle.tally.specs.Events.{trading}
use Rattle.tally.specs.Questions.{Question, first_unmet, find, net_of, nobody, between}
use Rattle.tally.specs.Steps.{entered}
use Rattle.tally.proofs.Positions.{net_is}
use Rattle.tally.proofs.Numbered.{prices_append, prices_one}
use Rattle.tally.proofs.Square.{net_marked}

pub met : (q : Question) (qs : List Question) → first_unmet (q ∷ qs) ≡ None → (q.met ≡ true) × (first_unmet qs ≡ None)
unfolding first_unmet
met q qs e = grind arith

pub between_is : (a b n : ℕ) → between a b n ≡ true → (a ≤ n) × (n ≤ b)
between_is a b n e = grind arith

pub length_numbered : {X Y : Type 0} (f : ℕ → X → Y) (n : ℕ) (xs : List X) → length (numbered f n xs) ≡ length xs
unfolding numbered
length_numbered f n [] = refl
length_numbered f n (x ∷ xs) = ap suc (length_numbered f (n + 1) xs)

pub get_d_numbered : {X Y : Type 0} (f : ℕ → X → Y) (n : ℕ) (xs : List X) (i : ℕ) (d : Y) (e : X) → i < length xs → get_or (numbered f n xs) i d ≡ f (n + i) (get_or xs i e)
unfolding numbered
get_d_numbered f n [] i d e lt = absurd (omega arith)
get_d_numbered f n (x ∷ xs) zero d e lt = ap (λ k. f k x) (omega arith)
get_d_numbered f n (x ∷ xs) (suc i) d e lt = grind (arith, get_d_numbered f (n + 1) xs i d e (omega arith))

-- a registration to read past the end of a list
abbrev pub someone : Registration
someone = record { identity = nobody.identity; residency = nobody.residency }

-- the net of an account, today's trades with it
abbrev pub today : Tally → ℕ → ℤ
today t k = net (prices k (t.bought ++ buys t.waiting)) (prices k (t.sold ++ sells t.waiting))

pub found : (c : Terms) (t : Tally) (k : ℕ) → Registered (length t.parties) k → net_of (find (seen c.size t) k) ≡ today t k
found c t k r =
    ap net_of (get_d_numbered (account c.size t) 1 t.parties (k - 1) nobody (someone) (omega arith))
    ∙ ap (λ j. net_of (account c.size t j (get_or t.parties (k - 1) (someone)))) (omega arith)
    ∙ net_marked c t 0 k (get_or t.parties (k - 1) (someone))

pub today_is : (t : Tally) (k : ℕ) →
    up (today t k) + (length (prices k t.sold) + length (prices k (sells t.waiting))) ≡ down (today t k) + (length (prices k t.bought) + length (prices k (buys t.waiting)))
today_is t k = grind (arith, net_is, prices_append, length-append)

-- one posting more
pub count_push : (k : ℕ) (ps : List Posting) (p : Posting) → length (prices k (ps ++ p ∷ [])) ≡ length (prices k ps) + cond (eqb p.holder k) p.contracts 0
count_push k ps p = grind (arith, prices_append, length-append, prices_one, length-replicate)

pub count_buys : (k : ℕ) (ts : List Trade) (w : Trade) → length (prices k (buys (ts ++ w ∷ []))) ≡ length (prices k (buys ts)) + cond (eqb w.buyer k) w.contracts 0
count_buys k ts w = grind (arith, map_push, count_push)

pub count_sells : (k : ℕ) (ts : List Trade) (w : Trade) → length (prices k (sells (ts ++ w ∷ []))) ≡ length (prices k (sells ts)) + cond (eqb w.seller k) w.contracts 0
count_sells k ts w = grind (arith, map_push, count_push)

pub one_is_0 : (z : ℤ) → min (up z) (down z) ≡ 0
one_is_0 (pos n) = omega arith
one_is_0 (negsuc n) = omega arith

-- who is not registered has nothing
pub prices_stranger : (n k : ℕ) (ps : List Posting) → n < k → AllByRecursion (λ p. Registered n p.holder) ps → prices k ps ≡ []
unfolding prices
prices_stranger n k [] lt h = refl
prices_stranger n k (p ∷ ps) lt h = grind (arith, prices_stranger n k ps lt h.1)

pub carried_stranger : (t : Tally) (k : ℕ) → Balanced t → length t.parties < k → up (carried t k) ≡ 0
carried_stranger t k h lt =
    omega (
      arith,
      net_is (prices k t.bought) (prices k t.sold),
      one_is_0 (carried t k),
      ap length (prices_stranger (length t.parties) k t.bought lt h.buyers),
      ap length (prices_stranger (length t.parties) k t.sold lt h.sellers),
    )

-- the trade counted
pub today_traded : (t : Tally) (w : Trade) (k : ℕ) →
    up (today (entered t (trading w)) k) + (length (prices k t.sold) + length (prices k (sells t.waiting)) + cond (eqb w.seller k) w.contracts 0)
    ≡ down (today (entered t (trading w)) k) + (length (prices k t.bought) + length (prices k (buys t.waiting)) + cond (eqb w.buyer k) w.contracts 0)
unfolding entered
today_traded t w k = omega (arith, today_is (entered t (trading w)) k, count_buys k t.waiting w, count_sells k t.waiting w)
