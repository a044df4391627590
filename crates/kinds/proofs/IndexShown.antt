-- The five places show the quotations taken, so their kind obeys its rule.
use Rattle.std.proofs.Common.{◌≡◌, ℕ, ◌+◌, ◌-◌, ◌≤◌, min, Bool, true, false, cond, leb, List, [], ◌∷◌, ◌++◌, length, drop, pos, None, sum, sym, refl, ap, ◌∙◌, subst, arith}
use Rattle.std.proofs.lemmas.List.{map_push, length-map, length_push, drop-append-le, drop-drop}
use Rattle.std.proofs.lemmas.Bool.{cond-true, leb-true, leb-false}
use Rattle.money.specs.Nearest.{Nearest, nearest_size}
use Rattle.kinds.specs.declared.indexes.LastFive.{LastFive}
use Rattle.kinds.specs.declared.quotation.Quotation.{Quotation}
use Rattle.kinds.specs.Quoted.{Obeys}
use Rattle.kinds.specs.Means.{mean_price}
use Rattle.kinds.specs.MeanFacts.{mean_near}
use Rattle.kinds.specs.Indexes.{is_index, index_rule, IndexPrice, prices, last_five}
use Rattle.kinds.specs.IndexFacts.{shifted, was_taken}
use Rattle.kinds.specs.Indexing.{five, five_after}
use Rattle.kinds.proofs.Showing.{Shown, obeys}

-- the prices taken, behind the five that the places begin with
abbrev filled : List ℕ → List ℕ
filled ps = 1 ∷ 1 ∷ 1 ∷ 1 ∷ 1 ∷ ps

pub record Places (xs : List ℕ) (held : ℕ) (done : List Quotation) : Type 0 where
  pub last_is : xs ≡ drop (length done) (filled (prices done))
  pub held_is : held ≡ min 5 (length done)

abbrev Shows : LastFive → List Quotation → Type 0
Shows k done = Places k.last k.held done

shifted_is : (xs : List ℕ) (p : ℕ) → length xs ≡ 5 → shifted xs p ≡ drop 1 (xs ++ (p ∷ []))
shifted_is [] p h = absurd (omega (arith, h))
shifted_is (a ∷ []) p h = absurd (omega (arith, h))
shifted_is (a ∷ b ∷ []) p h = absurd (omega (arith, h))
shifted_is (a ∷ b ∷ c ∷ []) p h = absurd (omega (arith, h))
shifted_is (a ∷ b ∷ c ∷ d ∷ []) p h = absurd (omega (arith, h))
shifted_is (a ∷ b ∷ c ∷ d ∷ e ∷ []) p h = refl
shifted_is (a ∷ b ∷ c ∷ d ∷ e ∷ f ∷ xs) p h = absurd (omega (arith, h))

-- one more price moves the places by one
moved : (xs ps : List ℕ) (n p : ℕ) → length xs ≡ 5 → n ≡ length ps → xs ≡ drop n (filled ps) → shifted xs p ≡ drop (n + 1) (filled (ps ++ (p ∷ [])))
moved xs ps n p h l e =
    let le : n ≤ length (filled ps) = omega arith in
    let a = shifted_is xs p h in
    let b : drop 1 (xs ++ (p ∷ [])) ≡ drop 1 (drop n (filled ps) ++ (p ∷ [])) = ap (λ (ys : List ℕ). drop 1 (ys ++ (p ∷ []))) e in
    let c : drop 1 (drop n (filled ps) ++ (p ∷ [])) ≡ drop 1 (drop n (filled ps ++ (p ∷ []))) = ap (λ (ys : List ℕ). drop 1 ys) (sym (drop-append-le n (filled ps) (p ∷ []) le)) in
    a ∙ (b ∙ (c ∙ drop-drop 1 n (filled ps ++ (p ∷ []))))

push : (k : LastFive) (done : List Quotation) (q : Quotation) → Shows k done → is_index q ≡ true → Shows (five_after k q) (done ++ (q ∷ []))
push k done q s e =
    let x = cond-true (is_index q) (shifted k.last q.price) k.last e in
    let y = cond-true (is_index q) (min 5 (k.held + 1)) k.held e in
    let n = length_push done q in
    let m = moved k.last (prices done) (length done) q.price k.ok.0 (sym (length-map done (λ (z : Quotation). z.price))) s.last_is in
    let w = map_push (λ (z : Quotation). z.price) done q in
    let v : drop (length done + 1) (filled (prices done ++ (q.price ∷ []))) ≡ drop (length (done ++ (q ∷ []))) (filled (prices (done ++ (q ∷ [])))) = cc in
    record {
      last_is = x ∙ (m ∙ v);
      held_is = omega (arith, y, n, s.held_is);
    }

-- from five prices on, the places are the last five
last_of : (ps : List ℕ) (n : ℕ) → n ≡ length ps → 5 ≤ n → drop n (filled ps) ≡ last_five ps
last_of ps n l h =
    let e : n ≡ 5 + (length ps - 5) = omega arith in
    ap (λ (m : ℕ). drop m (filled ps)) e ∙ sym (drop-drop (length ps - 5) 5 (filled ps))

price_shown : (k : LastFive) (done : List Quotation) → Shows k done → (b : Bool) → leb 5 k.held ≡ b → IndexPrice done (cond b (mean_price (sum k.last) 5) None)
price_shown k done s true e =
    let full : 5 ≤ length done = omega (arith, leb-true 5 k.held e, s.held_is) in
    let l = s.last_is ∙ last_of (prices done) (length done) (sym (length-map done (λ (z : Quotation). z.price))) full in
    (full, subst (λ (xs : List ℕ). Nearest (pos (sum xs)) 5 (pos (nearest_size (sum k.last) 5))) l (mean_near (sum k.last) 5 (omega arith)))
price_shown k done s false e = omega (arith, leb-false 5 k.held e, s.held_is)

index_shown : Shown five index_rule IndexPrice Shows
index_shown = record {
  alike = λ k done q s. refl;
  takes = λ k done q s e. push k done q s (was_taken (is_index q) e);
  prices = λ k done s. price_shown k done s (leb 5 k.held) refl;
}

pub index_obeys : (k : LastFive) → k.last ≡ 1 ∷ 1 ∷ 1 ∷ 1 ∷ 1 ∷ [] → k.held ≡ 0 → Obeys five k index_rule IndexPrice
index_obeys k v w = obeys index_shown k (record { last_is = v; held_is = w })
