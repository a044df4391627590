-- One account at a marking: what was accumulated is the formula.
use Rattle.std.proofs.lemmas.Grind.{common_steps}
use Rattle.std.proofs.Common.{◌≡◌, ℕ, zero, suc, ◌+◌, ◌*◌, List, [], ◌∷◌, ◌++◌, length, take, drop, replicate, ℤ, pos, ◌+ℤ◌, ◌-ℤ◌, ◌*ℤ◌, neg_ℤ, sum, sym, refl, ap, ◌∙◌, arith}
use borrow.Author.Differences.{up, down, sum_is_lem, neg_is, product_is, same_in, ints}
use Rattle.std.proofs.lemmas.List.{length-append, length-drop, length-replicate}
use Rattle.std.proofs.lemmas.List.Sums.{sum_by-cons, sum_by-append, sum_by-take-drop}
use Rattle.tally.specs.Account.{net, position, above, offset, day_trade, margin}
use Rattle.tally.proofs.Ring.{times, mul_add, mul_neg}

pub net_is : (B S : List ℕ) → up (net B S) + length S ≡ down (net B S) + length B
unfolding net
net_is B S = omega (arith, ints)

pub above_is : (p : ℕ) (xs : List ℕ) → up (above p xs) + sum xs ≡ down (above p xs) + p * length xs
unfolding above
above_is p [] = omega arith
above_is p (x ∷ xs) = omega (arith, ints, above_is p xs, sum_by-cons (λ y. y) x xs)

pub sum_replicate : (n p : ℕ) → sum (replicate n p) ≡ p * n
sum_replicate zero p = omega arith
sum_replicate (suc n) p = grind (arith, common_steps)

-- the same without the size
unfoldable pub worth : ℕ → List ℕ → List ℕ → ℤ
worth price B S = ((net B S *ℤ pos price) +ℤ pos (sum S)) -ℤ pos (sum B)

pub worth_is : (p : ℕ) (B S : List ℕ) → up (worth p B S) + sum B + p * length S ≡ down (worth p B S) + sum S + p * length B
unfolding worth
worth_is p B S = omega (arith, ints, times p (net_is B S))

gain : ℤ → ℕ → ℕ → ℕ → List ℕ → List ℕ → ℤ
gain c before price o b s = ((c *ℤ (pos price -ℤ pos before)) +ℤ above price (drop o b)) -ℤ above price (drop o s)

offsets : ℕ → List ℕ → List ℕ → ℤ
offsets o b s = pos (sum (take o s)) -ℤ pos (sum (take o b))

pub span_is : (c : ℤ) (p q : ℕ) → up (c *ℤ (pos p -ℤ pos q)) + p * down c + q * up c ≡ down (c *ℤ (pos p -ℤ pos q)) + p * up c + q * down c
span_is c p q = omega (arith, ap up e, ap down e, sum_is_lem (c *ℤ pos p) (neg_ℤ (c *ℤ pos q)), neg_is (c *ℤ pos q), product_is c (pos p), product_is c (pos q))
  where
    e : c *ℤ (pos p -ℤ pos q) ≡ (c *ℤ pos p) -ℤ (c *ℤ pos q)
    e = mul_add c (pos p) (neg_ℤ (pos q)) ∙ ap (λ z. (c *ℤ pos p) +ℤ z) (mul_neg c (pos q))

gain_is : (B S : List ℕ) (before price o : ℕ) (b s : List ℕ) →
    up (gain (net B S) before price o b s) + (price * length S + before * length B + sum (drop o b) + price * length (drop o s))
    ≡ down (gain (net B S) before price o b s) + (price * length B + before * length S + sum (drop o s) + price * length (drop o b))
unfolding gain
gain_is B S before price o b s =
    let c = net B S *ℤ (pos price -ℤ pos before) in
    omega (
      arith,
      span_is (net B S) price before,
      above_is price (drop o b),
      above_is price (drop o s),
      sum_is_lem c (above price (drop o b)),
      sum_is_lem (c +ℤ above price (drop o b)) (neg_ℤ (above price (drop o s))),
      neg_is (above price (drop o s)),
      times price (net_is B S),
      times before (net_is B S),
    )

offset_is : (b s : List ℕ) → (length (drop (offset b s) b) + offset b s ≡ length b) × (length (drop (offset b s) s) + offset b s ≡ length s)
unfolding offset
offset_is b s = simp length-drop (omega arith)

-- without the size, what a marking adds
inner : (before price : ℕ) (B S b s : List ℕ) → worth before B S +ℤ (offsets (offset b s) b s +ℤ gain (net B S) before price (offset b s) b s) ≡ worth price (B ++ b) (S ++ s)
unfolding offsets
inner before price B S b s =
    let o = offset b s in
    let h : (length (drop o b) + o ≡ length b) × (length (drop o s) + o ≡ length s) = offset_is b s in
    omega (
      arith,
      ints,
      worth_is before B S,
      gain_is B S before price o b s,
      worth_is price (B ++ b) (S ++ s),
      sum_by-take-drop (λ x. x) b o,
      sum_by-take-drop (λ x. x) s o,
      sum_by-append (λ x. x) B b,
      sum_by-append (λ x. x) S s,
      times price (length-append B b),
      times price (length-append S s),
      times price h.0,
      times price h.1,
    )

pub marked_position : (size before price : ℕ) (B S b s : List ℕ) → position size before B S +ℤ (day_trade size b s +ℤ margin size (net B S) before price b s) ≡ position size price (B ++ b) (S ++ s)
unfolding position day_trade margin worth offsets gain
marked_position size before price B S b s =
    let o = offset b s in
    ap (λ z. (pos size *ℤ worth before B S) +ℤ z) (sym (mul_add (pos size) (offsets o b s) (gain (net B S) before price o b s)))
    ∙ sym (mul_add (pos size) (worth before B S) (offsets o b s +ℤ gain (net B S) before price o b s))
    ∙ ap (λ z. pos size *ℤ z) (inner before price B S b s)

pub net_append : (B S b s : List ℕ) → (net B S +ℤ pos (length b)) -ℤ pos (length s) ≡ net (B ++ b) (S ++ s)
net_append B S b s = omega (arith, ints, net_is B S, net_is (B ++ b) (S ++ s), length-append B b, length-append S s)

-- contracts that change hands at the price itself add nothing
pub worth_at : (price i j : ℕ) (B S : List ℕ) → worth price (B ++ replicate i price) (S ++ replicate j price) ≡ worth price B S
worth_at price i j B S =
    same_in _ _ (omega (
      arith,
      worth_is price B S,
      worth_is price (B ++ replicate i price) (S ++ replicate j price),
      sum_by-append (λ x. x) B (replicate i price),
      sum_by-append (λ x. x) S (replicate j price),
      sum_replicate i price,
      sum_replicate j price,
      times price (length-append B (replicate i price)),
      times price (length-append S (replicate j price)),
      times price (length-replicate i price),
      times price (length-replicate j price),
    ))

pub position_at : (size price i j : ℕ) (B S : List ℕ) → position size price (B ++ replicate i price) (S ++ replicate j price) ≡ position size price B S
unfolding position worth
position_at size price i j B S = ap (λ z. pos size *ℤ z) (worth_at price i j B S)

pub closed_position : (size price final : ℕ) (B S : List ℕ) →
    position size price B S +ℤ (pos size *ℤ (net B S *ℤ (pos final -ℤ pos price))) ≡ position size price (B ++ replicate (down (net B S)) final) (S ++ replicate (up (net B S)) final)
unfolding position worth
closed_position size price final B S =
    let i = down (net B S) in
    let j = up (net B S) in
    let c = net B S *ℤ (pos final -ℤ pos price) in
    let e : worth price B S +ℤ c ≡ worth price (B ++ replicate i final) (S ++ replicate j final) =
    same_in _ _ (omega (
      arith,
      sum_is_lem (worth price B S) c,
      span_is (net B S) final price,
      worth_is price B S,
      worth_is price (B ++ replicate i final) (S ++ replicate j final),
      sum_by-append (λ x. x) B (replicate i final),
      sum_by-append (λ x. x) S (replicate j final),
      sum_replicate i final,
      sum_replicate j final,
      times price (length-append B (replicate i final)),
      times price (length-append S (replicate j final)),
      times price (length-replicate i final),
      times price (length-replicate j final),
      times price (net_is B S),
    )) in
    sym (mul_add (pos size) (worth price B S) c) ∙ ap (λ z. pos size *ℤ z) e

pub closed_net : (final : ℕ) (B S : List ℕ) → pos 0 ≡ net (B ++ replicate (down (net B S)) final) (S ++ replicate (up (net B S)) final)
closed_net final B S = grind (arith, same_in, net_is, length-append, length-replicate)

pub position_is : (size price : ℕ) (B S : List ℕ) → up (position size price B S) + (size * sum B + size * price * length S) ≡ down (position size price B S) + (size * sum S + size * price * length B)
unfolding position worth
position_is size price B S = omega (arith, product_is (pos size) (worth price B S), times size (worth_is price B S))

pub position_none : (size price : ℕ) → pos 0 ≡ position size price [] []
position_none size price = same_in _ _ (omega (arith, position_is size price [] []))

pub net_none : pos 0 ≡ net [] []
net_none = same_in _ _ (omega (arith, net_is [] []))

pub position_worth : (size price : ℕ) (B S : List ℕ) → position size price B S ≡ pos size *ℤ worth price B S
unfolding position worth
position_worth size price B S = refl

pub worth_net : (p : ℕ) (B S : List ℕ) → up (worth p B S) + sum B + p * down (net B S) ≡ down (worth p B S) + sum S + p * up (net B S)
worth_net p B S = omega (arith, worth_is p B S, times p (net_is B S))
