use Rattle.std.proofs.Common.{◌≡◌, ℕ, ◌+◌, ◌≤◌, take, drop, ℤ, pos, nat_abs, ◌+ℤ◌, ◌-ℤ◌, ◌*ℤ◌, sum, ap, ◌∙◌, arith, w64, to_z, of_z}
use Rattle.std.proofs.lemmas.Int.{to_z-of_z}
use Rattle.std.proofs.lemmas.List.{length-drop}
use Rattle.tally.specs.Account.{day_trade, margin, above, offset}
use Rattle.tally.specs.Book.{prices, buys, sells}
use Rattle.tally.specs.Pages.{Owed}
use Rattle.ledger.specs.Owings.{marking_owed}
use Rattle.ledger.proofs.Gains.{above_sum}
use Rattle.ledger.proofs.Paying.{read_signed}
use Rattle.ledger.proofs.owed.Valuation.by_marking.Goals as goal

abbrev owing : goal.After-scaled-2 → Owed
owing c = marking_owed c.args.self.size c.args.sheet.now.trades.now c.args.self.last c.args.self.price c.args.number c.args.account

offsets : (c : goal.After-scaled-2) → c.from-offset.result ≡ offset (prices c.args.number (buys c.args.sheet.now.trades.now)) (prices c.args.number (sells c.args.sheet.now.trades.now))
unfolding offset
offsets c = omega (arith, c.from-offset.ensures, c.min.ensures, c.requires.1.0, c.requires.1.1)

traded_in_day : (c : goal.After-scaled-2) → to_z w64 (of_z w64 c.scaled.result) ≡ (owing c).day_trade
unfolding day_trade
traded_in_day c =
    let size = c.args.self.size in
    let b = c.split-bought in
    let ss = prices c.args.number (sells c.args.sheet.now.trades.now) in
    let bs = prices c.args.number (buys c.args.sheet.now.trades.now) in
    let o = c.from-offset.result in
    let gain = to_z-of_z w64 c.offset_gain.result (record { sfits = c.offset_gain.type_inv }) ∙ c.offset_gain.ensures.value in
    to_z-of_z w64 c.scaled.result (record { sfits = c.scaled.type_inv }) ∙ c.scaled.ensures.value ∙ ap (λ (z : ℤ). pos size *ℤ z) gain
    ∙ ap (λ (i : ℕ). pos size *ℤ (pos i -ℤ pos b.result.offset.value)) c.split-sold.ensures.offset_value
    ∙ ap (λ (i : ℕ). pos size *ℤ (pos (sum (take o ss)) -ℤ pos i)) b.ensures.offset_value
    ∙ ap (λ (i : ℕ). pos size *ℤ (pos (sum (take i ss)) -ℤ pos (sum (take i bs)))) (offsets c)

left_over : (c : goal.After-scaled-2) → to_z w64 (of_z w64 c.scaled-2.result) ≡ (owing c).margin
unfolding margin
left_over c =
    let v = c.args.self in
    let price = v.price in
    let carried = c.args.account.carried in
    let b = c.split-bought.ensures in
    let s = c.split-sold.ensures in
    let ss = prices c.args.number (sells c.args.sheet.now.trades.now) in
    let bs = prices c.args.number (buys c.args.sheet.now.trades.now) in
    let o = c.from-offset.result in
    let bl = to_z-of_z w64 c.balance-left.result (record { sfits = c.balance-left.type_inv }) in
    let cg = to_z-of_z w64 c.carried_gain.result (record { sfits = c.carried_gain.type_inv }) in
    let lb = to_z-of_z w64 c.left_gain.result (record { sfits = c.left_gain.type_inv }) in
    let ls = to_z-of_z w64 c.left_gain-2.result (record { sfits = c.left_gain-2.type_inv }) in
    let left : c.balance-left.result ≡ (c.carried_gain.result +ℤ c.left_gain.result) -ℤ c.left_gain-2.result = simp (cg, lb, ls) at c.balance-left.ensures.value in
    to_z-of_z w64 c.scaled-2.result (record { sfits = c.scaled-2.type_inv }) ∙ c.scaled-2.ensures.value ∙ ap (λ (z : ℤ). pos v.size *ℤ z) (bl ∙ left
    ∙ ap (λ (z : ℤ). (z +ℤ c.left_gain.result) -ℤ c.left_gain-2.result) (c.carried_gain.ensures.value ∙ ap (λ (z : ℤ). z *ℤ (pos price -ℤ pos v.last)) (read_signed carried 3000 c.requires.0.0 (omega arith)))
    ∙ ap (λ (z : ℤ). ((carried *ℤ (pos price -ℤ pos v.last)) +ℤ z) -ℤ c.left_gain-2.result) (c.left_gain.ensures.value ∙ above_sum price (drop o bs) b.left b.left_value)
    ∙ ap (λ (z : ℤ). ((carried *ℤ (pos price -ℤ pos v.last)) +ℤ above price (drop o bs)) -ℤ z) (c.left_gain-2.ensures.value ∙ above_sum price (drop o ss) s.left s.left_value)
    ∙ ap (λ (i : ℕ). ((carried *ℤ (pos price -ℤ pos v.last)) +ℤ above price (drop i bs)) -ℤ above price (drop i ss)) (offsets c))

-- contracts are left on one side alone
few_left : (c : goal.After-scaled-2) → c.split-bought.result.left.contracts + c.split-sold.result.left.contracts ≤ 3000
few_left c =
    let bs = prices c.args.number (buys c.args.sheet.now.trades.now) in
    let ss = prices c.args.number (sells c.args.sheet.now.trades.now) in
    let o = c.from-offset.result in
    omega (arith, c.split-bought.ensures.left, c.split-sold.ensures.left, length-drop o bs, length-drop o ss, offsets c, c.requires.0.1, c.requires.0.2, c.requires.1.0, c.requires.1.1)

day_trade_fits : (c : goal.After-scaled-2) → nat_abs c.scaled.result ≤ 600000000000
day_trade_fits c =
    let g = to_z-of_z w64 c.offset_gain.result (record { sfits = c.offset_gain.type_inv }) in
    let scaled = simp g at c.scaled.ensures.below in
    omega (arith, scaled, c.offset_gain.ensures.below)

margin_fits : (c : goal.After-scaled-2) → nat_abs c.scaled-2.result ≤ 600000000000
margin_fits c =
    let bl = to_z-of_z w64 c.balance-left.result (record { sfits = c.balance-left.type_inv }) in
    let cg = to_z-of_z w64 c.carried_gain.result (record { sfits = c.carried_gain.type_inv }) in
    let lb = to_z-of_z w64 c.left_gain.result (record { sfits = c.left_gain.type_inv }) in
    let ls = to_z-of_z w64 c.left_gain-2.result (record { sfits = c.left_gain-2.type_inv }) in
    let scaled = simp bl at c.scaled-2.ensures.below in
    let left = simp (cg, lb, ls) at c.balance-left.ensures.below in
    omega (arith, scaled, left, c.carried_gain.ensures.below, c.left_gain.ensures.below, c.left_gain-2.ensures.below, few_left c)

pub invariant_of-result : goal.invariant_of-result
invariant_of-result c =
    let d = to_z-of_z w64 c.scaled.result (record { sfits = c.scaled.type_inv }) in
    let m = to_z-of_z w64 c.scaled-2.result (record { sfits = c.scaled-2.type_inv }) in
    rw (d, m) (day_trade_fits c, margin_fits c)

pub returns : goal.returns
returns c = λ i. record { day_trade = traded_in_day c i; margin = left_over c i }
