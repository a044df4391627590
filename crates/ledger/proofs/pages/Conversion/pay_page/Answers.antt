use Rattle.std.proofs.Common.{◌≡◌, ◌+◌, ◌*◌, get_or, ℤ, ap, ◌∙◌, arith}
use Rattle.money.specs.Pays.{payment_of}
use Rattle.tally.specs.Questions.{nobody}
use Rattle.tally.specs.Pages.{Owed}
use Rattle.ledger.specs.Owings.{row_to}
use Rattle.ledger.proofs.Beside.{write_more}
use Rattle.ledger.proofs.Paying.{lines_next, lines_all, read_signed, row_is, sums_first, sums_both, sums_within}
use Rattle.ledger.proofs.pages.Conversion.pay_page.Goals as goal

pub add_line-sums-requires-clause-sums : goal.add_line-sums-requires-clause-sums
add_line-sums-requires-clause-sums c =
    let i = c.loop-i.i in
    sums_within (2 * i + 1) c.add_line.result (omega arith) (sums_first (2 * i) c.loop-i.sums _ c.pay_line-day_trade.result c.add_line.ensures c.loop-i.invariant.2 c.pay_line-day_trade.ensures.within)

pub loop-i-preserved : goal.loop-i-preserved
loop-i-preserved c =
    let i = c.loop-i.i in
    let xs = c.args.accounts.now in
    let os = c.args.owed.now in
    let currency = c.args.self.currency in
    let rate = c.args.self.rate.number in
    let a = get_or xs i nobody in
    let blank = c.index-owed-i.result in
    let o = get_or os i blank in
    let inside = c.owed.inside in
    let at = c.owed.view_is ∙ c.index-owed-i.is in
    let day_trade = c.pay_line-day_trade in
    let margin = c.pay_line-margin in
    let day_trade_is : day_trade.result ≡ payment_of o.day_trade currency a.residency rate =
    day_trade.ensures.value ∙ ap (λ (z : ℤ). payment_of z currency a.residency rate) (read_signed inside.day_trade _ c.owed.invariant.0 (omega arith) ∙ ap (λ (x : Owed). x.day_trade) at) in
    let margin_is : margin.result ≡ payment_of o.margin currency a.residency rate =
    margin.ensures.value ∙ ap (λ (z : ℤ). payment_of z currency a.residency rate) (read_signed inside.margin _ c.owed.invariant.1 (omega arith) ∙ ap (λ (x : Owed). x.margin) at) in
    let row = row_is currency rate a o day_trade.result margin.result (read_signed day_trade.result.paid _ day_trade.ensures.within.0 (omega arith)) (read_signed margin.result.paid _ margin.ensures.within.0 (omega arith)) day_trade_is margin_is in (
      write_more (row_to currency rate) xs os c.args.page.now c.loop-i.page i nobody blank c.loop-i-test.true c.requires.beside (omega arith) row c.loop-i.invariant.0,
      lines_next currency rate xs os i nobody blank c.loop-i.sums c.loop-i-test.true (omega arith) day_trade_is margin_is c.add_line.ensures c.add_line-sums.ensures ∙ c.loop-i.invariant.1,
      sums_both i c.loop-i.sums a.residency day_trade.result margin.result c.add_line.ensures c.add_line-sums.ensures c.loop-i.invariant.2 day_trade.ensures.within margin.ensures.within,
    )

pub returns-clause-sums : goal.returns-clause-sums
returns-clause-sums c = lines_all c.args.self.currency c.args.self.rate.number c.args.accounts.now c.args.owed.now c.loop-i.i c.loop-i.sums c.loop-i-test.false c.loop-i.invariant.1
