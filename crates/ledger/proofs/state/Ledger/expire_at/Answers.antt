use Rattle.std.proofs.Common.{◌≡◌, ℕ, length, Some, refl, ap, ◌∙◌}
use Rattle.money.specs.Ranges.{is_rate}
use Rattle.tally.specs.Events.{expiring}
use Rattle.tally.specs.Pages.{by_expiry, page, roll}
use Rattle.tally.specs.Steps.{done}
use Rattle.ledger.specs.declared.owed.Settling.TheVariants.{Expiry}
use Rattle.ledger.specs.Ledgers.{view, terms_of}
use Rattle.ledger.specs.Told.{over}
use Rattle.ledger.proofs.Closing.{expired_view, expiry_met, owed_many, page_rows, page_sums, price_is}
use Rattle.ledger.proofs.Paying.{of_some}
use Rattle.ledger.proofs.Rates.{rate_is}
use Rattle.ledger.proofs.Reaching.{goes_on}
use Rattle.ledger.proofs.Standing.{accounts_in}
use Rattle.ledger.proofs.state.Ledger.expire_at.Goals as goal

pub unwrap-rate-requires : goal.unwrap-rate-requires
unwrap-rate-requires c = let l = c.args.self.now in c.new.ensures.test ∙ ap is_rate c.from.ensures ∙ rate_is l (expiry_met l c.args.price.number _ c.requires).over_last

pub pay-sums-requires : goal.pay-sums-requires
pay-sums-requires c =
    let l = c.args.self.now in
    rw c.as_slice.ensures.value
    (record {
      beside = owed_many l Expiry c.args.price.number c.owed-owed.ensures;
      page = (expiry_met l c.args.price.number _ c.requires).room;
    })

pub settle_accounts-requires : goal.settle_accounts-requires
settle_accounts-requires c =
    let l = c.args.self.now in
    rw (c.as_mut_slice.ensures.value, c.as_slice-2.ensures.value)
    (record {
      beside = owed_many l Expiry c.args.price.number c.owed-owed.ensures;
      accounts = accounts_in l;
    })

pub invariant_of-self : goal.invariant_of-self
unfolding done
invariant_of-self c =
    let l = c.args.self.now in
    let p = c.args.price.number in
    record { reached = goes_on (terms_of l) (view l) (expiring (Some p) (length c.args.page.now)) (price_is p c.args.price.within) c.requires (expired_view l p c.owed-owed.ensures c.settle_accounts.ensures c.as_mut_slice.ensures.value c.as_slice-2.ensures.value c.clear.ensures.after) l.reached }

pub returns : goal.returns
returns c =
    let l = c.args.self.now in
    let p = c.args.price.number in
    let owed = c.as_slice.ensures.value ∙ c.owed-owed.ensures in
    let r = c.unwrap-rate.result.number in
    let rate : r ≡ l.rate = of_some c.new.result c.unwrap-rate.result _ _ c.new.ensures.some c.unwrap-rate.ensures ∙ c.from.ensures in
    let paid = λ (j : ℕ). page (terms_of l) j (by_expiry (terms_of l) (view l) p) (roll (view l)) in
    record {
      view = expired_view l p c.owed-owed.ensures c.settle_accounts.ensures c.as_mut_slice.ensures.value c.as_slice-2.ensures.value c.clear.ensures.after;
      terms = refl;
      page = c.pay-sums.ensures.page ∙ ap (λ rows. over rows c.args.page.now) (page_rows l Expiry p owed r ∙ ap (λ (j : ℕ). (paid j).rows) rate);
      sums = c.pay-sums.ensures.sums ∙ page_sums l Expiry p owed r ∙ ap (λ (j : ℕ). (paid j).totals) rate;
    }
