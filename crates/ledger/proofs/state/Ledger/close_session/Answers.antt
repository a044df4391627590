use Rattle.std.proofs.Common.{length, refl, ap, ◌∙◌, arith}
use Rattle.tally.specs.Events.{marking}
use Rattle.tally.specs.Steps.{done}
use Rattle.ledger.specs.declared.owed.Settling.TheVariants.{Marking}
use Rattle.ledger.specs.Ledgers.{view, terms_of}
use Rattle.ledger.specs.Payouts.{marking_at}
use Rattle.ledger.specs.Told.{over}
use Rattle.ledger.proofs.Closing.{marked_view, marking_met, owed_many, page_rows, page_sums}
use Rattle.ledger.proofs.Reaching.{goes_on}
use Rattle.ledger.proofs.Standing.{accounts_in, contracts_in, few_lots, session_in}
use Rattle.ledger.proofs.state.Ledger.close_session.Goals as goal

pub pay-sums-requires : goal.pay-sums-requires
pay-sums-requires c =
    let l = c.args.self.now in
    rw c.as_slice.ensures.value
    (record {
      beside = owed_many l Marking c.args.price.number c.owed-owed.ensures;
      page = (marking_met l (marking_at c.args.price.number c.args.rate.number) _ c.requires).room;
    })

pub turn_lots-requires : goal.turn_lots-requires
turn_lots-requires c = let l = c.args.self.now in rw c.as_slice-2.ensures.value (record { contracts = contracts_in l; room = few_lots l })

pub settle_accounts-requires : goal.settle_accounts-requires
settle_accounts-requires c =
    let l = c.args.self.now in
    rw (c.as_mut_slice.ensures.value, c.as_slice-3.ensures.value)
    (record {
      beside = owed_many l Marking c.args.price.number c.owed-owed.ensures;
      accounts = accounts_in l;
    })

pub overflow_add-self : goal.overflow_add-self
overflow_add-self c = let s = session_in c.args.self.now in omega arith

pub invariant_of-self : goal.invariant_of-self
unfolding done
invariant_of-self c =
    let l = c.args.self.now in
    let m = marking_at c.args.price.number c.args.rate.number in
    let left = marked_view l m refl c.owed-owed.ensures c.settle_accounts.ensures c.as_mut_slice.ensures.value c.as_slice-3.ensures.value c.clear.ensures c.turn_lots.ensures c.as_slice-2.ensures.value c.cents-self.ensures.value c.millionths-self.ensures.value in
    record { reached = goes_on (terms_of l) (view l) (marking m (length c.args.page.now)) tt c.requires left l.reached }

pub returns : goal.returns
returns c =
    let l = c.args.self.now in
    let p = c.args.price.number in
    let r = c.args.rate.number in
    let owed = c.as_slice.ensures.value ∙ c.owed-owed.ensures in
    record {
      view = marked_view l (marking_at p r) refl c.owed-owed.ensures c.settle_accounts.ensures c.as_mut_slice.ensures.value c.as_slice-3.ensures.value c.clear.ensures c.turn_lots.ensures c.as_slice-2.ensures.value c.cents-self.ensures.value c.millionths-self.ensures.value;
      terms = refl;
      page = c.pay-sums.ensures.page ∙ ap (λ rows. over rows c.args.page.now) (page_rows l Marking p owed r);
      sums = c.pay-sums.ensures.sums ∙ page_sums l Marking p owed r;
    }
