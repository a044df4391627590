use Rattle.std.proofs.Common.{is_some, sym, ap, ◌∙◌}
use Rattle.tally.specs.Events.{designating}
use Rattle.tally.specs.Steps.{done}
use Rattle.ledger.specs.Ledgers.{view, terms_of}
use Rattle.ledger.proofs.Designating.{is_designated, pair, paired_off}
use Rattle.ledger.proofs.Reaching.{goes_on}
use Rattle.ledger.proofs.Tables.{contracts, registers}
use Rattle.ledger.proofs.state.Ledger.pair_oldest.Goals as goal

pub unwrap-notice-requires : goal.unwrap-notice-requires
unwrap-notice-requires c = ap is_some c.oldest.ensures ∙ (is_designated c.args.self.now c.requires).notice

pub unwrap-lot-requires : goal.unwrap-lot-requires
unwrap-lot-requires c = ap is_some c.oldest-2.ensures ∙ (is_designated c.args.self.now c.requires).lot

pub deliver-requires : goal.deliver-requires
deliver-requires c =
    let l = c.args.self.now in
    let n = c.unwrap-notice.result in
    let lot = c.unwrap-lot.result in
    let p = pair l n lot (sym c.oldest.ensures ∙ c.unwrap-notice.ensures) (sym c.oldest-2.ensures ∙ c.unwrap-lot.ensures) in
    rw c.as_mut_slice.ensures.value
    (record {
      seller = registers l n.seller p.seller;
      owner = registers l lot.owner p.owner;
      short = (contracts l n.seller p.seller).carried_in;
      long = (contracts l lot.owner p.owner).carried_in;
      few = p.few;
    })

pub invariant_of-self : goal.invariant_of-self
unfolding done
invariant_of-self c =
    let l = c.args.self.now in
    let n = c.unwrap-notice.result in
    let lot = c.unwrap-lot.result in
    let e = paired_off l n lot c.paired-contracts.result (sym c.oldest.ensures ∙ c.unwrap-notice.ensures) (sym c.oldest-2.ensures ∙ c.unwrap-lot.ensures) c.paired-contracts.ensures c.as_mut_slice.ensures.value c.deliver.ensures c.take_oldest-2.ensures.after c.take_oldest.ensures.after in
    record { reached = goes_on (terms_of l) (view l) designating tt c.requires e l.reached }

pub returns-clause-view : goal.returns-clause-view
returns-clause-view c =
    paired_off c.args.self.now c.unwrap-notice.result c.unwrap-lot.result c.paired-contracts.result (sym c.oldest.ensures ∙ c.unwrap-notice.ensures) (sym c.oldest-2.ensures ∙ c.unwrap-lot.ensures) c.paired-contracts.ensures
    c.as_mut_slice.ensures.value c.deliver.ensures c.take_oldest-2.ensures.after c.take_oldest.ensures.after
