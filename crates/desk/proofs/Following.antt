-- A kind that obeys a rule of the trade meets calls as the rule does.
use Rattle.std.proofs.Common.{◌≡◌, ℕ, List, [], ◌∷◌, Option, sym, refl, ap, ◌∙◌}
use Rattle.kinds.specs.Averages.{average_rule, AveragePrice}
use Rattle.kinds.specs.Delivery.{delivering, delivery_rule, NoPrice}
use Rattle.kinds.specs.Indexes.{index_rule, IndexPrice}
use Rattle.kinds.specs.Indexing.{five}
use Rattle.kinds.specs.Meaning.{Meaning}
use Rattle.kinds.specs.Quoted.{Obeys, Rule, replies, said, state, taken, with_next}
use Rattle.kinds.specs.Tickers.{row}
use Rattle.kinds.specs.Weighting.{weighted}
use Rattle.kinds.specs.declared.delivering.Delivering.{Delivering}
use Rattle.kinds.specs.declared.indexes.LastFive.{LastFive}
use Rattle.kinds.specs.declared.quotation.Quotation.{Quotation}
use Rattle.kinds.specs.declared.weighted.WeightedAverage.{WeightedAverage}
use Rattle.tally.specs.Events.{quoting, expiring}
use Rattle.tally.specs.Runs.{log}
use Rattle.tally.specs.declared.call.Call.{Call}
use Rattle.tally.specs.declared.call.Call.TheVariants as call
use Rattle.desk.specs.declared.openings.Opening.{Opening}
use Rattle.desk.specs.Courses.{course}
use Rattle.desk.specs.Endings.{average_price, by_rule, course_of, index_price, no_price}
use Rattle.desk.specs.Openings.{terms_for}
use Rattle.desk.specs.Report.{after_by, calls_in, event_by, events_by, log_by, log_text, opened_text}
use Rattle.desk.proofs.Ending.{mean_is}

-- whatever comes, the kind replies and ends as the rule does after the quotations taken so far
pub record Follows {K : Type 0} (m : Meaning K) (rule : Rule) (price : List Quotation → Option ℕ) (k : K) (done : List Quotation) : Type 0 where
  pub replying : (qs : List Quotation) → said m k qs ≡ replies rule done qs
  pub pricing : (qs : List Quotation) → m.final (state m k qs) ≡ price (taken rule done qs)

module _ {K : Type 0} (m : Meaning K) (rule : Rule) (price : List Quotation → Option ℕ) where
  pub replies_so : (k : K) (done : List Quotation) (q : Quotation) → Follows m rule price k done → m.reply k q ≡ rule done q
  replies_so k done q h = let e = h.replying (q ∷ []) in cc

  pub follows_next : (k : K) (done : List Quotation) (q : Quotation) → Follows m rule price k done → Follows m rule price (m.after k q) (with_next rule done q)
  follows_next k done q h = record { replying = λ qs. let e = h.replying (q ∷ qs) in cc; pricing = λ qs. h.pricing (q ∷ qs) }

  event_so : (k : K) (done : List Quotation) (x : Call) (room : ℕ) → Follows m rule price k done → event_by (course m) k x room ≡ event_by (by_rule rule price) done x room
  event_so k done (call.Register r) room h = refl
  event_so k done (call.Trade t) room h = refl
  event_so k done (call.Quote q) room h = ap (quoting q) (replies_so k done q h)
  event_so k done (call.Notify n) room h = refl
  event_so k done call.Designate room h = refl
  event_so k done (call.Mark x) room h = refl
  event_so k done call.Expire room h = ap (λ o. expiring o room) (h.pricing [])

  follows_so : (k : K) (done : List Quotation) (x : Call) → Follows m rule price k done → Follows m rule price (after_by (course m) k x) (after_by (by_rule rule price) done x)
  follows_so k done (call.Register r) h = h
  follows_so k done (call.Trade t) h = h
  follows_so k done (call.Quote q) h = follows_next k done q h
  follows_so k done (call.Notify n) h = h
  follows_so k done call.Designate h = h
  follows_so k done (call.Mark x) h = h
  follows_so k done call.Expire h = h

  events_so : (k : K) (done : List Quotation) (xs : List Call) → Follows m rule price k done → events_by (course m) k xs ≡ events_by (by_rule rule price) done xs
  unfolding events_by
  events_so k done [] h = refl
  events_so k done (x ∷ xs) h =
      let e = event_so k done x 64 h in
      let more = events_so (after_by (course m) k x) (after_by (by_rule rule price) done x) xs (follows_so k done x h) in
      λ i. e i ∷ more i

  -- the text of a book over the kind is that of the rule
  pub told_so : (k : K) (o : Opening) (n p : ℕ) (ls : List (List ℕ)) → course_of (row o.ticker).ending ≡ by_rule rule price → Follows m rule price k [] →
      log_text n p (log_by (course m) k o p ls) ls ≡ opened_text o n p ls
  told_so k o n p ls e h =
      ap (λ es. log_text n p (log (terms_for o) es) ls) (events_so k [] (calls_in p ls) h)
      ∙ ap (λ c. log_text n p (log_by c [] o p ls) ls) (sym e)

-- each kind just made follows its rule
pub delivering_follows : (k : Delivering) → Obeys delivering k delivery_rule NoPrice → Follows delivering delivery_rule no_price k []
delivering_follows k law = record { replying = law.by_rule; pricing = law.by_price }

pub average_follows : (k : WeightedAverage) → Obeys weighted k average_rule AveragePrice → Follows weighted average_rule average_price k []
average_follows k law = record { replying = law.by_rule; pricing = λ qs. mean_is 1 (taken average_rule [] qs) _ _ _ (law.by_price qs) }

pub five_follows : (k : LastFive) → Obeys five k index_rule IndexPrice → Follows five index_rule index_price k []
five_follows k law = record { replying = law.by_rule; pricing = λ qs. mean_is 5 (taken index_rule [] qs) _ _ _ (law.by_price qs) }
