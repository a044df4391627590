-- Quotations one after the other: what a kind makes of them, and what a rule of the trade makes of them.
use Rattle.std.specs.Prelude.{◌≡◌, ℕ, Bool, cond, List, [], ◌∷◌, ◌++◌, is_ok, None, Option}
use Rattle.kinds.specs.declared.quotation.Quotation.{Quotation}
use Rattle.kinds.specs.declared.terms.Terms.{Terms}
use Rattle.kinds.specs.Quotations.{Reply}
use Rattle.kinds.specs.Meaning.{Meaning}

-- the kind after quotations
abbrev pub state : {K : Type 0} → Meaning K → K → List Quotation → K
state m k [] = k
state m k (q ∷ qs) = state m (m.after k q) qs

-- its replies to them
abbrev pub said : {K : Type 0} → Meaning K → K → List Quotation → List Reply
said m k [] = []
said m k (q ∷ qs) = m.reply k q ∷ said m (m.after k q) qs

-- a rule of the trade: the reply to a quotation, by those that were taken before it, the oldest first
abbrev pub Rule : Type 0
Rule = List Quotation → Quotation → Reply

-- the final price, or none, that is right for the quotations taken
abbrev pub Pricing : Type 1
Pricing = List Quotation → Option ℕ → Type 0

-- the quotations taken, once q has come
abbrev pub with_next : Rule → List Quotation → Quotation → List Quotation
with_next rule done q = done ++ cond (is_ok (rule done q)) (q ∷ []) []

-- the quotations taken, once all have come
abbrev pub taken : Rule → List Quotation → List Quotation → List Quotation
taken rule done [] = done
taken rule done (q ∷ qs) = taken rule (with_next rule done q) qs

-- what the rule replies to them
abbrev pub replies : Rule → List Quotation → List Quotation → List Reply
replies rule done [] = []
replies rule done (q ∷ qs) = rule done q ∷ replies rule (with_next rule done q) qs

-- from k on, whatever quotations come, the kind replies by the rule, and its final price is right for those taken
pub record Obeys {K : Type 0} (m : Meaning K) (k : K) (rule : Rule) (Priced : Pricing) : Type 0 where
  pub by_rule : (qs : List Quotation) → said m k qs ≡ replies rule [] qs
  pub by_price : (qs : List Quotation) → Priced (taken rule [] qs) (m.final (state m k qs))

-- a contract just made: it has the size, currency and tick of its terms, delivers or not, has no final price yet, and obeys its rule from here on
pub record Starts {K : Type 0} (m : Meaning K) (k : K) (terms : Terms) (delivers : Bool) (rule : Rule) (Priced : Pricing) : Type 0 where
  pub size : m.size k ≡ terms.size
  pub currency : m.currency k ≡ terms.currency
  pub tick : m.tick k ≡ terms.tick
  pub ends : m.delivers k ≡ delivers
  pub unpriced : m.final k ≡ None
  pub law : Obeys m k rule Priced
