-- What an accepted call does: to what the book shows, and to the tally.
use Rattle.std.specs.Prelude.{ℕ, ◌+◌, ◌-◌, min, true, cond, List, [], ◌∷◌, ◌++◌, map, ℤ, pos, ◌+ℤ◌, ◌-ℤ◌, Some, None, ◌==◌, nat_lt}
use Rattle.aged.specs.Line.{append, take_oldest, take_of}
use Rattle.tally.specs.declared.rows.Account.{Account}
use Rattle.tally.specs.declared.rows.Trade.{Trade}
use Rattle.tally.specs.declared.rows.Lot.{Lot}
use Rattle.tally.specs.declared.rows.Notice.{Notice}
use Rattle.tally.specs.declared.call.Registration.{Registration}
use Rattle.tally.specs.declared.call.Notification.{Notification}
use Rattle.tally.specs.declared.call.Marking.{Marking}
use Rattle.tally.specs.Account.{long, short, net}
use Rattle.tally.specs.Book.{Terms, View, Tally, numbered, prices, buys, sells, carried}
use Rattle.tally.specs.Events.{Event, registering, trading, quoting, noticing, designating, marking, expiring}
use Rattle.tally.specs.Pages.{by_marking, by_expiry}
use Rattle.tally.specs.Questions.{net_of, traded_account}
use Rattle.tally.specs.Rows.{lot_counting, notice_counting}

-- ---- lots
-- n contracts less of account k's lots, the oldest first
unfoldable pub less_lots : ℕ → ℕ → List Lot → List Lot
less_lots k n ls = take_of lot_counting (λ l. l.owner) k n ls

-- n contracts less of the oldest lots, and of the oldest notices
unfoldable pub less_oldest_lots : ℕ → List Lot → List Lot
less_oldest_lots n ls = take_oldest lot_counting n ls

unfoldable pub less_oldest_notices : ℕ → List Notice → List Notice
less_oldest_notices n ns = take_oldest notice_counting n ns

-- account k's lots as its contracts go from one number to another: more long contracts are a new lot of the session, fewer go from its oldest lots
unfoldable pub aged : ℕ → ℕ → ℤ → ℤ → List Lot → List Lot
aged session k before after lots =
    cond (nat_lt (long before) (long after))
    (append (record { owner = k; session = session; count = long after - long before }) lots)
    (less_lots k (long before - long after) lots)

pub record Change : Type 0 where
  pub before : ℤ
  pub after : ℤ

-- each account in number order
unfoldable pub turned : ℕ → ℕ → List Change → List Lot → List Lot
turned session k [] lots = lots
turned session k (x ∷ xs) lots = turned session (k + 1) xs (aged session k x.before x.after lots)

-- ---- on what the book shows
abbrev pub with_accounts : View → List Account → View
with_accounts v xs = record { accounts = xs; sheet = v.sheet; lots = v.lots; notices = v.notices; session = v.session; price = v.price; rate = v.rate; expired = v.expired }

abbrev pub new_account : Registration → Account
new_account r = record { identity = r.identity; residency = r.residency; carried = pos 0; bought = 0; sold = 0; total = pos 0 }

abbrev pub register : View → Registration → View
register v r = with_accounts v (v.accounts ++ new_account r ∷ [])

abbrev pub trade : View → Trade → View
trade v t = record { accounts = numbered (traded_account t) 1 v.accounts; sheet = v.sheet ++ t ∷ []; lots = v.lots; notices = v.notices; session = v.session; price = v.price; rate = v.rate; expired = v.expired }

-- a notice is of the open session
abbrev pub noticed_in : ℕ → Notification → Notice
noticed_in session n = record { seller = n.seller; session = session; count = n.contracts }

abbrev pub notice : View → Notification → View
notice v n = record { accounts = v.accounts; sheet = v.sheet; lots = v.lots; notices = append (noticed_in v.session n) v.notices; session = v.session; price = v.price; rate = v.rate; expired = v.expired }

-- an account at a marking: both its amounts are added to the total, and carried becomes net
unfoldable pub marked_account : Terms → View → ℕ → ℕ → Account → Account
marked_account c v price k a =
    let owed = by_marking c v price (record { number = k; account = a }) in
    record {
      identity = a.identity;
      residency = a.residency;
      carried = net_of a;
      bought = 0;
      sold = 0;
      total = a.total +ℤ (owed.day_trade +ℤ owed.margin);
    }

-- the sheet is emptied and the session rises
unfoldable pub mark : Terms → View → Marking → View
mark c v m = record {
  accounts = numbered (marked_account c v m.price) 1 v.accounts;
  sheet = [];
  lots = turned v.session 1 (map (λ a. record { before = a.carried; after = net_of a }) v.accounts) v.lots;
  notices = v.notices;
  session = v.session + 1;
  price = m.price;
  rate = m.rate;
  expired = v.expired;
}

-- the contracts that a designation pairs: the lesser count of a notice and a lot
abbrev pub paired : Notice → Lot → ℕ
paired n l = min n.count l.count

-- the seller's short contracts and the holder's long ones shrink by it
unfoldable pub designated_account : Notice → Lot → ℕ → Account → Account
designated_account n l k a = record {
  identity = a.identity;
  residency = a.residency;
  carried = (a.carried +ℤ pos (cond (n.seller == k) (paired n l) 0)) -ℤ pos (cond (l.owner == k) (paired n l) 0);
  bought = a.bought;
  sold = a.sold;
  total = a.total;
}

unfoldable pub designate : View → Notice → Lot → View
designate v n l = record {
  accounts = numbered (designated_account n l) 1 v.accounts;
  sheet = v.sheet;
  lots = less_oldest_lots (paired n l) v.lots;
  notices = less_oldest_notices (paired n l) v.notices;
  session = v.session;
  price = v.price;
  rate = v.rate;
  expired = v.expired;
}

abbrev pub designate_oldest : View → List Notice → List Lot → View
designate_oldest v [] ls = v
designate_oldest v (n ∷ ns) [] = v
designate_oldest v (n ∷ ns) (l ∷ ls) = designate v n l

unfoldable pub expired_account : Terms → View → ℕ → ℕ → Account → Account
expired_account c v final k a = record {
  identity = a.identity;
  residency = a.residency;
  carried = pos 0;
  bought = a.bought;
  sold = a.sold;
  total = a.total +ℤ (by_expiry c v final (record { number = k; account = a })).margin;
}

unfoldable pub expire : Terms → View → ℕ → View
expire c v final = record {
  accounts = numbered (expired_account c v final) 1 v.accounts;
  sheet = v.sheet;
  lots = [];
  notices = v.notices;
  session = v.session;
  price = v.price;
  rate = v.rate;
  expired = true;
}

-- the book after an accepted call
unfoldable pub done : Terms → View → Event → View
done c v (registering r) = register v r
done c v (trading t) = trade v t
done c v (quoting q reply) = v
done c v (noticing n) = notice v n
done c v designating = designate_oldest v v.notices v.lots
done c v (marking m room) = mark c v m
done c v (expiring None room) = v
done c v (expiring (Some final) room) = expire c v final

-- ---- on the tally
-- the waiting trades count as bought by the buyer and sold by the seller; lots follow what is then carried
abbrev pub change : Tally → ℕ → Registration → Change
change t k p = record {
  before = carried t k;
  after = net (prices k (t.bought ++ buys t.waiting)) (prices k (t.sold ++ sells t.waiting));
}

unfoldable pub fed_marking : Tally → Marking → Tally
fed_marking t m = record {
  parties = t.parties;
  bought = t.bought ++ buys t.waiting;
  sold = t.sold ++ sells t.waiting;
  waiting = [];
  lots = turned t.session 1 (numbered (change t) 1 t.parties) t.lots;
  notices = t.notices;
  session = t.session + 1;
  price = m.price;
  rate = m.rate;
  expired = t.expired;
}

-- designated contracts are bought by the notice's seller and sold by the lot's owner, at the last settlement price
unfoldable pub fed_designation : Tally → Notice → Lot → Tally
fed_designation t n l = record {
  parties = t.parties;
  bought = t.bought ++ record { holder = n.seller; price = t.price; contracts = paired n l } ∷ [];
  sold = t.sold ++ record { holder = l.owner; price = t.price; contracts = paired n l } ∷ [];
  waiting = t.waiting;
  lots = less_oldest_lots (paired n l) t.lots;
  notices = less_oldest_notices (paired n l) t.notices;
  session = t.session;
  price = t.price;
  rate = t.rate;
  expired = t.expired;
}

abbrev pub fed_oldest : Tally → List Notice → List Lot → Tally
fed_oldest t [] ls = t
fed_oldest t (n ∷ ns) [] = t
fed_oldest t (n ∷ ns) (l ∷ ls) = fed_designation t n l

-- at expiry short contracts are bought and long ones sold, at the final price
unfoldable pub fed_expiry : Tally → ℕ → Tally
fed_expiry t final = record {
  parties = t.parties;
  bought = t.bought ++ numbered (λ k _. record { holder = k; price = final; contracts = short (carried t k) }) 1 t.parties;
  sold = t.sold ++ numbered (λ k _. record { holder = k; price = final; contracts = long (carried t k) }) 1 t.parties;
  waiting = t.waiting;
  lots = [];
  notices = t.notices;
  session = t.session;
  price = t.price;
  rate = t.rate;
  expired = true;
}

-- the tally after an accepted call
unfoldable pub entered : Tally → Event → Tally
entered t (registering r) = record { parties = t.parties ++ r ∷ []; bought = t.bought; sold = t.sold; waiting = t.waiting; lots = t.lots; notices = t.notices; session = t.session; price = t.price; rate = t.rate; expired = t.expired }
entered t (trading w) = record { parties = t.parties; bought = t.bought; sold = t.sold; waiting = t.waiting ++ w ∷ []; lots = t.lots; notices = t.notices; session = t.session; price = t.price; rate = t.rate; expired = t.expired }
entered t (quoting q reply) = t
entered t (noticing n) = record { parties = t.parties; bought = t.bought; sold = t.sold; waiting = t.waiting; lots = t.lots; notices = append (noticed_in t.session n) t.notices; session = t.session; price = t.price; rate = t.rate; expired = t.expired }
entered t designating = fed_oldest t t.notices t.lots
entered t (marking m room) = fed_marking t m
entered t (expiring None room) = t
entered t (expiring (Some final) room) = fed_expiry t final
