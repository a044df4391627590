-- The questions that a call goes through, in order, and the refusal of the first that is not met.
use Rattle.std.specs.Prelude.{ℕ, ◌+◌, ◌-◌, ◌%◌, Bool, true, false, cond, not, ◌&&◌, ◌||◌, List, [], ◌∷◌, length, ℤ, pos, ◌+ℤ◌, ◌-ℤ◌, Some, None, Ok, Err, count_by, Option, ◌==◌, nat_le, nat_lt, slice_index_or}
use Rattle.std.specs.Str.{bytes_eq}
use Rattle.money.specs.Ranges.{is_price, is_rate}
use Rattle.money.specs.declared.currency.Residency.TheVariants.{Resident}
use Rattle.kinds.specs.Quotations.{Reply}
use Rattle.aged.specs.Line.{held_by}
use Rattle.tally.specs.declared.rows.Identity.{Identity}
use Rattle.tally.specs.declared.rows.Account.{Account}
use Rattle.tally.specs.declared.rows.Trade.{Trade}
use Rattle.tally.specs.declared.rows.Lot.{Lot}
use Rattle.tally.specs.declared.rows.Notice.{Notice}
use Rattle.tally.specs.declared.refusal.Refusal.{Refusal}
use Rattle.tally.specs.declared.refusal.Refusal.TheVariants.{Closed, AccountsFull, Unidentifiable, Registered, Stranger, Unpriced, Uncounted, SheetFull, OverLimit, Uncovered, LastSession, LotsFull, Unquoted, OutsideWindow, NotShort, NoticesFull, NoneDue, NoticeDue, Unrated, PageShort, NotExpiring, NoFinalPrice}
use Rattle.tally.specs.Account.{long, short}
use Rattle.tally.specs.Book.{Terms, View, numbered}
use Rattle.tally.specs.Events.{Event, registering, trading, quoting, noticing, designating, marking, expiring}
use Rattle.tally.specs.Rows.{lot_counting, notice_counting}

pub record Question : Type 0 where
  pub met : Bool
  pub refusal : Refusal

-- the refusal of the first question that is not met
unfoldable pub first_unmet : List Question → Option Refusal
first_unmet [] = None
first_unmet (q ∷ qs) = cond q.met (first_unmet qs) (Some q.refusal)

abbrev pub ask : Bool → Refusal → Question
ask b r = record { met = b; refusal = r }

abbrev pub between : ℕ → ℕ → ℕ → Bool
between a b n = nat_le a n && nat_le n b

-- ---- building
-- the sessions and the notice window can be had: a window inside 1 to L − 1 where the kind delivers, and none where it does not
unfoldable pub is_buildable : Terms → Bool
is_buildable c = between 1 260 c.last && cond c.delivers (nat_le 1 c.opens && (nat_le c.opens c.closes && nat_lt c.closes c.last)) (c.opens == 0 && c.closes == 0)

-- ---- accounts
-- what account number k shows, and what a stranger would
abbrev pub nobody : Account
nobody = record { identity = record { customer = []; house = []; member = [] }; residency = Resident; carried = pos 0; bought = 0; sold = 0; total = pos 0 }

abbrev pub find : View → ℕ → Account
find v k = slice_index_or v.accounts (k - 1) nobody

abbrev pub registered : View → ℕ → Bool
registered v k = between 1 (length v.accounts) k

-- carried plus bought minus sold in the open session
abbrev pub net_of : Account → ℤ
net_of a = (a.carried +ℤ pos a.bought) -ℤ pos a.sold

-- what an account has under notice, due or not
unfoldable pub under_notice : ℕ → List Notice → ℕ
under_notice k ns = held_by notice_counting (λ n. n.seller) k ns

-- the contracts of an account's lots
unfoldable pub in_lots : ℕ → List Lot → ℕ
in_lots k ls = held_by lot_counting (λ l. l.owner) k ls

-- a capital letter or a digit
abbrev pub is_name_byte : ℕ → Bool
is_name_byte b = between 65 90 b || between 48 57 b

abbrev pub all_name_bytes : List ℕ → Bool
all_name_bytes [] = true
all_name_bytes (b ∷ bs) = is_name_byte b && all_name_bytes bs

abbrev pub is_name : Identity → Bool
is_name i = all_name_bytes i.customer && (all_name_bytes i.house && all_name_bytes i.member)

abbrev pub same_identity : Identity → Identity → Bool
same_identity i j = bytes_eq i.customer j.customer && (bytes_eq i.house j.house && bytes_eq i.member j.member)

-- no account has the identity
unfoldable pub is_new : Identity → List Account → Bool
is_new i [] = true
is_new i (a ∷ xs) = not (same_identity i a.identity) && is_new i xs

-- ---- trades
-- the account after a trade, which may be one of its sides
unfoldable pub traded_account : Trade → ℕ → Account → Account
traded_account t k a = record {
  identity = a.identity;
  residency = a.residency;
  carried = a.carried;
  bought = a.bought + cond (t.buyer == k) t.contracts 0;
  sold = a.sold + cond (t.seller == k) t.contracts 0;
  total = a.total;
}

-- no more than 3,000 contracts either way
abbrev pub at_most_3000 : ℤ → Bool
at_most_3000 z = nat_le (long z) 3000 && nat_le (short z) 3000

-- whether a marking would give the account a new lot
abbrev pub opens_lot : Account → Bool
opens_lot a = nat_lt (long a.carried) (long (net_of a))

-- ---- notices
-- the oldest notice is of an earlier session
abbrev pub is_due : ℕ → List Notice → Bool
is_due session [] = false
is_due session (n ∷ ns) = nat_lt n.session session

abbrev pub is_open : Terms → View → Question
is_open c v = ask (nat_le v.session c.last) Closed

-- the kind's own refusal is passed on
abbrev pub taken_by_kind : Reply → List Question
taken_by_kind (Ok _) = []
taken_by_kind (Err fault) = ask false (Unquoted fault) ∷ []

abbrev pub is_there : Option ℕ → Bool
is_there None = false
is_there (Some _) = true

-- ---- call by call
unfoldable pub questions : Terms → View → Event → List Question
questions c v (registering r) =
    is_open c v
    ∷ ask (nat_lt (length v.accounts) 64) AccountsFull
    ∷ ask (is_name r.identity) Unidentifiable
    ∷ ask (is_new r.identity v.accounts) Registered
    ∷ []
questions c v (trading t) =
    let b = find v t.buyer in
    let s = find v t.seller in
    let buyer_net = net_of b +ℤ pos t.contracts in
    let seller_net = net_of s -ℤ pos t.contracts in
    is_open c v
    ∷ ask (registered v t.buyer && (registered v t.seller && not (t.buyer == t.seller))) Stranger
    ∷ ask (is_price t.price && t.price % c.tick == 0) Unpriced
    ∷ ask (between 1 3000 t.contracts) Uncounted
    ∷ ask (nat_lt (length v.sheet) 1024) SheetFull
    ∷ ask (at_most_3000 buyer_net && (at_most_3000 seller_net && (nat_le (b.bought + t.contracts) 3000 && nat_le (s.sold + t.contracts) 3000))) OverLimit
    ∷ ask (nat_le (under_notice t.buyer v.notices) (short buyer_net)) Uncovered
    ∷ ask (not (v.session == c.last && c.delivers) || (short seller_net == 0 && (b.sold == 0 && s.bought == 0))) LastSession
    ∷ ask (nat_le (length v.lots + count_by opens_lot (numbered (traded_account t) 1 v.accounts)) 1024) LotsFull
    ∷ []
questions c v (quoting q reply) =
    ask (is_price q.price) Unpriced
    ∷ ask (between 1 3000 q.quantity) Uncounted
    ∷ taken_by_kind reply
questions c v (noticing n) =
    is_open c v
    ∷ ask (between c.opens c.closes v.session) OutsideWindow
    ∷ ask (registered v n.seller) Stranger
    ∷ ask (between 1 3000 n.contracts) Uncounted
    ∷ ask (nat_le (under_notice n.seller v.notices + n.contracts) (short (net_of (find v n.seller)))) NotShort
    ∷ ask (nat_lt (length v.notices) 64) NoticesFull
    ∷ []
questions c v designating = ask (is_due v.session v.notices) NoneDue ∷ []
questions c v (marking m room) =
    is_open c v
    ∷ ask (not (is_due v.session v.notices)) NoticeDue
    ∷ ask (is_price m.price) Unpriced
    ∷ ask (is_rate m.rate) Unrated
    ∷ ask (nat_le (length v.accounts) room) PageShort
    ∷ []
questions c v (expiring final room) =
    ask (not c.delivers && (v.session == c.last + 1 && not v.expired)) NotExpiring
    ∷ ask (is_there final) NoFinalPrice
    ∷ ask (nat_le (length v.accounts) room) PageShort
    ∷ []

-- why a call is turned down, if it is
abbrev pub verdict : Terms → View → Event → Option Refusal
verdict c v e = first_unmet (questions c v e)
