-- A sending, call by call.
use Rattle.std.proofs.lemmas.Grind.{common_steps}
use Rattle.std.proofs.Common.{◌≡◌, ℕ, ◌+◌, ◌-◌, ◌<◌, ◌≤◌, min, List, [], ◌∷◌, ◌++◌, length, take, drop, set, sym, ap, ◌∙◌, subst, arith}
use borrow.Rule.Slice.PartMut.{put_mid}
use Rattle.std.proofs.lemmas.List.{append_assoc, append-nil, take_all, take_more_set, drop-drop, take_at, drop_at, drop_all, length-append, length-take-le, length-drop}
use Rattle.kinds.specs.Meaning.{Meaning}
use Rattle.tally.specs.Answers.{Answer}
use Rattle.tally.specs.declared.call.Call.{Call}
use Rattle.tally.specs.declared.rows.PageRow.{PageRow}
use Rattle.tally.specs.Events.{Request}
use Rattle.ledger.specs.Told.{over}
use Rattle.contract_book.specs.Sendings.{Sent}
use Rattle.contract_book.specs.Stands.{Stand, answer_to, answers, asked, next, pages, rows_to, sharing, stands}
use Rattle.contract_book.proofs.Histories.{answers_append, answers_push, pages_append, pages_push, stands_append, stands_push}
use Rattle.contract_book.proofs.Paying.{rows_fit}

-- so many calls were sent, and their pages have so many rows
pub record Going {K : Type 0} (m : Meaning K) (s : Stand K) (calls : List Call) (log₀ log₁ : List Answer) (pages₀ pages₁ : List PageRow) (t : Stand K) (n rows : ℕ) : Type 0 where
  pub leads : t ≡ stands m s (sharing m s (length pages₀) calls)
  pub logged : take n log₁ ≡ answers m s (sharing m s (length pages₀) calls)
  pub unlogged : drop n log₁ ≡ drop n log₀
  pub counted : rows ≡ length (pages m s (sharing m s (length pages₀) calls))
  pub inside : rows ≤ length pages₀
  pub paged : take rows pages₁ ≡ pages m s (sharing m s (length pages₀) calls)
  pub unpaged : drop rows pages₁ ≡ drop rows pages₀

-- what lies past a place lies past any later one
past : {X : Type 0} (xs ys : List X) (a k b : ℕ) → a + k ≡ b → drop a xs ≡ drop a ys → drop b xs ≡ drop b ys
past xs ys a k b s h = subst (λ n. drop n xs ≡ drop n ys) s (sym (drop-drop k a xs) ∙ ap (drop k) h ∙ drop-drop k a ys)

-- a page in what is left of the rows
whole : {X : Type 0} (xs ys : List X) (a : ℕ) → put_mid a (length xs - a) xs ys ≡ take a xs ++ ys
whole xs ys a = grind (arith, length-drop, drop_all, append-nil)

-- rows written over what is left: those before them and those behind them stay
record Filled (before now_has page : List PageRow) (used n : ℕ) : Type 0 where
  upto : take (used + n) now_has ≡ take used before ++ page
  behind : drop (used + n) now_has ≡ drop (used + n) before

filled : (xs part₀ part page : List PageRow) (used n : ℕ) → used ≤ length xs → part₀ ≡ drop used xs → part ≡ over page part₀ → n ≡ length page → Filled xs (put_mid used (length xs - used) xs part) page used n
filled xs part₀ part page used n l e f count =
    let front = take used xs in
    let back = drop n (drop used xs) in
    let out : put_mid used (length xs - used) xs part ≡ (front ++ page) ++ back =
    whole xs part used ∙ ap (λ t. front ++ t) (f ∙ ap (λ k. page ++ drop k part₀) (sym count) ∙ ap (λ t. page ++ drop n t) e) ∙ sym (append_assoc front page back) in
    let long : length (front ++ page) ≡ used + n = omega (arith, length-append front page, length-take-le used xs l, count) in
    record {
      upto = grind (arith, take_at);
      behind = grind (arith, drop_at, drop-drop);
    }

module _ {K : Type 0} (m : Meaning K) where
  pub going_none : (s : Stand K) (log : List Answer) (rows : List PageRow) → Going m s [] log log rows rows s 0 0
  unfolding stands answers pages sharing
  going_none s log rows = grind arith

  -- one call more has what is left of the rows
  sharing_push : (s : Stand K) (n : ℕ) (xs : List Call) (x : Call) → sharing m s n (xs ++ x ∷ []) ≡ sharing m s n xs ++ asked x (n - length (pages m s (sharing m s n xs))) ∷ []
  unfolding sharing pages
  sharing_push s n [] x = ap (λ k. asked x k ∷ []) (omega arith)
  sharing_push s n (b ∷ xs) x =
      let r = asked b n in
      let rest = sharing m (next m s r) (n - length (rows_to m s r)) xs in
      let l = length-append (rows_to m s r) (pages m (next m s r) rest) in
      ap (λ t. r ∷ t) (sharing_push (next m s r) (n - length (rows_to m s r)) xs x) ∙ ap (λ k. r ∷ (rest ++ asked x k ∷ [])) (omega arith)

  pub going_more : (s : Stand K) (calls calls' : List Call) (x : Call) (log₀ log₁ : List Answer) (pages₀ pages₁ : List PageRow) (t : Stand K) (i used : ℕ) (a : Answer) (u : Stand K) (part₀ part : List PageRow) (n : ℕ) →
      Going m s calls log₀ log₁ pages₀ pages₁ t i used → calls' ≡ calls ++ x ∷ [] → i < length log₁ → length pages₁ ≡ length pages₀ → part₀ ≡ drop used pages₁ →
      a ≡ answer_to m t (asked x (length part₀)) → u ≡ next m t (asked x (length part₀)) →
      part ≡ over (rows_to m t (asked x (length part₀))) part₀ → n ≡ length (rows_to m t (asked x (length part₀))) →
      Going m s calls' log₀ (set log₁ i a) pages₀ (put_mid used (length pages₁ - used) pages₁ part) u (i + 1) (used + n)
  going_more s calls calls' x log₀ log₁ pages₀ pages₁ t i used a u part₀ part n g ec ll lr ep ea eu ew en =
      let r = asked x (length part₀) in
      let room = length pages₀ in
      let h = sharing m s room calls in
      let left : length part₀ ≡ length pages₁ - used = ap length ep ∙ length-drop used pages₁ in
      let same : room - length (pages m s h) ≡ length part₀ = omega (arith, left, lr, g.counted) in
      let more : sharing m s room calls' ≡ h ++ r ∷ [] = ap (sharing m s room) ec ∙ sharing_push s room calls x ∙ ap (λ k. h ++ asked x k ∷ []) same in
      let f = filled pages₁ part₀ part (rows_to m t r) used n (omega (arith, lr, g.inside)) ep ew en in
      let wide : pages m s h ++ rows_to m t r ≡ pages m s (sharing m s room calls') =
      ap (λ z. pages m s h ++ rows_to m z r) g.leads ∙ sym (ap (pages m s) more ∙ pages_push m s h r) in
      record {
        leads = grind (arith, stands_push);
        logged = grind (arith, take_more_set, answers_push);
        unlogged = grind (arith, common_steps);
        counted = grind (arith, length-append);
        inside = grind (arith, rows_fit);
        paged = f.upto ∙ ap (λ z. z ++ rows_to m t r) g.paged ∙ wide;
        unpaged = grind (arith, common_steps);
      }

  -- after any history
  pub sent : (s₀ s : Stand K) (h : List Request) (calls : List Call) (log₀ log₁ : List Answer) (pages₀ pages₁ : List PageRow) (t : Stand K) (i n rows : ℕ) →
      s ≡ stands m s₀ h → Going m s (take i (take n calls)) log₀ log₁ pages₀ pages₁ t i rows → i ≡ length (take n calls) → n ≡ min (length calls) (length log₀) → Sent m s₀ s h calls log₀ log₁ pages₀ pages₁ t n rows
  sent s₀ s h calls log₀ log₁ pages₀ pages₁ t i n rows e going all count = grind (arith, length-take-le, take_all, stands_append, answers_append, pages_append)
