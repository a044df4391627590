-- Notices: what each seller has under notice, their order, and their contracts one by one.
use Rattle.std.proofs.Common.{◌≡◌, ℕ, ◌+◌, ◌-◌, ◌<◌, ◌≤◌, true, false, cond, eqb, ltb, leb, List, [], ◌∷◌, ◌++◌, length, replicate, sym, refl, ap, ◌∙◌, arith}
use Rattle.std.specs.List.{AllByRecursion}
use Rattle.std.proofs.lemmas.List.{append_assoc, replicate-append-replicate}
use Rattle.std.proofs.lemmas.Bool.{leb-true, lt-ltb}
use Rattle.aged.specs.Line.{every}
use Rattle.tally.specs.declared.rows.Notice.{Notice}
use Rattle.tally.specs.Law.{Registered}
use Rattle.tally.specs.Logs.{sellers}
use Rattle.tally.specs.Questions.{is_due, under_notice}
use Rattle.tally.specs.Rows.{notice_counting}
use Rattle.tally.specs.Steps.{less_oldest_notices}
use Rattle.tally.proofs.Aging.{all_left, no_longer, oldest_is, held_cons, held_push, held_first}

abbrev whose : Notice → ℕ
whose n = n.seller

same_seller : (x : Notice) (n : ℕ) → whose (notice_counting.recount x n) ≡ whose x
same_seller x n = refl

pub notices_push : (k : ℕ) (ns : List Notice) (n : Notice) → under_notice k (ns ++ n ∷ []) ≡ under_notice k ns + cond (eqb n.seller k) n.count 0
unfolding under_notice
notices_push k ns n = held_push notice_counting whose same_seller k ns n

pub notices_first : (k m : ℕ) (n : Notice) (ns : List Notice) → 1 ≤ n.count → m ≤ n.count → under_notice k (less_oldest_notices m (n ∷ ns)) + cond (eqb n.seller k) m 0 ≡ under_notice k (n ∷ ns)
unfolding under_notice less_oldest_notices
notices_first k m n ns some le = held_first notice_counting whose same_seller k m n ns some le

pub notices_cons : (k : ℕ) (n : Notice) (ns : List Notice) → under_notice k (n ∷ ns) ≡ cond (eqb n.seller k) n.count 0 + under_notice k ns
unfolding under_notice
notices_cons k n ns = held_cons notice_counting whose same_seller k n ns

pub none_under_notice : (k : ℕ) → under_notice k [] ≡ 0
unfolding under_notice
none_under_notice k = refl

-- the oldest notice, split or gone
pub less_is : (m : ℕ) (n : Notice) (ns : List Notice) → 1 ≤ n.count → m ≤ n.count → less_oldest_notices m (n ∷ ns) ≡ cond (leb n.count m) ns (notice_counting.recount n (n.count - m) ∷ ns)
unfolding less_oldest_notices
less_is m n ns some le = oldest_is notice_counting m n ns some le

module _ (P : Notice → Type 0) (stays : (n : Notice) (m : ℕ) → 1 ≤ m → m ≤ n.count → P n → P (notice_counting.recount n m)) where
  pub all_less_notices : (m : ℕ) (ns : List Notice) → AllByRecursion P ns → AllByRecursion P (less_oldest_notices m ns)
  unfolding less_oldest_notices
  all_less_notices m ns h = all_left notice_counting every P stays m ns h

pub length_less_notices : (m : ℕ) (ns : List Notice) → length (less_oldest_notices m ns) ≤ length ns
unfolding less_oldest_notices
length_less_notices m ns = no_longer notice_counting every m ns

-- ---- order: sessions rise from lo to hi at most, and no notice is empty
abbrev pub Ordered : ℕ → ℕ → List Notice → Type 0
Ordered lo hi [] = Unit
Ordered lo hi (n ∷ ns) = (lo ≤ n.session) × (n.session ≤ hi) × (1 ≤ n.count) × Ordered n.session hi ns

pub ordered_push : (lo hi : ℕ) (ns : List Notice) (n : Notice) → lo ≤ hi → 1 ≤ n.count → n.session ≡ hi → Ordered lo hi ns → Ordered lo hi (ns ++ n ∷ [])
ordered_push lo hi [] n le some e o = (omega arith, omega arith, some, tt)
ordered_push lo hi (x ∷ ns) n le some e o = (o.0, o.1, o.2, ordered_push x.session hi ns n o.1 some e o.3)

pub ordered_later : (lo hi h : ℕ) (ns : List Notice) → hi ≤ h → Ordered lo hi ns → Ordered lo h ns
ordered_later lo hi h [] le o = tt
ordered_later lo hi h (n ∷ ns) le o = grind (arith, ordered_later n.session hi h ns le o.3)

ordered_from : (lo l hi : ℕ) (ns : List Notice) → l ≤ lo → Ordered lo hi ns → Ordered l hi ns
ordered_from lo l hi [] le o = tt
ordered_from lo l hi (n ∷ ns) le o = (omega arith, o.1, o.2, o.3)

pub ordered_less : (lo hi m : ℕ) (n : Notice) (ns : List Notice) → m ≤ n.count → Ordered lo hi (n ∷ ns) → Ordered lo hi (less_oldest_notices m (n ∷ ns))
ordered_less lo hi m n ns le o = grind (arith, less_is, ordered_from)

ordered_same : (lo hi : ℕ) (ns : List Notice) → hi ≤ lo → Ordered lo hi ns → AllByRecursion (λ n. n.session ≡ hi) ns
ordered_same lo hi [] le o = tt
ordered_same lo hi (n ∷ ns) le o = (omega arith, ordered_same n.session hi ns (omega arith) o.3)

pub ordered_undue : (lo hi : ℕ) (ns : List Notice) → is_due hi ns ≡ false → Ordered lo hi ns → AllByRecursion (λ n. n.session ≡ hi) ns
ordered_undue lo hi [] e o = tt
ordered_undue lo hi (n ∷ ns) e o = grind (arith, ordered_same)

-- ---- what a seller has under notice since before a session
unfoldable pub due : ℕ → ℕ → List Notice → ℕ
due s k [] = 0
due s k (n ∷ ns) = cond (eqb n.seller k) (cond (ltb n.session s) n.count 0) 0 + due s k ns

pub due_all : (lo hi k : ℕ) (ns : List Notice) → Ordered lo hi ns → due (hi + 1) k ns ≡ under_notice k ns
unfolding due
due_all lo hi k [] o = sym (none_under_notice k)
due_all lo hi k (n ∷ ns) o = let a = due_all n.session hi k ns o.3 in let b = notices_cons k n ns in let d = lt-ltb n.session (hi + 1) (omega arith) in
    omega (arith, a, b, ap (λ t. cond (eqb n.seller k) (cond t n.count 0) 0) d)

pub due_push : (k s : ℕ) (ns : List Notice) (n : Notice) → n.session ≡ s → due s k (ns ++ n ∷ []) ≡ due s k ns
unfolding due
due_push k s [] n e = grind arith
due_push k s (x ∷ ns) n e = let a = due_push k s ns n e in grind arith

pub due_first : (k s m : ℕ) (n : Notice) (ns : List Notice) → 1 ≤ n.count → m ≤ n.count → n.session < s → due s k (less_oldest_notices m (n ∷ ns)) + cond (eqb n.seller k) m 0 ≡ due s k (n ∷ ns)
unfolding due
due_first k s m n ns some le lt = rw (less_is m n ns some le) (grind arith)

pub under_stranger : (n k : ℕ) (ns : List Notice) → n < k → AllByRecursion (λ x. Registered n x.seller) ns → under_notice k ns ≡ 0
under_stranger n k [] lt h = none_under_notice k
under_stranger n k (x ∷ ns) lt h = grind (arith, notices_cons, under_stranger n k ns lt h.1)

-- ---- contract by contract
pub sellers_append : (xs ys : List Notice) → sellers (xs ++ ys) ≡ sellers xs ++ sellers ys
unfolding sellers
sellers_append [] ys = refl
sellers_append (x ∷ xs) ys = grind (arith, append_assoc, sellers_append xs ys)

-- what is taken from the oldest notice stood before what is left
pub sellers_first : (m : ℕ) (n : Notice) (ns : List Notice) → 1 ≤ n.count → m ≤ n.count → sellers (n ∷ ns) ≡ replicate m n.seller ++ sellers (less_oldest_notices m (n ∷ ns))
unfolding sellers
sellers_first m n ns some le =
    let k = n.seller in
    rw (less_is m n ns some le) (
    elim (leb n.count m) as (λ b. leb n.count m ≡ b → replicate n.count k ++ sellers ns ≡ replicate m k ++ sellers (cond b ns (notice_counting.recount n (n.count - m) ∷ ns))) [
      | true ↦ λ e. let h : n.count ≡ m = omega (arith, leb-true n.count m e) in ap (λ i. replicate i k ++ sellers ns) h
      | false ↦ λ e. let h : n.count ≡ m + (n.count - m) = omega arith in
          ap (λ i. replicate i k ++ sellers ns) h ∙ ap (λ l. l ++ sellers ns) (sym (replicate-append-replicate m (n.count - m) k)) ∙ append_assoc (replicate m k) (replicate (n.count - m) k) (sellers ns)
    ] refl)
