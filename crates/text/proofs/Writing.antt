-- Texts written one after the other.
use Rattle.std.proofs.Common.{◌≡◌, ℕ, ◌+◌, ◌-◌, ◌≤◌, List, [], ◌++◌, length, take, drop, Ok, Err, Result, sym, refl, ap, ◌∙◌, subst, append_assoc, append-nil, arith}
use Rattle.std.proofs.lemmas.List.{drop-drop, length-append, length-drop, length-take}
use Rattle.std.specs.Result.{IsErr}
use Rattle.text.specs.declared.writer.Full.{Full}
use Rattle.text.specs.declared.writer.Writer.{Writer}
use Rattle.std.specs.Prelude.{ℤ, pos, ◌<ℤ◌, codes, decimal}
use Rattle.std.specs.Fmt.{signed_decimal}
use Rattle.std.proofs.Common.{nat_abs, negsuc}
use Rattle.std.proofs.lemmas.Int.{ints}
use Rattle.text.specs.declared.pieces.Piece.{Piece}
use Rattle.text.specs.declared.pieces.Piece.TheVariants.{Amount}
use Rattle.text.specs.Pieces.{piece_text}
use Rattle.text.specs.Puts.{Put}
use Rattle.text.specs.Writers.{Overflows, Progress, Writes, Wrote}

-- what lies past a place lies past any later one
past : (xs ys : List ℕ) (e f : ℕ) → e ≤ f → drop e xs ≡ drop e ys → drop f xs ≡ drop f ys
past xs ys e f le h =
    let k : e + (f - e) ≡ f = omega arith in
    ap (λ n. drop n xs) (sym k) ∙ sym (drop-drop (f - e) e xs) ∙ ap (drop (f - e)) h ∙ drop-drop (f - e) e ys ∙ ap (λ n. drop n ys) k

-- the slice keeps its length
put_length : {was text out : List ℕ} {at end : ℕ} → at ≤ length was → Put was at text out end → length out ≡ length was
put_length {was} {text} {out} {at} {end} le p =
    omega (arith, p.ends, p.fits, ap length p.front, ap length p.rest, length-take end out, length-take at was, length-append (take at was) text, length-drop end out, length-drop end was)

-- nothing, and one text behind another
pub wrote_none : (w : Writer) → Wrote w [] w
wrote_none w = record { same = refl; put = record { ends = omega arith; fits = w.within; front = sym (append-nil (take w.at w.out.now)); rest = refl } }

module _ {a b : Writer} {s : List ℕ} (first : Wrote a s b) where
  pub wrote_then : {c : Writer} {t : List ℕ} → Wrote b t c → Wrote a (s ++ t) c
  wrote_then {c} {t} next =
      let p = first.put in
      let q = next.put in
      record {
        same = next.same ∙ first.same;
        put = record {
          ends = omega (arith, p.ends, q.ends, length-append s t);
          fits = omega (arith, q.fits, put_length a.within p);
          front = q.front ∙ ap (λ x. x ++ t) p.front ∙ append_assoc (take a.at a.out.now) s t;
          rest = q.rest ∙ past b.out.now a.out.now b.at c.at (omega (arith, q.ends)) p.rest;
        };
      }

  pub overflows_then : {c : Writer} {t : List ℕ} → Overflows b t c → Overflows a (s ++ t) c
  overflows_then {c} {t} h = record {
    same = h.same ∙ first.same;
    long = omega (arith, first.put.ends, put_length a.within first.put, length-append s t, h.long);
    keeps = h.keeps ∙ put_length a.within first.put;
  }

  pub writes_then : (c : Writer) (t : List ℕ) (r : Result (Unit {0}) Full) → Writes b t c r → Writes a (s ++ t) c r
  writes_then c t (Err full) h = overflows_then h
  writes_then c t (Ok done) h = wrote_then h

-- where the front of a text does not fit, the whole does not
pub overflows_front : {w v : Writer} {s : List ℕ} (t : List ℕ) → Overflows w s v → Overflows w (s ++ t) v
overflows_front {w} {v} {s} t h = record { same = h.same; long = omega (arith, h.long, length-append s t); keeps = h.keeps }

-- where a `?` hands on that a text does not fit
pub handed_on : {old new : Writer} {text : List ℕ} (r : Result (Unit {0}) Full) → IsErr r → Overflows old text new → Writes old text new r
handed_on (Ok done) e h = cc
handed_on (Err full) e h = h

-- nothing of a whole text yet
pub begun : (w : Writer) (whole : List ℕ) → Progress w whole w whole
begun w whole = record { text = []; wrote = wrote_none w; joins = refl }

module _ {old mid : Writer} {whole left : List ℕ} (p : Progress old whole mid left) where
  -- the same rest in other words
  pub retold : {rest : List ℕ} → left ≡ rest → Progress old whole mid rest
  retold e = record { text = p.text; wrote = p.wrote; joins = ap (λ t. p.text ++ t) (sym e) ∙ p.joins }

  -- one piece more
  pub grown : {new : Writer} {piece rest : List ℕ} → left ≡ piece ++ rest → Wrote mid piece new → Progress old whole new rest
  grown {new} {piece} {rest} cut w = record {
    text = p.text ++ piece;
    wrote = wrote_then p.wrote w;
    joins = append_assoc p.text piece rest ∙ ap (λ t. p.text ++ t) (sym cut) ∙ p.joins;
  }

  -- the rest in one piece
  pub finished : (new : Writer) (r : Result (Unit {0}) Full) → Writes mid left new r → Writes old whole new r
  finished new r w = subst (λ t. Writes old t new r) p.joins (writes_then p.wrote new left r w)

  -- where a piece does not fit, the whole does not
  pub too_long : {new : Writer} {piece : List ℕ} (rest : List ℕ) → left ≡ piece ++ rest → Overflows mid piece new → Overflows old whole new
  too_long {new} {piece} rest cut short =
      finished new (Err (record {})) (subst (λ t. Overflows mid t new) (sym cut) (overflows_front rest short))

  -- nothing more to come
  pub all_written : left ≡ [] → Wrote old whole mid
  all_written e = finished mid (Ok tt) (subst (λ t. Wrote mid t mid) (sym e) (wrote_none mid))

-- a debit's sign, and its digits behind it
signed_down : (z : ℤ) → z <ℤ pos 0 → signed_decimal z ≡ codes "-" ++ decimal (nat_abs z)
signed_down (pos n) h = absurd (omega (arith, ints))
signed_down (negsuc n) h = refl

-- an amount whose sign and digits are written apart
pub debit_then : {a b : Writer} {p : Piece} {z : ℤ} (c : Writer) (r : Result (Unit {0}) Full) → p ≡ Amount z → z <ℤ pos 0 → Wrote a (codes "-") b → Writes b (decimal (nat_abs z)) c r → Writes a (piece_text p) c r
debit_then {a} {b} {p} {z} c r e h first next =
    subst (λ q. Writes a (piece_text q) c r) (sym e) (subst (λ t. Writes a t c r) (sym (signed_down z h)) (writes_then first c _ r next))
