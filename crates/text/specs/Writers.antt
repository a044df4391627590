-- What a writer has written.
use Rattle.std.specs.Prelude.{◌≡◌, ℕ, ◌+◌, ◌<◌, List, ◌++◌, length, Ok, Err, Result}
use Rattle.text.specs.declared.writer.Full.{Full}
use Rattle.text.specs.declared.writer.Writer.{Writer}
use Rattle.std.specs.Borrow.{MutBor}
use Rattle.text.specs.Puts.{Put}

-- a writer over this slice, with the text still to begin at a place
pub record Begins (out : MutBor (List ℕ)) (at : ℕ) (w : Writer) : Type 0 where
  pub same : w.out.ghost_name ≡ out.ghost_name
  pub bytes : w.out.now ≡ out.now
  pub starts : w.at ≡ at

-- the text stands behind what was written before, in the same slice
pub record Wrote (old : Writer) (text : List ℕ) (new : Writer) : Type 0 where
  pub same : new.out.ghost_name ≡ old.out.ghost_name
  pub put : Put old.out.now old.at text new.out.now new.at

-- the text does not fit behind what was written before; the slice is the same, of the same length
pub record Overflows (old : Writer) (text : List ℕ) (new : Writer) : Type 0 where
  pub same : new.out.ghost_name ≡ old.out.ghost_name
  pub long : length old.out.now < old.at + length text
  pub keeps : length new.out.now ≡ length old.out.now

-- the text was written, or it does not fit
abbrev pub Writes : Writer → List ℕ → Writer → Result (Unit {0}) Full → Type 0
Writes old text new (Err full) = Overflows old text new
Writes old text new (Ok done) = Wrote old text new

-- of a whole text so much was written, and the rest is still to come
pub record Progress (old : Writer) (whole : List ℕ) (new : Writer) (rest : List ℕ) : Type 0 where
  pub text : List ℕ
  pub wrote : Wrote old text new
  pub joins : text ++ rest ≡ whole
