-- Text that is put into a slice of bytes at a place.
use Rattle.std.specs.Prelude.{◌≡◌, ℕ, ◌+◌, ◌<◌, ◌≤◌, List, ◌++◌, length, take, drop, Some, None, Option}

-- the slice is what it was, but for the text, which stands from one place to another
pub record Put (was : List ℕ) (at : ℕ) (text out : List ℕ) (end : ℕ) : Type 0 where
  pub ends : end ≡ at + length text
  pub fits : end ≤ length was
  pub front : take end out ≡ take at was ++ text
  pub rest : drop end out ≡ drop end was

-- the text was put, and the answer is where it ends; or it does not fit
abbrev pub Puts : List ℕ → ℕ → List ℕ → List ℕ → Option ℕ → Type 0
Puts was at text out None = length was < at + length text
Puts was at text out (Some end) = Put was at text out end
