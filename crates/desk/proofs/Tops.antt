-- The top of what was written.
use Rattle.std.proofs.Common.{◌≡◌, ℕ, ◌≤◌, List, ◌++◌, length, take, ◌∙◌, arith}
use Rattle.std.proofs.lemmas.List.{take-take, take-append-le}
use Rattle.text.specs.Puts.{Put}

pub top_put : (was text out rest : List ℕ) (len end : ℕ) → length was ≤ len → length out ≡ length was → Put was 0 text out end → take end (take len (out ++ rest)) ≡ text
top_put was text out rest len end few same p =
    take-take end len (out ++ rest) (omega (arith, p.fits)) ∙ take-append-le end out rest (omega (arith, p.fits)) ∙ p.front
