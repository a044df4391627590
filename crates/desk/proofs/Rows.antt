-- The lines of a page, one after the other.
use Rattle.std.proofs.Common.{◌≡◌, ℕ, ◌+◌, ◌<◌, ◌≤◌, List, ◌++◌, length, get_or, drop, refl, ap, ◌∙◌, append_assoc}
use Rattle.std.specs.List.{flat_map}
use Rattle.std.proofs.lemmas.List.{drop_all, drop_more}
use Rattle.tally.specs.Book.{numbered}
use Rattle.tally.specs.declared.rows.PageRow.{PageRow}
use Rattle.tally.specs.declared.rows.Sums.{Sums}
use Rattle.desk.specs.Lines.{page_text, row_line, rows_text, totals_line}

module _ (session : ℕ) (rows : List PageRow) (sums : Sums) where
  -- the lines of some rows, the first of them with a number, and of what the page comes to
  abbrev lines_of : ℕ → List PageRow → List ℕ
  lines_of n left = flat_map (λ line. line) (numbered (row_line session) n left) ++ totals_line session sums

  -- the lines from a row on
  abbrev pub page_from : ℕ → List ℕ
  page_from i = lines_of (i + 1) (drop i rows)

  pub page_starts : page_text session rows sums ≡ page_from 0
  unfolding rows_text
  page_starts = refl

  pub page_goes_on : (i : ℕ) (d : PageRow) → i < length rows → page_from i ≡ row_line session (i + 1) (get_or rows i d) ++ page_from (i + 1)
  unfolding numbered
  page_goes_on i d h = ap (lines_of (i + 1)) (drop_more rows i d h) ∙ append_assoc (row_line session (i + 1) (get_or rows i d)) _ (totals_line session sums)

  pub page_ends : (i : ℕ) → length rows ≤ i → page_from i ≡ totals_line session sums
  unfolding numbered
  page_ends i h = ap (lines_of (i + 1)) (drop_all i rows h)
