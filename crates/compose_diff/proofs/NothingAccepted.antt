-- If no change is intended, all rows are left.
use Rattle.std.proofs.Common.{◌≡◌, List, [], ◌∷◌, Bool, true, false, ◌&&◌, not, cond, length, refl, ap}
use Rattle.std.specs.Prelude.{Ok, filter}
use Rattle.compose_compare.specs.Change.{is_harmless}
use Rattle.compose_diff.specs.declared.row.DiffRow.{DiffRow}
use Rattle.compose_diff.specs.Accepted.{Line, is_accepted, left_of}

all_left : (rows : List DiffRow) → filter (λ row. not (is_accepted [] row)) rows ≡ rows
all_left [] = refl
all_left (row ∷ rows) = go (is_harmless row.change) (all_left rows)
  where
    rest : List DiffRow
    rest = filter (λ r. not (is_accepted [] r)) rows

    go : (harmless : Bool) → rest ≡ rows → cond (not (not harmless && false)) (row ∷ rest) rest ≡ row ∷ rows
    go true h = ap (λ rs. row ∷ rs) h
    go false h = ap (λ rs. row ∷ rs) h

pub nothing_accepted : (lines : List Line) (rows : List DiffRow) → length lines ≡ 0 → left_of lines rows ≡ Ok rows
nothing_accepted [] rows h = ap (λ rs. Ok rs) (all_left rows)
nothing_accepted (line ∷ lines) rows h = cc
