-- If no line accepts anything, all findings are left.
use Rattle.std.proofs.Common.{◌≡◌, List, [], ◌∷◌, not, length, refl, ap}
use Rattle.std.specs.Prelude.{Ok, filter}
use Rattle.compose_diff.specs.Accepted.{Line}
use Rattle.compose_lint.specs.Rows.{Row}
use Rattle.compose_lint.specs.Accepted.{is_accepted, left_of}

all_left : (rows : List Row) → filter (λ row. not (is_accepted [] row)) rows ≡ rows
all_left [] = refl
all_left (row ∷ rows) = ap (λ rs. row ∷ rs) (all_left rows)

pub nothing_accepted : (lines : List Line) (rows : List Row) → length lines ≡ 0 → left_of lines rows ≡ Ok rows
nothing_accepted [] rows none = ap (λ (rs : List Row). Ok rs) (all_left rows)
nothing_accepted (line ∷ lines) rows none = cc
