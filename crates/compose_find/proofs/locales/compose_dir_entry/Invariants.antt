use Rattle.std.proofs.Common.{◌≡◌, length}
use Rattle.compose_find.specs.Locales.{compose_dir_entry}
use Rattle.compose_find.proofs.locales.compose_dir_entry.Given as goal

-- the remaining lines have the same entry for it as all lines
abbrev pub invariant-loop-line : goal.invariant-loop-line
invariant-loop-line l = compose_dir_entry l.rest l.locale ≡ compose_dir_entry l.compose_dir l.locale

abbrev pub decreases-loop-line : goal.decreases-loop-line
decreases-loop-line l = length l.rest
