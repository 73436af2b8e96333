use Rattle.std.proofs.Common.{◌≡◌, take}
use Rattle.compose_page.specs.Sections as words
use Rattle.compose_page.proofs.section.rows_in.Given as goal

abbrev pub invariant-loop-row : goal.invariant-loop-row
invariant-loop-row l = l.its.items ≡ words.rows_in l.section (take l.row-index l.rows)
