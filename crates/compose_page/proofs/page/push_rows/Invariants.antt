use Rattle.std.proofs.Common.{◌≡◌, ◌++◌, take, string_bytes}
use Rattle.compose_page.specs.Page.{rows_text}
use Rattle.compose_page.proofs.page.push_rows.Given as goal

abbrev pub invariant-loop-row : goal.invariant-loop-row
invariant-loop-row l = string_bytes l.text ≡ string_bytes l.fn.text ++ rows_text l.markup (take l.row-index l.rows)
