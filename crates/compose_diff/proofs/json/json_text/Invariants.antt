use Rattle.std.proofs.Common.{◌≡◌, take, string_bytes}
use Rattle.compose_diff.specs.Json.{json_rows}
use Rattle.compose_diff.proofs.json.json_text.Given as goal

abbrev pub invariant-loop-row : goal.invariant-loop-row
invariant-loop-row l = string_bytes l.text ≡ json_rows (take l.row-index l.rows)
