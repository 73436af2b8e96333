use Rattle.std.proofs.Common.{◌≡◌, map, take, string_bytes}
use Rattle.compose_lint.specs.Accepted.{listed_text}
use Rattle.compose_lint.proofs.accepted.listed_texts.Given as goal

abbrev pub invariant-loop-row : goal.invariant-loop-row
invariant-loop-row l = map (λ text. string_bytes text) l.texts.items ≡ map listed_text (take l.row-index l.rows)
