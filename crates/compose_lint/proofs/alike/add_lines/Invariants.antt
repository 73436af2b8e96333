use Rattle.std.proofs.Common.{◌≡◌, ℕ, List, take}
use Rattle.std.specs.Option.{option_or}
use Rattle.indexmap.specs.IndexMap.{get_by_text}
use Rattle.compose_lint.specs.Alike.{form_place}
use Rattle.compose_lint.proofs.alike.add_lines.Given as goal

-- the places of the lines so far are added
abbrev pub invariant-loop-line : goal.invariant-loop-line
invariant-loop-line l = (q : List ℕ) → get_by_text l.places q ≡ option_or (get_by_text l.fn.places q) (form_place (take l.line-index l.lines) q)
