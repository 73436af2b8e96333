use Rattle.std.proofs.Common.{◌≡◌, ℕ, List, take}
use Rattle.indexmap.specs.IndexMap.{get_by_text}
use Rattle.compose_lint.specs.Lines.{all_lines}
use Rattle.compose_lint.specs.Alike.{form_place}
use Rattle.compose_lint.proofs.alike.form_places.Given as goal

-- the places of the files so far
abbrev pub invariant-loop-file : goal.invariant-loop-file
invariant-loop-file l = (q : List ℕ) → get_by_text l.places q ≡ form_place (all_lines (take l.file-index l.files)) q
