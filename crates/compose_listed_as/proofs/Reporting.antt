-- The lines of what isn't taken.
use Rattle.std.proofs.Common.{◌≡◌, ◌∙◌, ap, sym, List, Bor, map, take}
use Rattle.std.specs.Prelude.{flat_map}
use Rattle.std.specs.List.{take-map}
use Rattle.std.proofs.lemmas.List.Folds.{flat_map-map}
use Rattle.compose_readers.specs.Files.{FileRead}
use Rattle.compose_listed_as.specs.Judged.{Judged, others}
use Rattle.compose_listed_as.specs.Report.{other_line, first_lines}

module _ (files : List FileRead) (all : List Judged) where
  -- the lines of the first of them
  pub lines_first : (js : List (Bor Judged)) → map (λ j. j.now) js ≡ others all → flat_map (λ j. other_line files all j.now) (take 20 js) ≡ first_lines files all
  lines_first js are =
      let now : Bor Judged → Judged = λ j. j.now in
      sym (flat_map-map (other_line files all) now (take 20 js)) ∙ ap (flat_map (other_line files all)) (sym (take-map now 20 js) ∙ ap (take 20) are)
