-- What it means for the people who type that a service takes a table beside the one in use.
use Rattle.std.specs.Prelude.{◌≡◌, ℕ, List, Some, Ok}
use Rattle.compose_answer.specs.Parts.{Needs, make_parts}
use Rattle.compose_bundle.specs.Bundle.{Bundle, IsBundle}
use Rattle.compose_merging.specs.Merges.{AnswersMerge}
use Rattle.compose_merging.specs.declared.asking.Merging.{Merging}
use Rattle.compose_model.specs.Follows.{Follows}
use Rattle.compose_runs.specs.Updating.{update_given}
use Rattle.compose_runs.specs.declared.updating.UpdateFiles.{UpdateFiles}
use Rattle.compose_update.specs.Update.{move_from}
use Rattle.compose_service_runs.specs.Merged.{HasTable, merge_asked, sources_merged}

-- the table of these files follows the one in use, which has this payload, on keys without these
-- fresh ones; both are read by the names of the files
pub record FollowsInUse (files : UpdateFiles) (fresh : List (List ℕ)) (payload : List ℕ) : Type 0 where
  pub in_use : Bundle
  pub is : IsBundle payload in_use
  pub needs : Needs
  pub read : make_parts (move_from (update_given files fresh (Some in_use.sources)) in_use.sources) files.repertoire.items ≡ Ok needs
  pub follows : Follows needs.move.names needs.fresh needs.move.old needs.move.new

-- so does the table that the merge of both gives
pub record MergeFollows (files : UpdateFiles) (fresh : List (List ℕ)) (payload : List ℕ) : Type 0 where
  pub old : Bundle
  pub in_use : IsBundle payload old
  pub merging : Merging
  pub merges : AnswersMerge (merge_asked files fresh old.sources) (Ok merging)
  pub merged : UpdateFiles
  pub has : HasTable (sources_merged old.sources files.new.sources merging) files merged
  pub follows : FollowsInUse merged fresh payload
