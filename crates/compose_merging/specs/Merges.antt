-- What a merge gives on the sources of two tables (this project's profile).
use Rattle.std.specs.Prelude.{◌≡◌, ◌<◌, ◌⊎◌, ℕ, List, [], map, filter, length, Result, Ok, Err, string_bytes}
use Rattle.keysym_core.specs.Names.{KeysymNames}
use Rattle.compose_model.specs.Table.{Definition}
use Rattle.compose_model.specs.Nodes.{nodes}
use Rattle.compose_read.specs.Read.{max_definitions}
use Rattle.compose_tree.specs.Targets.{max_nodes}
use Rattle.compose_migration.specs.Migration.{GivenMigration}
use Rattle.compose_migration.specs.Refused.{IsRefused}
use Rattle.compose_migration.specs.Values.{given_of}
use Rattle.compose_migration.specs.declared.refusal.Refusal.TheVariants as refusals
use Rattle.compose_answer.specs.Parts.{Explainable}
use Rattle.compose_diff_rows.specs.Answers.{compared_parts, written_in}
use Rattle.compose_diff_rows.specs.Rows.{Written}
use Rattle.compose_merge.specs.Merged.{merged}
use Rattle.compose_merging.specs.Printed.{ReadsBack, table_text}
use Rattle.compose_merging.specs.Treatments.{treatments, is_the_taken, is_left_out}
use Rattle.compose_merging.specs.declared.asking.MergeInput.{MergeInput}
use Rattle.compose_merging.specs.declared.asking.Merging.{Merging}
use Rattle.compose_merging.specs.declared.asking.MergingFault.{MergingFault}
use Rattle.compose_merging.specs.declared.asking.MergingFault.TheVariants.{Input, TooLarge, NotReadBack}

-- ---- the merge of two tables as they are written, with these fresh keysyms

-- the lines of all sequences of the old one and of those of the new one that are taken, which are
-- read to the merged table, with nothing accepted; and the numbers of sequences
pub record IsMerging (names : KeysymNames) (fresh : List ℕ) (old new : Written) (merging : Merging) : Type 0 where
  pub lines : string_bytes merging.table ≡ table_text old new (treatments names fresh old.table new.table)
  pub reads : ReadsBack names (merged names fresh [] old.table new.table) (string_bytes merging.table)
  pub kept : merging.kept ≡ length old.table
  pub taken : merging.taken ≡ length (filter is_the_taken (treatments names fresh old.table new.table))
  pub left_out : merging.left_out ≡ length (filter is_left_out (treatments names fresh old.table new.table))

-- it has too many sequences or nodes for a table
abbrev pub IsTooLarge : List Definition → Type 0
IsTooLarge table = (max_definitions < length table) ⊎ (max_nodes < length (nodes table))

-- the merge; or memory runs out, or it is too large, or what would be printed is not read to it
abbrev pub Merges : KeysymNames → List ℕ → Written → Written → Result Merging MergingFault → Type 0
Merges names fresh old new (Ok merging) = IsMerging names fresh old new merging
Merges names fresh old new (Err (Input refusal)) = refusal ≡ refusals.NoMemory
Merges names fresh old new (Err TooLarge) = IsTooLarge (merged names fresh [] old.table new.table)
Merges names fresh old new (Err NotReadBack) =
    ReadsBack names (merged names fresh [] old.table new.table) (table_text old new (treatments names fresh old.table new.table)) → ⊥

-- ---- on their sources

-- the input of a merge: a migration, and the paths of the sources of both tables
pub record Asked : Type 0 where
  pub migration : GivenMigration
  pub old_paths : List (List ℕ)
  pub new_paths : List (List ℕ)

abbrev pub asked : MergeInput → Asked
asked input = record {
  migration = given_of input.tables;
  old_paths = map (λ path. path.now) input.old_paths.now;
  new_paths = map (λ path. path.now) input.new_paths.now;
}

-- the merge of what is compared: both tables as their sources write them
abbrev pub MergesCompared : Asked → Explainable → Result Merging MergingFault → Type 0
MergesCompared asked e result =
    Merges e.move.names e.fresh (written_in e.move.names asked.migration.old.sources asked.old_paths e.move.old)
    (written_in e.move.names asked.migration.new.sources asked.new_paths e.move.new) result

-- the merge, or why there is none: the migration or its fresh keysyms are refused, or as above
abbrev pub AnswersMerge : Asked → Result Merging MergingFault → Type 0
AnswersMerge asked (Err (Input refusal)) = IsRefused refusal (compared_parts asked.migration)
AnswersMerge asked result = (e : Explainable) × (compared_parts asked.migration ≡ Ok e) × MergesCompared asked e result
