-- The first source as the root.
use Rattle.std.proofs.Common.{◌≡◌, ℕ, List, [], ◌∷◌, ap}
use Rattle.std.specs.Prelude.{Some, slice_get}
use Rattle.std.specs.Option.{option_map}
use Rattle.keysym_core.specs.Names.{KeysymNames}
use Rattle.compose_model.specs.declared.Rule.{Rule}
use Rattle.compose_read.specs.Lines.{Source}
use Rattle.compose_tree.specs.TableReturns.{first_table, table_of}

-- the first source has the root's name
pub root_named : (names : KeysymNames) (sources : List Source) (root : List ℕ) (rule : Rule) → Some root ≡ option_map (λ (s : Source). s.name) (slice_get sources 0)
    → table_of names sources root rule ≡ first_table names sources rule
root_named names [] root rule e = cc
root_named names (s ∷ sources) root rule e = let is : root ≡ s.name = cc in ap (λ r. table_of names (s ∷ sources) r rule) is
