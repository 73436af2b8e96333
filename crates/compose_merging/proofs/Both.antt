-- Two tables were asked for, and two were read.
use Rattle.std.proofs.Common.{◌≡◌, refl, ℕ, List, [], ◌∷◌, map}
use Rattle.std.specs.Prelude.{Option}
use Rattle.compose_arguments.specs.declared.given_tables.TypeTable.{TypeTable}
use Rattle.compose_folder.specs.Content.{Entry}
use Rattle.compose_given.specs.Reads.{AreTables}
use Rattle.compose_given.specs.declared.chosen.NotedTable.{NotedTable}
use Rattle.compose_given.specs.declared.environment.Environment.{Environment}
use Rattle.compose_given.specs.declared.wanted.WantedTable.{WantedTable}
use Rattle.compose_merging.specs.Runs.{part_of}

-- the two
pub record Two (tables : List NotedTable) : Type 0 where
  pub old : NotedTable
  pub new : NotedTable
  pub both : tables ≡ old ∷ new ∷ []

pub two : (folder : Option (List Entry)) (environment : Environment) (wanted : List WantedTable) (tables : List NotedTable) (a b : List ℕ × TypeTable) → map part_of wanted ≡ a ∷ b ∷ []
    → AreTables folder environment wanted tables → Two tables
two folder environment [] tables a b is are = absurd (cc)
two folder environment (w ∷ []) tables a b is are = absurd (cc)
two folder environment (w ∷ v ∷ u ∷ wanted) tables a b is are = absurd (cc)
two folder environment (w ∷ v ∷ []) [] a b is are = absurd are
two folder environment (w ∷ v ∷ []) (t ∷ []) a b is are = absurd are.1
two folder environment (w ∷ v ∷ []) (t ∷ s ∷ []) a b is are = record { old = t; new = s; both = refl }
two folder environment (w ∷ v ∷ []) (t ∷ s ∷ r ∷ tables) a b is are = absurd are.1.1
