-- Two tables were asked for, and two were read.
use Rattle.std.proofs.Common.{◌≡◌, refl, ℕ, List, [], ◌∷◌, length, map}
use Rattle.std.specs.Prelude.{Option}
use Rattle.compose_arguments.specs.declared.given_tables.TypeTable.{TypeTable}
use Rattle.compose_folder.specs.Content.{Entry}
use Rattle.compose_given.specs.declared.environment.Environment.{Environment}
use Rattle.compose_given.specs.declared.chosen.NotedTable.{NotedTable}
use Rattle.compose_explaining.specs.Explains.{part_of}
use Rattle.compose_given.specs.Reads.{AreTables}
use Rattle.compose_given.specs.declared.wanted.WantedTable.{WantedTable}

pub two : (folder : Option (List Entry)) (environment : Environment) (wanted : List WantedTable) (tables : List NotedTable) (old new : List ℕ × TypeTable)
    → map part_of wanted ≡ old ∷ new ∷ [] → AreTables folder environment wanted tables → length tables ≡ 2
two folder environment [] tables old new is are = cc
two folder environment (w ∷ []) tables old new is are = cc
two folder environment (w ∷ v ∷ u ∷ wanted) tables old new is are = cc
two folder environment (w ∷ v ∷ []) [] old new is are = absurd are
two folder environment (w ∷ v ∷ []) (t ∷ []) old new is are = absurd are.1
two folder environment (w ∷ v ∷ []) (t ∷ s ∷ []) old new is are = refl
two folder environment (w ∷ v ∷ []) (t ∷ s ∷ r ∷ tables) old new is are = absurd are.1.1
