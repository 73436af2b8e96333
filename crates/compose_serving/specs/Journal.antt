-- The lines about the table in use of a service that keeps it (this project's format:
-- docs/FORMATS.md).
use Rattle.std.specs.Prelude.{ℕ, List, [], ◌∷◌, ◌++◌, codes}
use Rattle.std.specs.Fmt.{decimal}
use Rattle.compose_shown.specs.Shown.{shown_text}
use Rattle.compose_serving.specs.declared.journal.LoadEnd.{LoadEnd}
use Rattle.compose_serving.specs.declared.journal.LoadEnd.TheVariants.{Taken, Refused}

-- code 10 ends a line
abbrev pub taken_text : ℕ → ℕ → List ℕ → List ℕ
taken_text sequences before origin =
    codes "loaded: " ++ (decimal sequences ++ (codes " sequences, " ++ (decimal before ++ (codes " before; from " ++ (shown_text origin ++ 10 ∷ [])))))

abbrev pub load_text : LoadEnd → List ℕ
load_text (Taken sequences before origin) = taken_text sequences before origin.now
load_text (Refused reason) = codes "load refused: " ++ (reason.now ++ 10 ∷ [])

abbrev pub table_text : ℕ → List ℕ → List ℕ
table_text sequences origin = codes "table: " ++ (decimal sequences ++ (codes " sequences, from " ++ (shown_text origin ++ 10 ∷ [])))

abbrev pub chosen_text : ℕ → List ℕ
chosen_text sessions = codes "next: taken, sessions closed: " ++ decimal sessions ++ 10 ∷ []
