-- Why `serve` can't read its files: the fault is that of the first one that is refused (defined by
-- this project). Memory may run out at any time.
use Rattle.std.specs.Prelude.{◌⊎◌, ℕ, List, Option, Err, codes}
use Rattle.compose_folder.specs.Content.{Entry}
use Rattle.compose_arguments.specs.declared.serve_arguments.ServedFiles.{ServedFiles}
use Rattle.compose_input.specs.Faults.{FailNames}
use Rattle.compose_input.specs.Texts.{IsRead}
use Rattle.compose_input.specs.declared.fault.Fault.{Fault}
use Rattle.compose_given.specs.Faults.{OrMemory, HasFile, HasNames}
use Rattle.compose_given.specs.GivenTable.{FailsGivenTable, HasGivenTable}
use Rattle.compose_given.specs.Names.{names_for}
use Rattle.compose_given.specs.declared.environment.Environment.{Environment}
use Rattle.compose_service_runs.specs.Serving.{is_file}

-- in the order of reading: the names, the table, the repertoire, the certificate
abbrev pub FailsServe : Option (List Entry) → Environment → List (List ℕ) → ServedFiles → Fault → Type 0
FailsServe folder environment names served fault =
    OrMemory (λ f. FailNames folder (names_for (is_file served.table) names) f
    ⊎ (HasNames folder (names_for (is_file served.table) names)
    × (FailsGivenTable folder environment (codes "table") served.table f
    ⊎ (HasGivenTable folder environment served.table × (IsRead folder served.repertoire.now (Err f) ⊎ (HasFile folder served.repertoire.now × IsRead folder served.certificate.now (Err f))))))) fault
