-- The faults of all lines.
use Rattle.std.specs.Prelude.{ℕ, nat_lt, if◌then◌else◌, List, [], ◌∷◌, length, take, Option}
use Rattle.std.specs.List.{filter_map}
use Rattle.std.specs.Result.{result_err}
use Rattle.keysym_core.specs.Names.{KeysymNames}
use Rattle.compose_read.specs.Lines.{Source, Visit, source_named, visits}
use Rattle.compose_read.specs.Read.{line_result, max_lines}
use Rattle.compose_read.specs.declared.ReadFault.{ReadFault}
use Rattle.compose_read.specs.declared.ReadFault.TheVariants.{MissingRoot}

-- the fault of a line, if it has one
abbrev pub fault_of : KeysymNames → List Source → Visit → Option ReadFault
fault_of names sources v = result_err (line_result names sources v)

-- the faults of the lines that are read from the root, in reading order
abbrev pub faults_of : KeysymNames → List Source → List ℕ → List ReadFault
faults_of names sources root =
    if nat_lt (source_named sources root) (length sources) then filter_map (fault_of names sources) (take max_lines (visits sources (source_named sources root))) else MissingRoot ∷ []
