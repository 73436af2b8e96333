-- What is read from sources whose faulty lines are rewritten or left empty.
use Rattle.std.specs.Prelude.{ℕ, List, flat_map, Option, Some, None, Result, Ok}
use Rattle.keysym_core.specs.Names.{KeysymNames}
use Rattle.compose_model.specs.Table.{Definition}
use Rattle.compose_read.specs.Kept.{definitions_in}
use Rattle.compose_read.specs.Lines.{Source, Visit, source_named, visits}
use Rattle.compose_read.specs.Read.{line_result}
use Rattle.compose_read.specs.declared.ReadFault.{ReadFault}
use Rattle.compose_skip.specs.Faulty.{kept_line, own_fault}
use Rattle.compose_skip.specs.Libxkbcommon.{read_by_libxkbcommon}

-- the line as it is visited; a faulty one is rewritten or left empty
abbrev pub kept_visit : KeysymNames → Visit → Visit
kept_visit names v = record { source = v.source; line = v.line; bytes = kept_line names v; depth = v.depth }

-- the result of a line without a fault; with one, what libxkbcommon reads in it
abbrev pub result_or : KeysymNames → Visit → Option ReadFault → Result (Option Definition) ReadFault → Result (Option Definition) ReadFault
result_or names v None result = result
result_or names v (Some fault) result = Ok (read_by_libxkbcommon names v.bytes)

abbrev pub other_result : KeysymNames → List Source → Visit → Result (Option Definition) ReadFault
other_result names sources v = result_or names v (own_fault names v) (line_result names sources v)

-- the definitions of all lines that are read from the root
abbrev pub other_definitions : KeysymNames → List Source → List ℕ → List Definition
other_definitions names sources root = flat_map (λ v. definitions_in (other_result names sources v)) (visits sources (source_named sources root))
