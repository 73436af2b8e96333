-- What was read so far, and how reading goes on from there. Definitions for private functions.
use Rattle.std.specs.Prelude.{◌≡◌, ◌<◌, [], ◌++◌, ℕ, List, length, Option, Some, None, Result, Ok, Err, IsTrue}
use Rattle.std.specs.Option.{option_map_or}
use Rattle.keysym_core.specs.Names.{KeysymNames, text}
use Rattle.compose_lex.specs.declared.LexFault.{LexFault}
use Rattle.compose_lex.specs.declared.LexFault.TheVariants as lex_faults
use Rattle.compose_model.specs.Table.{Definition, is_definition}
use Rattle.compose_read.specs.Lines.{Source, Visit, included, max_depth}
use Rattle.compose_read.specs.Read.{read_on, line_result}
use Rattle.compose_read.specs.Rows.{DraftRows}
use Rattle.compose_read.specs.declared.ReadFault.{ReadFault}
use Rattle.compose_read.specs.declared.ReadFault.TheVariants as faults
use Rattle.compose_read.specs.declared.line.Place.{Place}
use Rattle.compose_read.specs.declared.line.Found.{Found}
use Rattle.compose_read.specs.declared.line.Found.TheVariants as found
use Rattle.compose_read.specs.declared.reading.Progress.{Progress}

-- ---- one line

-- the line with these bytes at the position
abbrev pub visit : Place → List ℕ → Visit
visit place bytes = record { source = place.source; line = place.line; bytes = bytes; depth = place.depth }

-- the result of a line without a definition
abbrev pub no_definition : Option Definition
no_definition = None

-- the fault of a part of the line at the position
abbrev pub located_fault : Place → LexFault → ReadFault
located_fault place lex_faults.NoMemory = faults.NoMemory
located_fault place fault = faults.Lex place.source place.line fault

-- the text of a result keysym, if there is one
abbrev pub keysym_text : KeysymNames → Option ℕ → List ℕ
keysym_text names keysym = option_map_or (text names) keysym []

-- what is found on a line is the result of the line: no definition, the definition d, or the source
-- that it includes
abbrev pub IsFound : KeysymNames → List Source → Visit → Definition → Found → Type 0
IsFound names sources v d found.Nothing = (line_result names sources v ≡ Ok None) × (included sources v.bytes ≡ None)
IsFound names sources v d (found.Include source) = (line_result names sources v ≡ Ok None) × (included sources v.bytes ≡ Some source) × (v.depth < max_depth) × (source < length sources)
IsFound names sources v d found.Definition = (line_result names sources v ≡ Ok (Some d)) × (included sources v.bytes ≡ None) × IsTrue (is_definition d)

abbrev pub FindsLine : KeysymNames → List Source → Visit → Definition → Result Found ReadFault → Type 0
FindsLine names sources v d (Ok f) = IsFound names sources v d f
FindsLine names sources v d (Err faults.NoMemory) = Unit {0}
FindsLine names sources v d (Err e) = line_result names sources v ≡ Err e

-- ---- all lines

-- the result with these definitions put before its own
abbrev pub with_prefix : List Definition → Result (List Definition) ReadFault → Result (List Definition) ReadFault
with_prefix table (Ok more) = Ok (table ++ more)
with_prefix table (Err e) = Err e

-- this many lines were read, with this draft as the result
abbrev pub read_so_far : ℕ → DraftRows → Progress
read_so_far lines draft = record { lines = lines; draft = draft }

-- all definitions, if these lines come after what was read so far
abbrev pub reading_on : KeysymNames → List Source → Progress → List Visit → Result (List Definition) ReadFault
reading_on names sources p vs = with_prefix p.draft.table (read_on names sources p.lines (length p.draft.table) vs)

-- reading these lines leads from the one to the other, or to the fault, whatever comes after them
abbrev pub ReadsOn : {X : Type 0} → KeysymNames → List Source → List Visit → Progress → Progress → Result X ReadFault → Type 0
ReadsOn names sources vs before after (Ok x) = (ws : List Visit) → reading_on names sources before (vs ++ ws) ≡ reading_on names sources after ws
ReadsOn names sources vs before after (Err faults.NoMemory) = Unit {0}
ReadsOn names sources vs before after (Err e) = (ws : List Visit) → reading_on names sources before (vs ++ ws) ≡ Err e
