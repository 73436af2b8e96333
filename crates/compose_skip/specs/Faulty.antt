-- Faulty lines, and sources as libxkbcommon reads them: it reads many of the lines that have a
-- fault here, and skips the others.
use Rattle.std.specs.Prelude.{◌≡◌, ◌+◌, ℕ, if◌then◌else◌, List, [], ◌∷◌, ◌++◌, map, Option, Some, None, is_some, unwrap_or}
use Rattle.std.specs.List.{filter_map}
use Rattle.keysym_core.specs.Names.{KeysymNames}
use Rattle.compose_read.specs.Faults.{fault_of}
use Rattle.compose_read.specs.Lines.{Source, Visit, numbered, source_lines}
use Rattle.compose_read.specs.declared.ReadFault.{ReadFault}
use Rattle.compose_read.specs.declared.ReadFault.TheVariants.{MissingInclude, IncludeDepth}
use Rattle.compose_skip.specs.Libxkbcommon.{rewritten}

-- ---- a line

-- the fault, if it is one of the line itself; a fault of an include depends on the files
abbrev pub own : Option ReadFault → Option ReadFault
own (Some (MissingInclude source line)) = None
own (Some (IncludeDepth source line)) = None
own fault = fault

-- the line's own fault, which it has with any sources
abbrev pub own_fault : KeysymNames → Visit → Option ReadFault
own_fault names v = own (fault_of names [] v)

-- the bytes of the line if it has no fault; else those of the same definition as libxkbcommon reads
-- in it, or none
abbrev pub line_without : KeysymNames → List ℕ → Option ReadFault → List ℕ
line_without names bytes None = bytes
line_without names bytes (Some fault) = unwrap_or (rewritten names bytes) []

abbrev pub kept_line : KeysymNames → Visit → List ℕ
kept_line names v = line_without names v.bytes (own_fault names v)

-- the fault of a line that is left empty
abbrev pub fault_left : KeysymNames → List ℕ → Option ReadFault → Option ReadFault
fault_left names bytes None = None
fault_left names bytes (Some fault) = if is_some (rewritten names bytes) then None else Some fault

abbrev pub left_fault : KeysymNames → Visit → Option ReadFault
left_fault names v = fault_left names v.bytes (own_fault names v)

-- ---- a source

-- the lines of the source with this index
abbrev pub lines_in : ℕ → List ℕ → List Visit
lines_in source bytes = numbered source 0 1 (source_lines bytes)

-- the sources have the same names as those from this index on, and each of their lines is kept so
abbrev pub AreOthersFrom : KeysymNames → ℕ → List Source → List Source → Type 0
AreOthersFrom names index [] [] = Unit {0}
AreOthersFrom names index (s ∷ sources) (o ∷ others) =
    (o.name ≡ s.name) × (source_lines o.bytes ≡ map (kept_line names) (lines_in index s.bytes)) × AreOthersFrom names (1 + index) sources others
AreOthersFrom names index sources others = ⊥

abbrev pub AreOthers : KeysymNames → List Source → List Source → Type 0
AreOthers names sources others = AreOthersFrom names 0 sources others

-- the faults of the lines of each source from this index on that are left empty, in order
abbrev pub own_faults_from : KeysymNames → ℕ → List Source → List ReadFault
own_faults_from names index [] = []
own_faults_from names index (s ∷ sources) = filter_map (left_fault names) (lines_in index s.bytes) ++ own_faults_from names (1 + index) sources

abbrev pub own_faults : KeysymNames → List Source → List ReadFault
own_faults names sources = own_faults_from names 0 sources
