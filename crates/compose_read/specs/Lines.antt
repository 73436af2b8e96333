-- Sources, and all the lines that are visited from one of them, with included lines after their
-- include.
use Rattle.std.specs.Prelude.{ℕ, ◌+◌, ◌-◌, nat_eq, nat_lt, zero, suc, if◌then◌else◌, List, [], ◌∷◌, length, drop, flat_map, Option, Some, None, Result, Ok, bytes_eq, get_or}
use Rattle.std.specs.List.{position_or_len, starts_with}
use Rattle.std.specs.Option.{option_map_or}
use Rattle.std.specs.Str.{is_utf8}
use Rattle.compose_text.specs.Lines.{lines_of}
use Rattle.compose_lex.specs.Line.{Reading, include}
use Rattle.compose_lex.specs.Fault.{reading_of}
use Rattle.compose_lex.specs.declared.LexFault.{LexFault}

-- a file, under the name by which includes find it
pub record Source : Type 0 where
  pub name : List ℕ
  pub bytes : List ℕ

-- ---- the lines of a source

-- the bytes without a leading UTF-8 byte order mark
abbrev pub without_mark : List ℕ → List ℕ
without_mark bytes = if starts_with nat_eq bytes (0xef ∷ 0xbb ∷ 0xbf ∷ []) then drop 3 bytes else bytes

-- its lines
abbrev pub source_lines : List ℕ → List (List ℕ)
source_lines bytes = lines_of (without_mark bytes)

-- ---- visits

-- a line as it is visited: the index of the source, the number of the line counted from 1, its
-- bytes, and the number of includes that lead to it
pub record Visit : Type 0 where
  pub source : ℕ
  pub line : ℕ
  pub bytes : List ℕ
  pub depth : ℕ

abbrev pub max_depth : ℕ
max_depth = 8

-- the index of the source with this name, or the number of sources
abbrev pub source_named : List Source → List ℕ → ℕ
source_named sources name = position_or_len (λ (s : Source). bytes_eq name s.name) sources

-- the index of the source that an include names, if there is one
abbrev pub included_by : List Source → Result Reading LexFault → Option ℕ
included_by sources (Ok (include name)) = if nat_lt (source_named sources name) (length sources) then Some (source_named sources name) else None
included_by sources _ = None

-- the index of the source that a line includes, if the line has no fault, except perhaps that it is
-- nested too deeply
abbrev pub included : List Source → List ℕ → Option ℕ
included sources bytes = if is_utf8 bytes then included_by sources (reading_of bytes) else None

-- the lines, numbered from this number on
abbrev pub numbered : ℕ → ℕ → ℕ → List (List ℕ) → List Visit
numbered source depth number [] = []
numbered source depth number (line ∷ lines) = record { source = source; line = number; bytes = line; depth = depth } ∷ numbered source depth (1 + number) lines

abbrev pub own_lines : List Source → ℕ → ℕ → List Visit
own_lines sources source depth = numbered source depth 1 (source_lines (get_or sources source (record { name = []; bytes = [] })).bytes)

-- each line, and after an include the lines visited from the included source, if `left` levels are
-- left below this one
abbrev pub visits_below : List Source → ℕ → ℕ → List Visit
visits_below sources zero source = own_lines sources source max_depth
visits_below sources (suc left) source =
    flat_map (λ v. v ∷ option_map_or (visits_below sources left) (included sources v.bytes) []) (own_lines sources source (max_depth - suc left))

-- all lines in reading order
abbrev pub visits : List Source → ℕ → List Visit
visits sources root = visits_below sources max_depth root
