-- The lines that are still to be visited. Definitions for private functions, except for the visit
-- of a line.
use Rattle.std.specs.Prelude.{ℕ, ◌+◌, ◌-◌, zero, suc, if◌then◌else◌, List, [], ◌∷◌, ◌++◌, flat_map, Option, Some, None, Result, Ok}
use Rattle.std.specs.Option.{option_map_or}
use Rattle.std.specs.Str.{is_utf8}
use Rattle.compose_text.specs.Lines.{lines_of}
use Rattle.compose_lex.specs.Line.{Reading, include}
use Rattle.compose_lex.specs.Fault.{reading_of}
use Rattle.compose_lex.specs.declared.LexFault.{LexFault}
use Rattle.compose_read.specs.Lines.{Source, Visit, included, max_depth, numbered, visits_below}
use Rattle.compose_read.specs.declared.open_source.OpenSource.{OpenSource}
use Rattle.compose_read.specs.declared.visits.VisitedLine.{VisitedLine}

-- the visit of a line
abbrev pub visit_of : VisitedLine → Visit
visit_of v = record { source = v.source; line = v.line; bytes = v.bytes.now; depth = v.depth }

-- the raw text of an include
abbrev pub include_text : Result Reading LexFault → Option (List ℕ)
include_text (Ok (include raw)) = Some raw
include_text _ = None

-- the raw text of the line's include, if it is one; a line with a fault or one that is not UTF-8 is
-- none
abbrev pub raw_include : List ℕ → Option (List ℕ)
raw_include line = if is_utf8 line then include_text (reading_of line) else None

-- a line and, if it includes a source, the lines visited from that source
abbrev pub below : List Source → ℕ → Visit → List Visit
below sources zero v = v ∷ []
below sources (suc left) v = v ∷ option_map_or (visits_below sources left) (included sources v.bytes) []

-- what is still to be visited of a source after the line with this number, if the rest of its bytes
-- follow that line
abbrev pub left_to_visit : List Source → ℕ → ℕ → ℕ → ℕ → List ℕ → List Visit
left_to_visit sources left source depth line rest = flat_map (below sources left) (numbered source depth (1 + line) (lines_of rest))

-- the same for an open source to which this number of includes leads
abbrev pub left_in : List Source → ℕ → OpenSource → List Visit
left_in sources depth o = left_to_visit sources (max_depth - depth) o.source depth o.line o.rest.now

-- what is still to be visited of open sources, each included by the one before it: the lines of the
-- last come first
abbrev pub left_from : List Source → ℕ → List OpenSource → List Visit
left_from sources depth [] = []
left_from sources depth (o ∷ os) = left_from sources (1 + depth) os ++ left_in sources depth o
