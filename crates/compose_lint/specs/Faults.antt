-- The faults of lines.
use Rattle.std.specs.Prelude.{ℕ, Bool, true, false, ◌==◌, ◌&&◌, ◌||◌, nat_lt, nat_le, List, [], ◌∷◌, length, position, is_some, Result, Ok}
use Rattle.std.specs.List.{list_all}
use Rattle.std.specs.Option.{option_map_or}
use Rattle.std.specs.Str.{is_utf8}
use Rattle.compose_lex.specs.Line.{Reading, blank, include}
use Rattle.compose_lex.specs.Fault.{reading_of}
use Rattle.compose_lex.specs.declared.LexFault.{LexFault}
use Rattle.compose_read.specs.Lines.{Source, source_named}
use Rattle.compose_read.specs.declared.ReadFault.{ReadFault}
use Rattle.compose_messages.specs.Places.{line_of}
use Rattle.compose_lint.specs.Lines.{LintLine, SourceLines}
use Rattle.compose_lint.specs.declared.finding.FindingKind.{FindingKind}
use Rattle.compose_lint.specs.declared.finding.FindingKind.TheVariants.{Fault}

-- the fault is in the line
abbrev pub is_in : LintLine → ReadFault → Bool
is_in l fault = option_map_or (λ at. at.0 == l.source && at.1 == l.line) (line_of fault) false

-- the first fault in the line, by its index
abbrev pub fault_kinds : List ReadFault → LintLine → List FindingKind
fault_kinds faults l = option_map_or (λ i. Fault i ∷ []) (position (is_in l) faults) []

-- ---- definitions for private functions

-- a source after this one is the first with this name
abbrev pub is_later : List Source → ℕ → List ℕ → Bool
is_later sources source name = nat_lt source (source_named sources name) && nat_lt (source_named sources name) (length sources)

-- a line of this source that is read so says nothing, or includes a later source
abbrev pub is_clean_reading : List Source → ℕ → Result Reading LexFault → Bool
is_clean_reading sources source (Ok blank) = true
is_clean_reading sources source (Ok (include name)) = is_later sources source name
is_clean_reading sources source _ = false

abbrev pub is_clean_text : List Source → ℕ → List ℕ → Bool
is_clean_text sources source bytes = is_utf8 bytes && is_clean_reading sources source (reading_of bytes)

-- the line defines something, says nothing, or includes a later source
abbrev pub is_clean : List Source → LintLine → Bool
is_clean sources l = is_some l.definition || is_clean_text sources l.source l.bytes

-- there are one to nine sources, and each line is clean
abbrev pub is_surely_faultless : List Source → List SourceLines → Bool
is_surely_faultless sources files = (nat_lt 0 (length sources) && nat_le (length sources) 9) && list_all (λ f. list_all (is_clean sources) f.lines) files
