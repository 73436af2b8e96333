-- The message for each fault (this project's profile), and how it is printed.
use Rattle.std.specs.Prelude.{ℕ, not, ◌-◌, nat_le, nat_lt, if◌then◌else◌, List, [], ◌∷◌, ◌++◌, length, slice_get, take, Option, Some, None, bytes_eq, codes}
use Rattle.std.specs.Option.{option_map_or}
use Rattle.std.specs.Fmt.{decimal}
use Rattle.compose_lex.specs.declared.LexFault.{LexFault}
use Rattle.compose_lex.specs.declared.LexFault.TheVariants.{BadToken, ModifierList, UnclosedString, UnknownEscape, BadCode, NoResult, TooManyKeysyms, EmptyText, TextTooLong, TextNotUtf8}
use Rattle.compose_read.specs.Lines.{Source}
use Rattle.compose_read.specs.declared.ReadFault.{ReadFault}
use Rattle.compose_read.specs.declared.ReadFault.TheVariants.{MissingRoot, NotUtf8, Lex, UnknownKeysym, IgnoredKeysym, MissingInclude, IncludeDepth, TooManyLines, TooManyDefinitions}
use Rattle.compose_shown.specs.Shown.{shown_text}
use Rattle.compose_messages.specs.Places.{beginning, line_at, line_of}
use Rattle.compose_messages.specs.Tokens.{named, expected_after, found_at, is_modifier}
use Rattle.compose_messages.specs.declared.position.Position.{Position}
use Rattle.compose_messages.specs.declared.message.Message.{Message}
use Rattle.compose_messages.specs.declared.message.Message.TheVariants.{Plain, Quoting, Naming, Expected}
use Rattle.compose_messages.specs.declared.message.FileMessage.{FileMessage}

-- ---- how a message is printed

-- safe to print on a terminal, between quotes (code 34)
abbrev pub in_quotes : List ℕ → List ℕ
in_quotes text = 34 ∷ (shown_text text ++ 34 ∷ [])

-- three dots if not all of a name is printed
abbrev pub dots_of : List ℕ → List ℕ
dots_of name = if nat_lt (length (beginning name)) (length name) then codes "..." else []

-- the beginning of a name between quotes
abbrev pub name_text : List ℕ → List ℕ
name_text name = in_quotes (beginning name) ++ dots_of name

abbrev pub found_words : List ℕ → List ℕ
found_words [] = codes "the end of the line"
found_words (b ∷ text) = name_text (b ∷ text)

abbrev pub quoting : List ℕ → List ℕ → List ℕ
quoting words text = words ++ in_quotes text

abbrev pub naming : List ℕ → List ℕ → List ℕ
naming words name = words ++ name_text name

abbrev pub expecting : List ℕ → List ℕ → List ℕ
expecting expected found = codes "expected " ++ expected ++ codes ", found " ++ found_words found

abbrev pub message_text : Message → List ℕ
message_text (Plain words) = words.now
message_text (Quoting words text) = quoting words.now text.now
message_text (Naming words name) = naming words.now name.now
message_text (Expected expected found) = expecting expected.now found.now

-- `:LINE:COLUMN` (code 58), if there is a position
abbrev pub position_text : Option Position → List ℕ
position_text None = []
position_text (Some p) = 58 ∷ (decimal p.line ++ 58 ∷ decimal p.column)

-- the path, the position and the message
abbrev pub file_text : FileMessage → List ℕ
file_text reported = codes "composecheck: " ++ shown_text reported.path.now ++ position_text reported.position ++ codes ": " ++ message_text reported.message

-- ---- the message for a fault of a source

abbrev pub lex_message_text : List ℕ → LexFault → List ℕ
lex_message_text line (BadToken at) = expecting (expected_after (take at line)) (found_at line at)
lex_message_text line (ModifierList at) = if is_modifier (found_at line at) then codes "a modifier list stands here, which is not supported" else expecting (expected_after (take at line)) (found_at line at)
lex_message_text line (UnclosedString at) = codes "the string is not closed"
lex_message_text line (UnknownEscape at) = codes "the backslash begins no escape"
lex_message_text line (BadCode at) = codes "the code is that of no byte from 1 to 255"
lex_message_text line NoResult = codes "neither a string nor the name of a keysym follows the colon"
lex_message_text line TooManyKeysyms = codes "a sequence has at most 32 keysyms"
lex_message_text line EmptyText = codes "the string is empty"
lex_message_text line TextTooLong = codes "the string has more than 255 bytes"
lex_message_text line TextNotUtf8 = codes "the string is not UTF-8"
lex_message_text line fault = codes "out of memory"

-- more than eight includes lead to the file of this name, and the last of them is in the file
-- `own`, in a table with this number of files: with at most nine files, one of the ten files on
-- that way occurs twice
abbrev pub depth_message_text : ℕ → List ℕ → List ℕ → List ℕ
depth_message_text count own name =
    if bytes_eq own name then quoting (codes "the includes go in a circle: this file includes itself, as ") name else
    if nat_le count 9 then quoting (codes "the includes go in a circle: more than eight lead to the file ") name else
    quoting (codes "more than eight includes lead to the file ") name

-- the name of the source with this index
abbrev pub name_of : List Source → ℕ → List ℕ
name_of sources source = option_map_or (λ (s : Source). s.name) (slice_get sources source) []

-- for a fault in this line
abbrev pub line_message : List ℕ → ReadFault → List ℕ
line_message line MissingRoot = codes "the manifest lists no file"
line_message line (NotUtf8 s l) = codes "the line is not UTF-8"
line_message line (Lex s l fault) = lex_message_text line fault
line_message line (UnknownKeysym s l index) = naming (codes "no keysym has the name ") (named line index)
line_message line (IgnoredKeysym s l index) = naming (codes "a sequence can't have an ignored keysym, as ") (named line index)
line_message line (MissingInclude s l) = quoting (codes "the manifest does not list the included file ") (named line 0)
line_message line (TooManyLines s l) = codes "more than 1,000,000 lines are read"
line_message line (TooManyDefinitions s l) = codes "more than 100,000 sequences are defined"
line_message line fault = codes "out of memory"

-- the line that has a fault, or nothing
abbrev pub fault_line : List Source → ReadFault → List ℕ
fault_line sources fault = option_map_or (λ at. line_at sources at.0 at.1) (line_of fault) []

abbrev pub read_message_text : List Source → ReadFault → List ℕ
read_message_text sources (IncludeDepth s l) = depth_message_text (length sources) (name_of sources s) (named (line_at sources s l) 0)
read_message_text sources fault = line_message (fault_line sources fault) fault
