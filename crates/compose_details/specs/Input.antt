-- Why an input of a command can't be read (this project's profile): a line that refuses it, and
-- with `-v` below it the place of the fault and the reason. `own` is the text that the fault of a
-- manifest, of a source or of a search is printed as. These texts are derived, and no contract
-- speaks of them.
use Rattle.std.specs.Prelude.{ℕ, Bool, if◌then◌else◌, List, [], ◌∷◌, ◌++◌, flat_map, Option, None, string_bytes, codes}
use Rattle.std.specs.Option.{option_map_or}
use Rattle.std.specs.declared.io.ErrorKind.{ErrorKind}
use Rattle.std.specs.declared.io.ErrorKind.TheVariants.{NotFound, PermissionDenied, ReadOnlyFilesystem, StorageFull}
use Rattle.compose_shown.specs.Shown.{shown_text}
use Rattle.compose_find.specs.declared.found_source.FindFault.{FindFault}
use Rattle.compose_find.specs.declared.found_source.FindFault.TheVariants.{MissingFile}
use Rattle.compose_messages.specs.Faults.{open_message, socket_message, source_message}
use Rattle.compose_messages.specs.Hints.{include_hint}
use Rattle.compose_messages.specs.declared.hints.Hint.{Hint}
use Rattle.compose_input.specs.declared.fault.Unopened.{Unopened}
use Rattle.compose_input.specs.declared.fault.Fault.{Fault}
use Rattle.compose_input.specs.declared.fault.Fault.TheVariants.{Unread, Unwritten, Manifest, Source, Find, Socket, Refused, Word, NoMemory}
use Rattle.compose_details.specs.Lines.{line}
use Rattle.compose_details.specs.Files.{manifest_lines, found_include_message}
use Rattle.compose_details.specs.Refusals.{hint_line}

-- the line that refuses the input (code 10 ends it)
abbrev pub refusal_line : List ℕ → Fault → List ℕ
refusal_line own (Unread unopened) = codes "refused: file: " ++ (shown_text (string_bytes unopened.path) ++ 10 ∷ [])
refusal_line own (Unwritten unopened) = codes "refused: file: " ++ (shown_text (string_bytes unopened.path) ++ 10 ∷ [])
refusal_line own (Manifest path bytes fault) = codes "refused: manifest: " ++ (own ++ 10 ∷ [])
refusal_line own (Source part path fault) = codes "refused: " ++ (part.now ++ (codes ": " ++ (own ++ 10 ∷ [])))
refusal_line own (Find fault tried) = codes "refused: find: " ++ (shown_text own ++ 10 ∷ [])
refusal_line own (Socket unopened) = codes "refused: socket: " ++ (shown_text (string_bytes unopened.path) ++ 10 ∷ [])
refusal_line own (Refused part text) = codes "refused: " ++ (part.now ++ (codes ": " ++ (shown_text (string_bytes text) ++ 10 ∷ [])))
refusal_line own Word = codes "refused: word: not UTF-8\n"
refusal_line own NoMemory = codes "out of memory\n"

-- why nothing is read at a path
abbrev pub unopened_line : Unopened → List ℕ
unopened_line unopened = line (string_bytes unopened.path) None (open_message unopened.kind)

abbrev pub write_message : ErrorKind → List ℕ
write_message NotFound = codes "can't be written: no such folder"
write_message PermissionDenied = codes "can't be written: permission denied"
write_message ReadOnlyFilesystem = codes "can't be written: the file system is read-only"
write_message StorageFull = codes "can't be written: no space left"
write_message _ = codes "can't be written"

-- why a file can't be written
abbrev pub unwritten_line : Unopened → List ℕ
unwritten_line unopened = line (string_bytes unopened.path) None (write_message unopened.kind)

-- why a socket can't be used
abbrev pub socket_line : Unopened → List ℕ
socket_line unopened = line (string_bytes unopened.path) None (socket_message unopened.kind)

-- which include leads to no file, if the fault concerns an include
abbrev pub include_line : FindFault → List ℕ
include_line fault = option_map_or (λ sentence. sentence ++ 10 ∷ []) (found_include_message fault) []

-- the hint for an include that leads to no file, if one helps
abbrev pub find_hint : FindFault → Option Hint
find_hint (MissingFile from n path) = include_hint (string_bytes path)
find_hint fault = None

-- which include leads to no file, why nothing is read at each place where its file was searched
-- for, and the hint
abbrev pub search_lines : FindFault → List Unopened → List ℕ
search_lines fault tried = include_line fault ++ flat_map unopened_line tried ++ hint_line (find_hint fault)

-- the place of the fault, and the reason
abbrev pub fault_details : Fault → List ℕ
fault_details (Unread unopened) = unopened_line unopened
fault_details (Unwritten unopened) = unwritten_line unopened
fault_details (Manifest path bytes fault) = manifest_lines (string_bytes path) bytes.items fault
fault_details (Source part path fault) = line (string_bytes path) None (source_message fault)
fault_details (Find fault tried) = search_lines fault tried.items
fault_details (Socket unopened) = socket_line unopened
fault_details fault = []

abbrev pub fault_lines : List ℕ → Bool → Fault → List ℕ
fault_lines own verbose fault = refusal_line own fault ++ (if verbose then fault_details fault else [])

-- for people: the details, or if there are none, the line that refuses the input
abbrev pub details_or : List ℕ → List ℕ → List ℕ
details_or line [] = line
details_or line (b ∷ details) = b ∷ details

abbrev pub fault_words : List ℕ → Fault → List ℕ
fault_words own fault = details_or (refusal_line own fault) (fault_details fault)
