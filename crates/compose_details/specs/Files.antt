-- What is printed of manifests and includes (this project's profile).
use Rattle.std.specs.Prelude.{ℕ, List, ◌++◌, Option, Some, None, string_bytes, codes}
use Rattle.compose_find.specs.declared.fault.IncludeFault.{IncludeFault}
use Rattle.compose_find.specs.declared.fault.IncludeFault.TheVariants.{Text, UnknownPercent, NoLocale, NoHome, TwoFiles, TooManySources, IncludeDepth}
use Rattle.compose_find.specs.declared.found_source.FindFault.{FindFault}
use Rattle.compose_find.specs.declared.found_source.FindFault.TheVariants.{MissingFile, Include}
use Rattle.compose_shown.specs.Shown.{shown_text}
use Rattle.compose_manifest.specs.declared.manifest.ManifestFault.{ManifestFault}
use Rattle.compose_messages.specs.Faults.{manifest_line, manifest_message}
use Rattle.compose_messages.specs.Hints.{manifest_hint}
use Rattle.compose_messages.specs.Messages.{position_text, quoting}
use Rattle.compose_details.specs.Lines.{whole_line}
use Rattle.compose_details.specs.Refusals.{words_line, hint_line}

-- the faulty line of the manifest, and the hint if a table was given instead
abbrev pub manifest_lines : List ℕ → List ℕ → ManifestFault → List ℕ
manifest_lines path bytes fault = words_line path (manifest_line fault) (manifest_message fault) ++ hint_line (manifest_hint path bytes fault)

-- ---- includes

abbrev pub include_message : IncludeFault → List ℕ
include_message (Text fault) = codes "the string of the include is no text"
include_message UnknownPercent = codes "none of %, S, L and H follows the percent sign"
include_message NoLocale = codes "%L stands for the table of a locale, and none is known"
include_message NoHome = codes "%H stands for the home folder, and none is known"
include_message TwoFiles = codes "the same string led to another file before"
include_message TooManySources = codes "there are more than 64 files"
include_message IncludeDepth = codes "more than eight includes lead to this file"
include_message fault = codes "out of memory"

-- the message for a line, with its file
abbrev pub message_at : List ℕ → ℕ → List ℕ → List ℕ
message_at path n sentence = codes "composecheck: " ++ shown_text path ++ position_text (whole_line n) ++ codes ": " ++ sentence

-- the include that leads to no file, and the reason, if the fault concerns an include
abbrev pub found_include_message : FindFault → Option (List ℕ)
found_include_message (MissingFile from n path) = Some (message_at (string_bytes from) n (quoting (codes "can't open the included file ") (string_bytes path)))
found_include_message (Include from n fault) = Some (message_at (string_bytes from) n (include_message fault))
found_include_message fault = None
