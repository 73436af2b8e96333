-- Manifests: the files of a table, under the names by which includes name them (this project's own
-- format).
use Rattle.std.specs.Prelude.{ℕ, Bool, true, false, not, ◌+◌, ◌-◌, ◌&&◌, ◌||◌, ◌==◌, nat_lt, if◌then◌else◌, List, [], ◌∷◌, ◌++◌, length, take, drop, Option, Some, None, is_some, Result, Ok, Err, bytes_eq, codes}
use Rattle.std.specs.Str.{is_utf8}
use Rattle.std.specs.Option.{option_map_or}
use Rattle.std.specs.List.{list_all}
use Rattle.compose_text.specs.Lines.{lines_of}
use Rattle.compose_model.specs.Table.{same}
use Rattle.compose_text.specs.Bytes.{leading, behind}
use Rattle.compose_model.specs.declared.Rule.{Rule}
use Rattle.compose_model.specs.declared.Rule.TheVariants.{Refuse, Longest}
use Rattle.compose_manifest.specs.declared.manifest.ManifestFault.{ManifestFault}
use Rattle.compose_manifest.specs.declared.manifest.ManifestFault.TheVariants.{BadLine, Empty}

-- an entry: the name of a source, and the path of its file
pub record ManifestEntry : Type 0 where
  pub name : List ℕ
  pub path : List ℕ

-- a manifest: the rule for overlaps, if it has one; whether the paths of the entries are relative
-- to the manifest; and the entries, the root first
pub record Listing : Type 0 where
  pub rule : Option Rule
  pub paths_here : Bool
  pub entries : List ManifestEntry

-- ---- a line

-- the last byte is a carriage return (code 13)
abbrev pub ends_in_return : List ℕ → Bool
ends_in_return line = same (drop (length line - 1) line) (13 ∷ [])

-- the line without a carriage return at its end
abbrev pub without_return : List ℕ → List ℕ
without_return line = if ends_in_return line then take (length line - 1) line else line

-- an empty line or a comment (it begins with code 35)
abbrev pub is_skipped : List ℕ → Bool
is_skipped [] = true
is_skipped (b ∷ rest) = b == 35

-- any byte but a tab (code 9)
abbrev pub is_no_tab : ℕ → Bool
is_no_tab b = not (b == 9)

-- neither is empty, and the path has no tab
abbrev pub are_parts : List ℕ → List ℕ → Bool
are_parts name path = not (length name == 0) && not (length path == 0) && list_all is_no_tab path

abbrev pub entry_of_parts : List ℕ → List ℕ → Option ManifestEntry
entry_of_parts name [] = None
entry_of_parts name (tab ∷ path) = if are_parts name path then Some (record { name = name; path = path }) else None

-- a name, one tab and a path: the bytes before and after the first tab
abbrev pub entry_of : List ℕ → Option ManifestEntry
entry_of line = entry_of_parts (leading is_no_tab line) (behind is_no_tab line)

abbrev pub rule_of : List ℕ → Option Rule
rule_of line = if bytes_eq line (codes "overlap longest") then Some Longest else if bytes_eq line (codes "overlap refuse") then Some Refuse else None

-- the line that makes paths relative to the manifest
abbrev pub is_paths_here : List ℕ → Bool
is_paths_here line = bytes_eq line (codes "paths here")

-- ---- all lines

-- the listing with a rule, which comes before the entries, and at most once
abbrev pub with_rule : ℕ → Listing → Rule → Result Listing ManifestFault
with_rule n listing rule = if is_some listing.rule || nat_lt 0 (length listing.entries) then Err (BadLine n) else Ok (record listing { rule = Some rule })

-- the listing whose paths are relative to the manifest; the line for this comes before the entries,
-- and at most once
abbrev pub with_paths_here : ℕ → Listing → Result Listing ManifestFault
with_paths_here n listing = if listing.paths_here || nat_lt 0 (length listing.entries) then Err (BadLine n) else Ok (record listing { paths_here = true })

abbrev pub with_entry : ℕ → Listing → Option ManifestEntry → Result Listing ManifestFault
with_entry n listing None = Err (BadLine n)
with_entry n listing (Some entry) = Ok (record listing { entries = listing.entries ++ entry ∷ [] })

-- the listing with the content of line n
abbrev pub with_text : ℕ → Listing → List ℕ → Result Listing ManifestFault
with_text n listing line =
    if is_skipped line then Ok listing else
    if is_paths_here line then with_paths_here n listing else option_map_or (with_rule n listing) (rule_of line) (with_entry n listing (entry_of line))

-- the listing with the content of line n, which has to be UTF-8
abbrev pub with_line : ℕ → Listing → List ℕ → Result Listing ManifestFault
with_line n listing line = if is_utf8 line then with_text n listing (without_return line) else Err (BadLine n)

-- the listing with the content of these lines, the first of which has the number n
abbrev pub lines_on : ℕ → List (List ℕ) → Result Listing ManifestFault → Result Listing ManifestFault
lines_on n lines (Err fault) = Err fault
lines_on n [] (Ok listing) = Ok listing
lines_on n (line ∷ lines) (Ok listing) = lines_on (1 + n) lines (with_line n listing line)

abbrev pub some_entries : Result Listing ManifestFault → Result Listing ManifestFault
some_entries (Err fault) = Err fault
some_entries (Ok listing) = if nat_lt 0 (length listing.entries) then Ok listing else Err Empty

-- the listing of a manifest, or the fault of its first faulty line
abbrev pub listing_of : List ℕ → Result Listing ManifestFault
listing_of bytes = some_entries (lines_on 1 (lines_of bytes) (Ok (record { rule = None; paths_here = false; entries = [] })))
