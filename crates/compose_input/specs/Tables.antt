-- The files of a table, as a manifest lists them, read from a folder (this project's profile).
use Rattle.std.specs.Prelude.{◌≡◌, ℕ, List, [], ◌∷◌, ◌++◌, map, Option, Some, None, Ok, option_copied, unwrap_or, string_bytes}
use Rattle.std.specs.Option.{option_map}
use Rattle.compose_model.specs.declared.Rule.{Rule}
use Rattle.compose_model.specs.declared.Rule.TheVariants.{Refuse}
use Rattle.compose_read.specs.Lines.{Source}
use Rattle.compose_folder.specs.Content.{Entry as FolderEntry, File, IsHeld}
use Rattle.compose_manifest.specs.Manifest.{Listing, ManifestEntry, listing_of}
use Rattle.compose_manifest.specs.Text.{file_path}
use Rattle.compose_find.specs.declared.table.FoundTable.{FoundTable}
use Rattle.compose_migration.specs.Migration.{TableSources}
use Rattle.compose_input.specs.Texts.{named}
use Rattle.compose_input.specs.Search.{IsSystemTable, IsNote}
use Rattle.compose_input.specs.Places.{IsLocaleTable}
use Rattle.compose_input.specs.declared.places.Places.{Places}
use Rattle.compose_input.specs.declared.tables.TableFiles.{TableFiles}
use Rattle.compose_input.specs.declared.tables.LocaleTable.{LocaleTable}

-- the file at this path is a manifest that lists this
abbrev pub IsManifest : Option (List FolderEntry) → List ℕ → Listing → Type 0
IsManifest folder at listing = (bytes : List ℕ) × IsHeld folder at (File bytes) × (listing_of bytes ≡ Ok listing)

-- the source of an entry: by its name, with what the folder has under the path of its file
abbrev pub IsSourceOf : Option (List FolderEntry) → ManifestEntry → List ℕ → Source → Type 0
IsSourceOf folder entry path source = (source.name ≡ entry.name) × IsHeld folder (named path) (File source.bytes)

-- the paths and the sources of these entries, in order
abbrev pub AreEntries : Option (List FolderEntry) → Listing → List ℕ → List ManifestEntry → List (List ℕ) → List Source → Type 0
AreEntries folder listing at [] [] [] = Unit {0}
AreEntries folder listing at (entry ∷ entries) (path ∷ paths) (source ∷ sources) =
    (path ≡ file_path listing at entry.path) × IsSourceOf folder entry path source × AreEntries folder listing at entries paths sources
AreEntries folder listing at entries paths sources = ⊥

-- the path and the source of one more entry
abbrev pub IsEntryRead : Option (List FolderEntry) → Listing → List ℕ → ManifestEntry → List (List ℕ) → List (List ℕ) → List Source → List Source → Type 0
IsEntryRead folder listing at entry paths paths' sources sources' =
    (source : Source) × (paths' ≡ paths ++ file_path listing at entry.path ∷ []) × (sources' ≡ sources ++ source ∷ []) × IsSourceOf folder entry (file_path listing at entry.path) source

-- the sources, and the rule for their overlaps
abbrev pub sources_of : TableFiles → TableSources
sources_of table = record { sources = table.sources; rule = table.rule }

-- the table is the one of the manifest at this path
pub record IsListed (folder : Option (List FolderEntry)) (path : List ℕ) (table : TableFiles) : Type 0 where
  pub listing : Listing
  pub manifest : IsManifest folder path listing
  pub entries : AreEntries folder listing path listing.entries (map string_bytes table.paths.items) table.sources
  pub rule : table.rule ≡ unwrap_or listing.rule Refuse
  pub at : string_bytes table.path ≡ path
  pub note : string_bytes table.note ≡ []
  pub locale : table.locale ≡ None

-- the name of a locale, and the path of its table
abbrev pub locale_parts : LocaleTable → List ℕ × List ℕ
locale_parts locale = (string_bytes locale.name, string_bytes locale.path)

-- both, if both are known
abbrev pub named_table : Option (List ℕ) → Option (List ℕ) → Option (List ℕ × List ℕ)
named_table (Some name) (Some path) = Some (name, path)
named_table name path = None

-- the locale is that of these places, with its table, if both are known
abbrev pub IsLocale : Option (List FolderEntry) → Places → Option LocaleTable → Type 0
IsLocale folder places locale =
    (path : Option (List ℕ)) × IsLocaleTable folder places path × (option_map locale_parts locale ≡ named_table (option_copied places.locale) path)

-- the table is the one of the Compose file at this path, as it lies on the system, under this rule
pub record IsFoundOnSystem (folder : Option (List FolderEntry)) (places : Places) (path : List ℕ) (rule : Rule) (table : TableFiles) : Type 0 where
  pub found : FoundTable
  pub is : IsSystemTable folder places path found
  pub paths : map string_bytes table.paths.items ≡ map (λ source. source.path) found.files.items
  pub sources : table.sources ≡ found.sources
  pub ruled : table.rule ≡ rule
  pub at : string_bytes table.path ≡ path
  pub note : IsNote places path found.files.items (string_bytes table.note)
  pub locale : IsLocale folder places table.locale
