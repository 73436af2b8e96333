-- The manifest of the sources that were found.
use Rattle.std.specs.Prelude.{◌≡◌, ℕ, Bool, true, false, not, ◌&&◌, if◌then◌else◌, List, [], ◌∷◌, ◌++◌, flat_map, Result, Ok, Err, unwrap_or, string_bytes, bytes_eq, IsTrue}
use Rattle.std.specs.declared.alloc.Global.{Global}
use Rattle.std.specs.declared.string.String.{String}
use Rattle.compose_model.specs.declared.Rule.{Rule}
use Rattle.compose_model.specs.declared.Rule.TheVariants.{Refuse, Longest}
use Rattle.compose_find.specs.Expand.{beside}
use Rattle.compose_find.specs.Found.{FoundSource}
use Rattle.compose_manifest.specs.Manifest.{ManifestEntry, Listing, listing_of}
use Rattle.compose_manifest.specs.declared.writing.WriteFault.{WriteFault}
use Rattle.compose_manifest.specs.declared.writing.WriteFault.TheVariants.{Unwritable, NoMemory}

-- the name, a tab (code 9), the path and a newline (code 10)
abbrev pub line_of : FoundSource → List ℕ
line_of source = source.name ++ 9 ∷ source.path ++ 10 ∷ []

abbrev pub manifest_bytes : List FoundSource → List ℕ
manifest_bytes sources = flat_map line_of sources

-- the entry has the source's name and path
abbrev pub is_entry : ManifestEntry → FoundSource → Bool
is_entry entry source = bytes_eq entry.name source.name && bytes_eq entry.path source.path

-- the entries are those of the sources, in order
abbrev pub are_entries : List ManifestEntry → List FoundSource → Bool
are_entries [] [] = true
are_entries [] (source ∷ sources) = false
are_entries (entry ∷ entries) [] = false
are_entries (entry ∷ entries) (source ∷ sources) = is_entry entry source && are_entries entries sources

abbrev pub is_refuse : Rule → Bool
is_refuse Refuse = true
is_refuse Longest = false

-- the listing has the sources' entries, and refuses overlaps; its relative paths are relative to
-- the working directory
abbrev pub lists : Listing → List FoundSource → Bool
lists listing sources = not listing.paths_here && is_refuse (unwrap_or listing.rule Refuse) && are_entries listing.entries sources

-- the path of an entry's file, for a manifest with this listing at a path
abbrev pub file_path : Listing → List ℕ → List ℕ → List ℕ
file_path listing manifest path = if listing.paths_here then beside manifest path else path

-- reading the bytes as a manifest lists the sources
abbrev pub ReadsAs : List ℕ → List FoundSource → Type 0
ReadsAs bytes sources = (listing : Listing) × (listing_of bytes ≡ Ok listing) × IsTrue (lists listing sources)

-- the text is the sources' manifest, and reading it lists them; it is unwritable if reading it
-- would not
abbrev pub IsWritten : List FoundSource → Result (String Global) WriteFault → Type 0
IsWritten sources (Ok text) = (string_bytes text ≡ manifest_bytes sources) × ReadsAs (manifest_bytes sources) sources
IsWritten sources (Err Unwritable) = ¬ (ReadsAs (manifest_bytes sources) sources)
IsWritten sources (Err NoMemory) = Unit {0}
