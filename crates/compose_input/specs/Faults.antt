-- Why an input of a command can't be read, by what the folder has (this project's profile). Memory
-- may run out at any time; nothing more is known then.
use Rattle.std.specs.Prelude.{◌≡◌, ◌⊎◌, ℕ, if◌then◌else◌, List, [], ◌∷◌, ◌++◌, Option, Some, None, Result, Err, MatchBool, bytes_eq, string_bytes, codes}
use Rattle.std.specs.List.{cons_option}
use Rattle.std.specs.declared.io.ErrorKind.{ErrorKind}
use Rattle.std.specs.declared.io.ErrorKind.TheVariants.{NotFound}
use Rattle.compose_read.specs.Lines.{Source}
use Rattle.compose_read.specs.Sources.{add_fault}
use Rattle.compose_read.specs.declared.sources.SourceFault.{SourceFault}
use Rattle.compose_folder.specs.Content.{Content, Entry as FolderEntry, File, Unreadable, IsHeld, held}
use Rattle.compose_find.specs.Expand.{Words, beside, below_root}
use Rattle.compose_find.specs.Found.{FoundSource, TriedFile, Stop, missing_root, missing_file, refused, found}
use Rattle.compose_find.specs.declared.found_source.FindFault.{FindFault}
use Rattle.compose_find.specs.declared.found_source.FindFault.TheVariants as finding
use Rattle.compose_manifest.specs.Manifest.{Listing, ManifestEntry, listing_of}
use Rattle.compose_manifest.specs.Text.{file_path}
use Rattle.compose_input.specs.Texts.{IsRead, named}
use Rattle.compose_input.specs.Names.{IsNamedText}
use Rattle.compose_input.specs.Places.{words_with, IsLocaleTable}
use Rattle.compose_input.specs.Search.{AreSearched, opened}
use Rattle.compose_input.specs.Tables.{IsManifest, AreEntries}
use Rattle.compose_input.specs.declared.fault.Fault.{Fault}
use Rattle.compose_input.specs.declared.fault.Fault.TheVariants.{Unread, Manifest, Source as SourceRefused, Find, NoMemory}
use Rattle.compose_input.specs.declared.fault.Unopened.{Unopened}
use Rattle.compose_input.specs.declared.places.Places.{Places}

-- ---- files of names

-- the built-in names are always there; another file can't be read
abbrev pub FailsName : Option (List FolderEntry) → List ℕ → Fault → Type 0
FailsName folder name fault = MatchBool (bytes_eq name (codes "builtin")) (fault ≡ NoMemory) (IsRead folder name (Err fault))

-- the first of these files that can't be read: those before it can
abbrev pub FailNames : Option (List FolderEntry) → List (List ℕ) → Fault → Type 0
FailNames folder [] fault = fault ≡ NoMemory
FailNames folder (name ∷ names) fault = FailsName folder name fault ⊎ ((text : List ℕ) × IsNamedText folder (record { name = name; text = text }) × FailNames folder names fault)

-- ---- manifests

-- the file at this path is not a manifest
abbrev pub IsNoManifest : Option (List FolderEntry) → List ℕ → Fault → Type 0
IsNoManifest folder at (Manifest path bytes why) = (string_bytes path ≡ at) × IsHeld folder at (File bytes.items) × (listing_of bytes.items ≡ Err why)
IsNoManifest folder at fault = ⊥

-- it can't be read, or is not a manifest
abbrev pub FailsManifest : Option (List FolderEntry) → List ℕ → Fault → Type 0
FailsManifest folder at fault = IsRead folder at (Err fault) ⊎ IsNoManifest folder at fault

-- a file can't be among the sources of this part's table
abbrev pub IsRefusedSource : List ℕ → List ℕ → Option SourceFault → Fault → Type 0
IsRefusedSource part at why (SourceRefused p path fault) = (p.now ≡ part) × (string_bytes path ≡ at) × (why ≡ Some fault)
IsRefusedSource part at why fault = ⊥

-- the file of an entry can't be read, or can't be a source in addition to these
abbrev pub FailsEntry : Option (List FolderEntry) → List ℕ → Listing → List ℕ → ManifestEntry → List Source → Fault → Type 0
FailsEntry folder part listing at entry sources fault =
    IsRead folder (named (file_path listing at entry.path)) (Err fault) ⊎ IsRefusedSource part at (add_fault sources entry.name) fault

-- the first of these entries whose file is refused; the sources are those of the entries before it
pub record FailEntries (folder : Option (List FolderEntry)) (part : List ℕ) (listing : Listing) (at : List ℕ) (entries : List ManifestEntry) (fault : Fault) : Type 0 where
  pub before : List ManifestEntry
  pub entry : ManifestEntry
  pub after : List ManifestEntry
  pub is : entries ≡ before ++ entry ∷ after
  pub paths : List (List ℕ)
  pub sources : List Source
  pub read : AreEntries folder listing at before paths sources
  pub fails : FailsEntry folder part listing at entry sources fault

-- the manifest at this path, or the file of one of its entries
abbrev pub FailsListed : Option (List FolderEntry) → List ℕ → List ℕ → Fault → Type 0
FailsListed folder part at fault = FailsManifest folder at fault ⊎ ((listing : Listing) × IsManifest folder at listing × FailEntries folder part listing at listing.entries fault)

-- ---- Compose files as they lie on a system

-- the reason why nothing is read of this: `NotFound` if it can be read by now
abbrev pub kind_of : Content → ErrorKind
kind_of (File bytes) = NotFound
kind_of (Unreadable kind) = kind

-- the reason why nothing is read at the path, if it is known what the folder has
abbrev pub IsKind : Option (List FolderEntry) → List ℕ → ErrorKind → Type 0
IsKind None path kind = kind ≡ kind
IsKind (Some entries) path kind = kind ≡ kind_of (held entries path)

-- the path, and the reason why nothing is read there in the search for the files of this root
abbrev pub IsUnopened : Option (List FolderEntry) → List ℕ → List ℕ → Unopened → Type 0
IsUnopened folder root path unopened = (string_bytes unopened.path ≡ path) × IsKind folder (opened root path) unopened.kind

abbrev pub AreUnopened : Option (List FolderEntry) → List ℕ → List (List ℕ) → List Unopened → Type 0
AreUnopened folder root [] [] = Unit {0}
AreUnopened folder root (path ∷ paths) (unopened ∷ more) = IsUnopened folder root path unopened × AreUnopened folder root paths more
AreUnopened folder root paths unopened = ⊥

-- the places at which the file of an include in the file `from` is searched for, each once
abbrev pub tried_places : Option (List ℕ) → List ℕ → List ℕ → List (List ℕ)
tried_places root from path = cons_option (below_root root path) (path ∷ (if bytes_eq (beside from path) path then [] else beside from path ∷ []))

-- the places at which the file of an include was searched for; none if the search ended for another
-- reason
abbrev pub places_of : Option (List ℕ) → FindFault → List (List ℕ)
places_of root (finding.MissingFile from line path) = tried_places root (string_bytes from) (string_bytes path)
places_of root fault = []

abbrev pub AreTried : Option (List FolderEntry) → Words → List ℕ → FindFault → List Unopened → Type 0
AreTried folder words root fault tried = AreUnopened folder root (places_of words.root fault) tried

-- the root can't be read, and the reason; a definition for a private function
abbrev pub IsMissingRoot : Option (List FolderEntry) → List ℕ → List ℕ → Fault → Type 0
IsMissingRoot folder root path (Unread unopened) = IsUnopened folder root path unopened
IsMissingRoot folder root path fault = ⊥

-- the search ended with this fault of an include; a definition for a private function
abbrev pub IsTriedFault : Option (List FolderEntry) → Words → List ℕ → FindFault → Fault → Type 0
IsTriedFault folder words root why (Find fault tried) = (fault ≡ why) × AreTried folder words root why tried.items
IsTriedFault folder words root why fault = ⊥

-- an include has no file, or leads nowhere
abbrev pub IsIncludeFault : Result (List FoundSource) Stop → FindFault → Type 0
IsIncludeFault ended (finding.MissingFile from line path) = ended ≡ Err (missing_file (string_bytes from) line (string_bytes path))
IsIncludeFault ended (finding.Include from line fault) = ended ≡ Err (refused (string_bytes from) line fault)
IsIncludeFault ended fault = ⊥

-- the search ended this way: the root can't be read, or an include has no file
abbrev pub EndsSearch : Option (List FolderEntry) → Words → List ℕ → Result (List FoundSource) Stop → Fault → Type 0
EndsSearch folder words root ended (Unread unopened) = (ended ≡ Err (missing_root (string_bytes unopened.path))) × IsKind folder (opened root (string_bytes unopened.path)) unopened.kind
EndsSearch folder words root ended (Find fault tried) = IsIncludeFault ended fault × AreTried folder words root fault tried.items
EndsSearch folder words root ended NoMemory = Unit {0}
EndsSearch folder words root ended fault = ⊥

-- the search for the files of this root, in what the folder has
pub record FailsSearch (folder : Option (List FolderEntry)) (words : Words) (root : List ℕ) (fault : Fault) : Type 0 where
  pub files : List TriedFile
  pub looked : AreSearched folder root files
  pub ends : EndsSearch folder words root (found files words root) fault

-- the same for the file at this path, as it lies on the system
abbrev pub FailsFound : Option (List FolderEntry) → Places → List ℕ → Fault → Type 0
FailsFound folder places path fault = (fault ≡ NoMemory) ⊎ ((locale : Option (List ℕ)) × IsLocaleTable folder places locale × FailsSearch folder (words_with places locale) path fault)
