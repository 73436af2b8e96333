-- The results of a search for the files of a table, with the answers so far.
use Rattle.std.specs.Prelude.{◌≡◌, ◌≢◌, ◌<◌, ℕ, if◌then◌else◌, List, [], ◌∷◌, length, map, All, Option, Some, None, Result, Ok, Err, unwrap_or, bytes_eq, string_bytes, ◌⊎◌}
use Rattle.std.specs.List.{position}
use Rattle.std.specs.Option.{option_map_or}
use Rattle.std.specs.Str.{is_utf8}
use Rattle.compose_model.specs.Step.{is_empty}
use Rattle.compose_read.specs.declared.ReadFault.{ReadFault}
use Rattle.compose_read.specs.declared.ReadFault.TheVariants as reading
use Rattle.compose_bundle.specs.Bundle.{Bundle, BundleFits, IsBundle, bundle_bytes}
use Rattle.compose_bundle.specs.Decoded.{◌>>=◌}
use Rattle.compose_bundle.specs.Written.{max_payload}
use Rattle.compose_find.specs.Expand.{Words}
use Rattle.compose_find.specs.Found.{TriedFile, FoundSource, Stop, wanted, missing_root, missing_file, refused, found, held, held_at}
use Rattle.compose_find.specs.declared.fault.IncludeFault.{IncludeFault}
use Rattle.compose_find.specs.declared.fault.IncludeFault.TheVariants as include
use Rattle.compose_find.specs.Locales.{locale_file}
use Rattle.compose_messages.specs.Places.{position_of}
use Rattle.compose_c.specs.Answers.{answers_of}
use Rattle.compose_c.specs.Faults.{of_part, lexical_number, lexical_place}
use Rattle.compose_c.specs.declared.fault.FaultRecord.{FaultRecord}
use Rattle.compose_c.specs.declared.find.SearchResult.{SearchResult}
use Rattle.compose_c.specs.declared.find.SearchResult.TheVariants.{Found, Wanted}

-- ---- a search

-- the paths looked for with what was found there, the expansions of %S, %L and %H, and the path of
-- the root
pub record Search : Type 0 where
  pub files : List TriedFile
  pub words : Words
  pub root : List ℕ

abbrev pub search_by : List TriedFile → Words → List ℕ → Search
search_by files words root = record { files = files; words = words; root = root }

abbrev pub text_of : List ℕ → Option (List ℕ)
text_of bytes = if is_utf8 bytes then Some bytes else None

-- a path; one without bytes is not known
abbrev pub known : List ℕ → Option (List ℕ)
known path = if is_empty path then None else Some path

abbrev pub words_of : List ℕ → List ℕ → List ℕ → List ℕ → Option Words
words_of system locale home sysroot =
    text_of system >>= λ s. text_of locale >>= λ l. text_of home >>= λ h. text_of sysroot >>= λ r.
    Some (record { system = s; locale = known l; home = known h; root = known r })

-- the search with the answers in a payload and these paths; none if the payload is malformed or a
-- path is not UTF-8
abbrev pub search_of : List ℕ → List ℕ → List ℕ → List ℕ → List ℕ → List ℕ → Option Search
search_of answers root system locale home sysroot =
    answers_of answers >>= λ files. text_of root >>= λ r. words_of system locale home sysroot >>= λ words.
    Some (search_by files words r)

-- ---- what it finds

-- the bundle of these sources, with the contents of their files, and of this certificate
abbrev pub bundle_of : Search → List ℕ → List FoundSource → Bundle
bundle_of s certificate sources = record { sources = map (held s.files) sources; certificate = certificate }

-- all sources are found, and the bytes are their bundle
pub record IsFound (s : Search) (certificate bytes : List ℕ) : Type 0 where
  pub sources : List FoundSource
  pub found : found s.files s.words s.root ≡ Ok sources
  pub is : IsBundle bytes (bundle_of s certificate sources)

-- the path has to be looked for next, and no answer has it yet
pub record IsWanted (s : Search) (path : List ℕ) : Type 0 where
  pub is : found s.files s.words s.root ≡ Err (wanted path)
  pub new : All (λ f. f.path ≢ path) s.files

abbrev pub IsSearchResult : Search → List ℕ → SearchResult → Type 0
IsSearchResult s certificate (Found bytes) = IsFound s certificate bytes.items
IsSearchResult s certificate (Wanted path) = IsWanted s (string_bytes path)

abbrev pub search_result_bytes : SearchResult → List ℕ
search_result_bytes (Found bytes) = bytes.items
search_result_bytes (Wanted path) = string_bytes path

-- the number that the call returns to C
abbrev pub search_result_number : SearchResult → ℕ
search_result_number (Found bytes) = 0
search_result_number (Wanted path) = 3

-- ---- why it fails

-- the index of the answer for a path, or the number of answers
abbrev pub answer_for : List TriedFile → List ℕ → ℕ
answer_for files path = unwrap_or (position (λ f. bytes_eq path f.path) files) (length files)

abbrev pub include_code : IncludeFault → ℕ
include_code (include.Text fault) = 4
include_code include.UnknownPercent = 5
include_code include.NoLocale = 6
include_code include.NoHome = 7
include_code include.TwoFiles = 8
include_code include.TooManySources = 9
include_code include.IncludeDepth = 10
include_code include.NoMemory = 11

abbrev pub include_lexical : IncludeFault → ℕ
include_lexical (include.Text fault) = lexical_number fault
include_lexical fault = 0

abbrev pub include_place : IncludeFault → ℕ
include_place (include.Text fault) = lexical_place fault
include_place fault = 0

-- the fault with which reading the file would reject the include; it has the include's column
abbrev pub as_read : ℕ → IncludeFault → ReadFault
as_read line (include.Text fault) = reading.Lex 0 line fault
as_read line fault = reading.MissingInclude 0 line

-- the column of a fault in the file at this path
abbrev pub column_in : List TriedFile → List ℕ → ReadFault → ℕ
column_in files from fault =
    option_map_or (λ p. p.1.column) (position_of (record { name = []; bytes = unwrap_or (held_at files from) [] } ∷ []) fault) 0

abbrev pub in_answer : List TriedFile → List ℕ → ℕ → ℕ → ℕ → FaultRecord
in_answer files from line column code =
    record { part = 10; code = code; lexical = 0; value = 0; source = answer_for files from; line = line; column = column; at = 0; reserved = 0 ∷ 0 ∷ [] }

abbrev pub of_missing_root : List TriedFile → List ℕ → FaultRecord
of_missing_root files path = in_answer files path 0 0 2

abbrev pub of_missing_file : List TriedFile → List ℕ → ℕ → FaultRecord
of_missing_file files from line = in_answer files from line (column_in files from (reading.MissingInclude 0 line)) 3

abbrev pub of_include : List TriedFile → List ℕ → ℕ → IncludeFault → FaultRecord
of_include files from line fault =
    record (in_answer files from line (column_in files from (as_read line fault)) (include_code fault)) { lexical = include_lexical fault; at = include_place fault }

-- the fault for the reason why the search stops; none if a path has to be looked for
abbrev pub of_stop : List TriedFile → Stop → Option FaultRecord
of_stop files (wanted path) = None
of_stop files (missing_root path) = Some (of_missing_root files path)
of_stop files (missing_file from line path) = Some (of_missing_file files from line)
of_stop files (refused from line fault) = Some (of_include files from line fault)

-- the search stops with this fault
pub record IsStopped (s : Search) (fault : FaultRecord) : Type 0 where
  pub stop : Stop
  pub is : found s.files s.words s.root ≡ Err stop
  pub numbers : of_stop s.files stop ≡ Some fault

-- the bundle is too large for a load
abbrev pub IsLarge : Bundle → Type 0
IsLarge b = BundleFits b → max_payload < length (bundle_bytes b)

-- the bundle is written, or it is too large for a load, or an allocation failed
abbrev pub IsBundled : Bundle → Result SearchResult FaultRecord → Type 0
IsBundled b (Ok (Found bytes)) = IsBundle bytes.items b
IsBundled b (Ok (Wanted path)) = ⊥
IsBundled b (Err fault) = (fault ≡ of_part 6 0) ⊎ (IsLarge b × (fault ≡ of_part 2 2))

-- the sources are found, and their bundle is too large
pub record IsTooLarge (s : Search) (certificate : List ℕ) (fault : FaultRecord) : Type 0 where
  pub sources : List FoundSource
  pub found : found s.files s.words s.root ≡ Ok sources
  pub large : IsLarge (bundle_of s certificate sources)
  pub numbers : fault ≡ of_part 2 2

-- an allocation failed, or the search stops with a fault, or its bundle is too large
abbrev pub FailsSearch : Search → List ℕ → FaultRecord → Type 0
FailsSearch s certificate fault = (fault ≡ of_part 6 0) ⊎ (IsStopped s fault ⊎ IsTooLarge s certificate fault)

-- ---- for C

abbrev pub Finds : Option Search → List ℕ → List ℕ → Type 0
Finds search certificate bytes = (s : Search) × (search ≡ Some s) × IsFound s certificate bytes

abbrev pub Wants : Option Search → List ℕ → Type 0
Wants search path = (s : Search) × (search ≡ Some s) × IsWanted s path

abbrev pub IsSearchResultOf : Option Search → List ℕ → SearchResult → Type 0
IsSearchResultOf search certificate search_result = (s : Search) × (search ≡ Some s) × IsSearchResult s certificate search_result

-- the bundle that is found, or the path to look for, has this number of bytes
abbrev pub Needs : Option Search → List ℕ → ℕ → Type 0
Needs search certificate size = (bytes : List ℕ) × (Finds search certificate bytes ⊎ Wants search bytes) × (size ≡ length bytes)

-- the answers are malformed or a path is not UTF-8, or an allocation failed, or the search fails
abbrev pub ReportsFind : Option Search → List ℕ → FaultRecord → Type 0
ReportsFind search certificate fault =
    ((search ≡ None) × (fault ≡ of_part 10 1)) ⊎ ((fault ≡ of_part 6 0) ⊎ ((s : Search) × (search ≡ Some s) × FailsSearch s certificate fault))

-- ---- the table of a locale

-- the path of a locale's table; none if the folder or the locale is not UTF-8, or if the locale has
-- no table
abbrev pub locale_path : List ℕ → List ℕ → List ℕ → List ℕ → Option (List ℕ)
locale_path folder compose_dir aliases locale =
    text_of folder >>= λ f. text_of locale >>= λ l. locale_file f compose_dir aliases l
