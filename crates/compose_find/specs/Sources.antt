-- What the search finds: the sources of a table, each of which is the root or included by another
-- one.
use Rattle.std.specs.Prelude.{◌≡◌, ◌+◌, ◌<◌, ◌≤◌, ℕ, List, length, Option, Some, None, IsSome, Ok, All, Contains, map, slice_get, bytes_eq}
use Rattle.std.specs.List.{IsDistinct}
use Rattle.compose_read.specs.Sources.{max_sources}
use Rattle.compose_find.specs.Expand.{Words, include_path}
use Rattle.compose_find.specs.Includes.{Include, includes_of}
use Rattle.compose_find.specs.Found.{TriedFile, FoundSource, found_includes, held_at, held, places, found}

-- one of these places has a file, and none of those before it has one
pub record IsFirstPlace (files : List TriedFile) (places : List (List ℕ)) (place : List ℕ) : Type 0 where
  pub index : ℕ
  pub taken : slice_get places index ≡ Some place
  pub bytes : List ℕ
  pub there : held_at files place ≡ Some bytes
  pub none_before : (i : ℕ) (other : List ℕ) → i < index → slice_get places i ≡ Some other → found_includes files other ≡ Ok None

-- the include names the source by its raw text, which expands to a path: the source is at the first
-- of the path's places that has a file
pub record LeadsTo (files : List TriedFile) (words : Words) (from : FoundSource) (include : Include) (to : FoundSource) : Type 0 where
  pub name : to.name ≡ include.raw
  pub path : List ℕ
  pub expands : include_path words include.raw ≡ Ok path
  pub lies : IsFirstPlace files (places words.root from.path path) to.path

-- an include in the file of `from` leads to the source `to`
pub record IncludesSource (files : List TriedFile) (words : Words) (from to : FoundSource) : Type 0 where
  pub bytes : List ℕ
  pub there : held_at files from.path ≡ Some bytes
  pub include : Include
  pub listed : Contains (includes_of bytes) include
  pub leads : LeadsTo files words from include to

-- there is a file of `from`, and each of its includes leads to one of these sources
pub record IsFollowed (files : List TriedFile) (words : Words) (sources : List FoundSource) (from : FoundSource) : Type 0 where
  pub bytes : List ℕ
  pub there : held_at files from.path ≡ Some bytes
  pub lead : (include : Include) → Contains (includes_of bytes) include → (to : FoundSource) × Contains sources to × LeadsTo files words from include to

-- the root comes first, each include of each source leads to a source, each source but the root is
-- included by one before it, no two have the same name, and there are not too many
pub record AreSources (files : List TriedFile) (words : Words) (root : List ℕ) (sources : List FoundSource) : Type 0 where
  pub root_first : slice_get sources 0 ≡ Some (record { name = root; path = root; depth = 0 })
  pub followed : (from : FoundSource) → Contains sources from → IsFollowed files words sources from
  pub included : (i : ℕ) (to : FoundSource) → slice_get sources (1 + i) ≡ Some to → (j : ℕ) × (from : FoundSource) × (j ≤ i) × (slice_get sources j ≡ Some from) × IncludesSource files words from to
  pub distinct : IsDistinct bytes_eq (map (λ m. m.name) sources)
  pub few : length sources ≤ max_sources

-- there is a file at the path of each of these sources, no two have the same name, and there are
-- not too many
pub record AreHeld (files : List TriedFile) (sources : List FoundSource) : Type 0 where
  pub there : All (λ m. IsSome (held_at files m.path)) sources
  pub distinct : IsDistinct bytes_eq (map (λ m. m.name) sources)
  pub few : length sources ≤ max_sources

-- the result of a search that succeeds
abbrev pub FindsSources : Type 0
FindsSources = (files : List TriedFile) (words : Words) (root : List ℕ) (sources : List FoundSource) → found files words root ≡ Ok sources → AreSources files words root sources

-- there is a file at the path of each source that is found, and the source has its bytes
abbrev pub FindsBytes : Type 0
FindsBytes =
    (files : List TriedFile) (words : Words) (root : List ℕ) (sources : List FoundSource) → found files words root ≡ Ok sources → (source : FoundSource) → Contains sources source
    → held_at files source.path ≡ Some (held files source).bytes

-- a table that is found without a locale is found with any: no text of its includes has `%L`
abbrev pub FindsWithAny : Type 0
FindsWithAny = (files : List TriedFile) (words : Words) (root : List ℕ) (locale : Option (List ℕ)) (sources : List FoundSource)
    → found files (record words { locale = None }) root ≡ Ok sources → found files (record words { locale = locale }) root ≡ Ok sources
