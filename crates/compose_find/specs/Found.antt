-- The search for the files of a table: every file that an include names, by the raw text of the
-- include.
use Rattle.std.specs.Prelude.{ℕ, ◌+◌, nat_le, zero, suc, if◌then◌else◌, List, [], ◌∷◌, ◌++◌, length, Option, Some, None, is_some, Result, Ok, Err, unwrap_or, bytes_eq, slice_get}
use Rattle.std.specs.List.{find, cons_option}
use Rattle.std.specs.Option.{option_and_then, option_map, option_map_or}
use Rattle.compose_read.specs.Lines.{Source, max_depth}
use Rattle.compose_read.specs.Sources.{max_sources}
use Rattle.compose_text.specs.Results.{◌>>=◌}
use Rattle.compose_find.specs.Expand.{Words, include_path, beside, below_root}
use Rattle.compose_find.specs.Includes.{Include, includes_of}
use Rattle.compose_find.specs.declared.fault.IncludeFault.{IncludeFault}
use Rattle.compose_find.specs.declared.fault.IncludeFault.TheVariants.{TwoFiles, TooManySources, IncludeDepth}

-- a path that was looked for: the bytes of its file, or none if there is no file
pub record TriedFile : Type 0 where
  pub path : List ℕ
  pub bytes : Option (List ℕ)

-- a source: the raw text that names it, its path, and the smallest number of includes that lead
-- from the root to it
pub record FoundSource : Type 0 where
  pub name : List ℕ
  pub path : List ℕ
  pub depth : ℕ

-- why the search ends: a path has to be looked for first; there is no root; or the include on this
-- line (counted from 1) of the file at this path has no file, or can't be resolved
pub data Stop : Type 0 where
  wanted : List ℕ → Stop
  missing_root : List ℕ → Stop
  missing_file : List ℕ → ℕ → List ℕ → Stop
  refused : List ℕ → ℕ → IncludeFault → Stop

-- ---- files

abbrev pub includes_or_wanted : List ℕ → Option TriedFile → Result (Option (List Include)) Stop
includes_or_wanted path None = Err (wanted path)
includes_or_wanted path (Some file) = Ok (option_map includes_of file.bytes)

-- the includes of the file at a path, none if there is no file; the path is wanted if it was not
-- looked for
abbrev pub found_includes : List TriedFile → List ℕ → Result (Option (List Include)) Stop
found_includes files path = includes_or_wanted path (find (λ f. bytes_eq path f.path) files)

abbrev pub there_or_missing : List ℕ → Option (List Include) → Result (List Include) Stop
there_or_missing path None = Err (missing_root path)
there_or_missing path (Some includes) = Ok includes

-- the includes of the file at a path
abbrev pub includes_at : List TriedFile → List ℕ → Result (List Include) Stop
includes_at files path = do
  found ← found_includes files path
  there_or_missing path found

-- the bytes of the file at a path, if one was found there
abbrev pub held_at : List TriedFile → List ℕ → Option (List ℕ)
held_at files path = option_and_then (λ f. f.bytes) (find (λ f. bytes_eq path f.path) files)

-- ---- an include in the file `from`

abbrev pub refusal : FoundSource → Include → IncludeFault → Stop
refusal from include fault = refused from.path include.line fault

abbrev pub at_include : {A : Type 0} → FoundSource → Include → Result A IncludeFault → Result A Stop
at_include from include (Ok x) = Ok x
at_include from include (Err fault) = Err (refusal from include fault)

-- the places where the file of an include is looked for, in this order: an absolute path below the
-- root, if a root is given; the path itself; and beside the including file
abbrev pub places : Option (List ℕ) → List ℕ → List ℕ → List (List ℕ)
places root from path = cons_option (below_root root path) (path ∷ beside from path ∷ [])

-- the first of these places at which there is a file
unfoldable pub first_place : List TriedFile → Stop → List (List ℕ) → Result (List ℕ) Stop
first_place files missing [] = Err missing
first_place files missing (place ∷ places) = do
  there ← found_includes files place
  if is_some there then Ok place else first_place files missing places

-- the path at which the file of an include with this path is found
abbrev pub located : List TriedFile → Words → FoundSource → Include → List ℕ → Result (List ℕ) Stop
located files words from include path = first_place files (missing_file from.path include.line path) (places words.root from.path path)

-- the path of the file of an include
abbrev pub leads_to : List TriedFile → Words → FoundSource → Include → Result (List ℕ) Stop
leads_to files words from include =
    if nat_le max_depth from.depth then Err (refusal from include IncludeDepth) else (do
      path ← at_include from include (include_path words include.raw)
      located files words from include path)

-- ---- the sources

-- the sources with the one that an include names; it may be among them already, with the same path
abbrev pub with_source : FoundSource → Include → List ℕ → Option FoundSource → List FoundSource → Result (List FoundSource) Stop
with_source from include path (Some known) sources = if bytes_eq known.path path then Ok sources else Err (refusal from include TwoFiles)
with_source from include path None sources =
    if nat_le max_sources (length sources) then Err (refusal from include TooManySources) else
    Ok (sources ++ record { name = include.raw; path = path; depth = 1 + from.depth } ∷ [])

abbrev pub with_include : List TriedFile → Words → FoundSource → Include → List FoundSource → Result (List FoundSource) Stop
with_include files words from include sources = do
  path ← leads_to files words from include
  with_source from include path (find (λ m. bytes_eq include.raw m.name) sources) sources

-- the sources with those that the file `from` includes
abbrev pub with_includes : List TriedFile → Words → FoundSource → List Include → List FoundSource → Result (List FoundSource) Stop
with_includes files words from [] sources = Ok sources
with_includes files words from (include ∷ includes) sources = do
  more ← with_include files words from include sources
  with_includes files words from includes more

-- the sources with those that one of them includes
abbrev pub with_includes_of : List TriedFile → Words → FoundSource → List FoundSource → Result (List FoundSource) Stop
with_includes_of files words from sources = do
  includes ← includes_at files from.path
  with_includes files words from includes sources

-- the sources with those that the sources from this index on include, one source after another; the
-- number bounds how many sources are read
unfoldable pub search_from : List TriedFile → Words → ℕ → ℕ → List FoundSource → Result (List FoundSource) Stop
search_from files words zero index sources = Ok sources
search_from files words (suc left) index sources = option_map_or (λ from. do
  more ← with_includes_of files words from sources
  search_from files words left (1 + index) more) (slice_get sources index) (Ok sources)

-- every source, the root first, whose name is its path; the others in the order in which they are
-- first included
abbrev pub found : List TriedFile → Words → List ℕ → Result (List FoundSource) Stop
found files words root = search_from files words max_sources 0 (record { name = root; path = root; depth = 0 } ∷ [])

-- a source with the bytes of its file
abbrev pub held : List TriedFile → FoundSource → Source
held files source = record { name = source.name; bytes = unwrap_or (held_at files source.path) [] }
