-- What a reader comes upon from a root on: the lines of an included file stand where it is
-- included.
use Rattle.std.specs.Prelude.{ℕ, zero, suc, ◌+◌, bytes_eq, List, [], ◌∷◌, ◌++◌, map, Option, Some, None, slice_get}
use Rattle.std.specs.List.{position}
use Rattle.std.specs.Option.{option_map_or, option_and_then}
use Rattle.compose_readers.specs.Definitions.{Definition}
use Rattle.compose_readers.specs.Fates.{Entry}
use Rattle.compose_readers.specs.declared.cause.Cause.{Cause}
use Rattle.compose_readers.specs.Files.{LineEnd, nothing, left_out, includes, LineRead, FileRead}

-- a definition, something that is left out, or an include of the file at a path
pub data What : Type 0 where
  defines : Definition → What
  leaves_out : Cause → What
  leads_to : List ℕ → What

abbrev pub entry_of : What → Entry
entry_of (defines d) = Some d
entry_of (leaves_out cause) = None
entry_of (leads_to path) = None

-- what a line of a file has
pub record Told : Type 0 where
  pub file : ℕ
  pub line : ℕ
  pub what : What

abbrev pub entries_of : List Told → List Entry
entries_of told = map (λ t. entry_of t.what) told

-- ---- a line

abbrev pub parts_behind : LineEnd → List What
parts_behind nothing = []
parts_behind (left_out cause) = leaves_out cause ∷ []
parts_behind (includes path) = leads_to path ∷ []

abbrev pub parts_in : LineRead → List What
parts_in r = map defines r.definitions ++ parts_behind r.end

abbrev pub told_in : ℕ → ℕ → List What → List Told
told_in file line parts = map (λ part. record { file = file; line = line; what = part }) parts

-- ---- files

-- what is told of these lines; `inside` is told of a file that one of them includes
abbrev pub told_of : (LineEnd → List Told) → ℕ → ℕ → List LineRead → List Told
told_of inside file line [] = []
told_of inside file line (r ∷ rs) = told_in file line (parts_in r) ++ (inside r.end ++ told_of inside file (line + 1) rs)

abbrev pub lines_at : List FileRead → ℕ → List LineRead
lines_at files index = option_map_or (λ f. f.lines) (slice_get files index) []

abbrev pub told_file : List FileRead → (LineEnd → List Told) → ℕ → List Told
told_file files inside index = told_of inside index 1 (lines_at files index)

-- the file with a path
abbrev pub index_of : List FileRead → List ℕ → Option ℕ
index_of files path = position (λ f. bytes_eq f.path path) files

abbrev pub told_included : List FileRead → (LineEnd → List Told) → LineEnd → List Told
told_included files inside nothing = []
told_included files inside (left_out cause) = []
told_included files inside (includes path) = option_map_or (told_file files inside) (index_of files path) []

-- what is told of a file that the end of a line includes, if `left` includes may lead on from there
abbrev pub told_below : List FileRead → ℕ → LineEnd → List Told
told_below files zero end = []
told_below files (suc left) end = told_included files (told_below files left) end

-- all that is told from a file on
abbrev pub told_from : List FileRead → ℕ → ℕ → List Told
told_from files depth index = told_file files (told_below files depth) index
