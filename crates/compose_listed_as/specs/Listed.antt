-- A table as a reader has it, or why the reader refuses it.
use Rattle.std.specs.Prelude.{◌≡◌, ℕ, true, false, List, [], ◌++◌, flat_map, Option, Some, None, string_bytes, codes}
use Rattle.keysym_core.specs.Names.{KeysymNames}
use Rattle.compose_readers.specs.Files.{FileRead}
use Rattle.compose_readers.specs.Refusals.{refusal_from}
use Rattle.compose_readers.specs.Words.{refusal_words}
use Rattle.compose_readers.specs.declared.walking.Refusal.{Refusal}
use Rattle.compose_readers.specs.declared.xkbcommon.Version.{Version}
use Rattle.compose_listed_as.specs.Judged.{Judged, all_judged}
use Rattle.compose_listed_as.specs.Line.{taken_line}
use Rattle.compose_listed_as.specs.Report.{report, reader_name}
use Rattle.compose_listed_as.specs.declared.listed.ListedAs.{ListedAs}

-- the lines of the definitions that are taken, in reading order
abbrev pub taken_lines : KeysymNames → List FileRead → List Judged → List ℕ
taken_lines names files js = flat_map (taken_line names files) js

pub record IsTakenTable (version : Version) (names : KeysymNames) (files : List FileRead) (js : List Judged) (listed : ListedAs) : Type 0 where
  pub lists : string_bytes listed.lines ≡ taken_lines names files js
  pub reports : string_bytes listed.report ≡ report version files js
  pub taken : listed.is_refused ≡ false

-- that the reader refuses the table, and why
abbrev pub refusal_text : Version → Refusal → List ℕ
refusal_text version refusal = codes ": " ++ (reader_name version ++ (codes " refuses the table: " ++ refusal_words refusal))

-- why, and where; for example `composecheck: a:3: libxkbcommon 1.7 refuses the table: a file is
-- empty: b`
pub record IsRefusedTable (version : Version) (refusal : Refusal) (listed : ListedAs) : Type 0 where
  pub place : List ℕ
  pub behind : List ℕ
  pub lists : string_bytes listed.lines ≡ []
  pub reports : string_bytes listed.report ≡ codes "composecheck: " ++ (place ++ (refusal_text version refusal ++ behind))
  pub refused : listed.is_refused ≡ true

abbrev pub IsListedBy : Version → KeysymNames → List FileRead → Option Refusal → ListedAs → Type 0
IsListedBy version names files None listed = IsTakenTable version names files (all_judged version files) listed
IsListedBy version names files (Some refusal) listed = IsRefusedTable version refusal listed

-- of the table whose root is the first of these files; ten of a file's lines may be faulty
abbrev pub IsListedAs : Version → KeysymNames → List FileRead → ListedAs → Type 0
IsListedAs version names files listed = IsListedBy version names files (refusal_from files 10 5 0) listed

-- something more at the end; a definition for private functions
abbrev pub Appends : List ℕ → List ℕ → Type 0
Appends old new = (more : List ℕ) × (new ≡ old ++ more)
