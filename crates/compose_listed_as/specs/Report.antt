-- What a reader doesn't take, in words (this project's profile).
use Rattle.std.specs.Prelude.{ℕ, ◌+◌, ◌-◌, ◌==◌, Bool, false, nat_lt, if◌then◌else◌, List, [], ◌∷◌, ◌++◌, length, take, flat_map, slice_get, codes}
use Rattle.std.specs.Fmt.{decimal}
use Rattle.std.specs.Option.{option_map_or}
use Rattle.compose_readers.specs.Definitions.{Definition}
use Rattle.compose_readers.specs.Files.{FileRead}
use Rattle.compose_readers.specs.Walks.{What, defines, leaves_out, leads_to, Told, entry_of}
use Rattle.compose_readers.specs.Words.{cause_words}
use Rattle.compose_readers.specs.declared.settling.Fate.{Fate}
use Rattle.compose_readers.specs.declared.settling.Fate.TheVariants.{Taken, Overridden, Behind, Full}
use Rattle.compose_readers.specs.declared.xkbcommon.Version.{Version}
use Rattle.compose_readers.specs.declared.xkbcommon.Version.TheVariants.{V1_5, V1_7}
use Rattle.compose_listed_as.specs.Judged.{Judged, others, taken_count}
use Rattle.compose_listed_as.specs.Line.{place_text}

abbrev pub reader_name : Version → List ℕ
reader_name V1_5 = codes "libxkbcommon 1.5"
reader_name V1_7 = codes "libxkbcommon 1.7"

-- ---- why something isn't taken

-- it has more keys than this definition
abbrev pub is_longer : Definition → Told → Bool
is_longer d t = option_map_or (λ (e : Definition). nat_lt (length d.keys) (length e.keys)) (entry_of t.what) false

abbrev pub longer_text : Bool → List ℕ
longer_text has_more_keys = if has_more_keys then codes "the longer sequence of " else []

-- the definition that counts, by its place
abbrev pub counting_text : List FileRead → Definition → Told → List ℕ
counting_text files d t = longer_text (is_longer d t) ++ place_text files t

-- the one with this index
abbrev pub by_text : List FileRead → List Judged → Definition → ℕ → List ℕ
by_text files js d by = option_map_or (λ (j : Judged). counting_text files d j.told) (slice_get js by) []

abbrev pub fate_text : List FileRead → List Judged → Definition → Fate → List ℕ
fate_text files js d Taken = codes "taken"
fate_text files js d (Overridden by) = codes "overridden by " ++ by_text files js d by
fate_text files js d (Behind by) = codes "behind " ++ by_text files js d by
fate_text files js d Full = codes "left out: the table is full"

abbrev pub reason : List FileRead → List Judged → Fate → What → List ℕ
reason files js fate (defines d) = fate_text files js d fate
reason files js fate (leaves_out cause) = codes "left out: " ++ cause_words cause
reason files js fate (leads_to path) = codes "included"

-- for example `composecheck: home/.XCompose:12: left out: an unknown name of a key`
abbrev pub other_line : List FileRead → List Judged → Judged → List ℕ
other_line files js j = codes "composecheck: " ++ (place_text files j.told ++ (codes ": " ++ (reason files js j.fate j.told.what ++ 10 ∷ [])))

-- ---- the report

-- a line for each of the first 20
abbrev pub first_lines : List FileRead → List Judged → List ℕ
first_lines files js = flat_map (other_line files js) (take 20 (others js))

-- the number of those that follow
abbrev pub more_line : ℕ → List ℕ
more_line count = if count == 0 then [] else codes "and " ++ (decimal count ++ codes " more\n")

abbrev pub files_text : ℕ → List ℕ
files_text count = if count == 1 then codes "1 file\n" else decimal count ++ codes " files\n"

abbrev pub counts_text : Version → ℕ → ℕ → List ℕ
counts_text version taken all = reader_name version ++ (codes " takes " ++ (decimal taken ++ (codes " of " ++ (decimal all ++ codes " definitions of "))))

-- for example `libxkbcommon 1.7 takes 217 of 224 definitions of 3 files`
abbrev pub summary_line : Version → ℕ → ℕ → ℕ → List ℕ
summary_line version taken other files = counts_text version taken (taken + other) ++ files_text files

abbrev pub end_text : Version → ℕ → ℕ → ℕ → List ℕ
end_text version taken other files = more_line (other - 20) ++ summary_line version taken other files

abbrev pub report : Version → List FileRead → List Judged → List ℕ
report version files js = first_lines files js ++ end_text version (taken_count js) (length (others js)) (length files)
