-- What a reader comes upon in a table, and what becomes of it.
use Rattle.std.specs.Prelude.{ℕ, Bool, true, false, not, ◌&&◌, List, [], ◌∷◌, length}
use Rattle.std.specs.List.{filter}
use Rattle.compose_readers.specs.Entries.{entries}
use Rattle.compose_readers.specs.Fates.{fates}
use Rattle.compose_readers.specs.Files.{FileRead}
use Rattle.compose_readers.specs.Walks.{What, defines, leaves_out, leads_to, Told, entries_of, told_from}
use Rattle.compose_readers.specs.Xkbcommon.{most_nodes}
use Rattle.compose_readers.specs.declared.settling.Fate.{Fate}
use Rattle.compose_readers.specs.declared.settling.Fate.TheVariants.{Taken, Overridden, Behind, Full}
use Rattle.compose_readers.specs.declared.xkbcommon.Version.{Version}

pub record Judged : Type 0 where
  pub told : Told
  pub fate : Fate

-- each with its fate
abbrev pub with_fates : List Told → List Fate → List Judged
with_fates [] fates = []
with_fates (t ∷ ts) [] = []
with_fates (t ∷ ts) (f ∷ fs) = record { told = t; fate = f } ∷ with_fates ts fs

abbrev pub judged_by : Version → List Told → List Judged
judged_by version told = with_fates told (fates (entries (most_nodes version) (entries_of told)))

-- all that the reader comes upon from the first of these files on; includes may lead five deep
abbrev pub all_judged : Version → List FileRead → List Judged
all_judged version files = judged_by version (told_from files 5 0)

-- ---- what is taken, and what isn't

abbrev pub is_taken : Fate → Bool
is_taken Taken = true
is_taken (Overridden by) = false
is_taken (Behind by) = false
is_taken Full = false

abbrev pub takes : Judged → Bool
takes j = is_taken j.fate

-- an include that is followed is neither taken nor left out
abbrev pub is_followed : What → Bool
is_followed (defines d) = false
is_followed (leaves_out cause) = false
is_followed (leads_to path) = true

abbrev pub is_other : Judged → Bool
is_other j = not (takes j) && not (is_followed j.told.what)

abbrev pub others : List Judged → List Judged
others js = filter is_other js

abbrev pub taken_count : List Judged → ℕ
taken_count js = length (filter takes js)
