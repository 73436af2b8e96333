-- The folders of a system's tables (Compose(5): `%S`, `%L` and `%H`), and the table of its locale
-- (XLocale's `compose.dir` and `locale.alias`).
use Rattle.std.specs.Prelude.{◌≡◌, ◌⊎◌, ℕ, List, [], ◌∷◌, ◌++◌, Option, Some, None, option_copied, codes}
use Rattle.std.specs.List.{cons_option}
use Rattle.std.specs.Option.{option_map}
use Rattle.compose_folder.specs.Content.{Entry}
use Rattle.compose_find.specs.Expand.{Words}
use Rattle.compose_find.specs.Locales.{locale_file}
use Rattle.compose_input.specs.Texts.{IsFound}
use Rattle.compose_input.specs.declared.places.Places.{Places}

-- what `%S`, `%L` and `%H` stand for, if this is the locale's table
abbrev pub words_with : Places → Option (List ℕ) → Words
words_with places locale = record { system = places.system.now; locale = locale; home = option_copied places.home; root = option_copied places.root }

-- the bytes of the file at the first of these paths at which there is one; empty if there is none
abbrev pub IsFirstFound : Option (List Entry) → List (List ℕ) → List ℕ → Type 0
IsFirstFound folder [] bytes = bytes ≡ []
IsFirstFound folder (path ∷ paths) bytes = IsFound folder path (Some bytes) ⊎ (IsFound folder path None × IsFirstFound folder paths bytes)

-- the paths of a file of the system's folder: first below the root, if one is given
abbrev pub listing_paths : Places → List ℕ → List (List ℕ)
listing_paths places path = cons_option (option_map (λ root. root ++ path) (option_copied places.root)) (path ∷ [])

-- the bytes of the file of the system's folder with this name
abbrev pub IsListing : Option (List Entry) → Places → List ℕ → List ℕ → Type 0
IsListing folder places name bytes = IsFirstFound folder (listing_paths places (places.system.now ++ name)) bytes

-- the path of the locale's table, by the contents of the files that list the tables
abbrev pub IsLocaleTableOf : Option (List Entry) → Places → Option (List ℕ) → Option (List ℕ) → Type 0
IsLocaleTableOf folder places None table = table ≡ None
IsLocaleTableOf folder places (Some locale) table =
    (compose_dir : List ℕ) × (aliases : List ℕ) × IsListing folder places (codes "/compose.dir") compose_dir × IsListing folder places (codes "/locale.alias") aliases
    × (table ≡ locale_file places.system.now compose_dir aliases locale)

abbrev pub IsLocaleTable : Option (List Entry) → Places → Option (List ℕ) → Type 0
IsLocaleTable folder places table = IsLocaleTableOf folder places (option_copied places.locale) table
