-- The Compose file that is read if none is given (libxkbcommon,
-- `xkb_compose_table_new_from_locale`).
use Rattle.std.specs.Prelude.{◌≡◌, ◌⊎◌, ℕ, List, [], ◌∷◌, ◌++◌, Option, Some, None, Ok, option_copied, string_bytes, codes}
use Rattle.compose_text.specs.Results.{◌>>=◌}
use Rattle.compose_shown.specs.Shown.{shown_text}
use Rattle.compose_folder.specs.Content.{Entry}
use Rattle.compose_user.specs.Paths.{IsFirstFile, user_paths}
use Rattle.compose_input.specs.Places.{IsLocaleTable}
use Rattle.compose_input.specs.declared.places.Places.{Places}
use Rattle.compose_given.specs.Variables.{Decoded, text_of}
use Rattle.compose_given.specs.declared.environment.Environment.{Environment}
use Rattle.compose_given.specs.declared.chosen.ChosenFile.{ChosenFile}

-- the paths at which the user's own file may be
abbrev pub own_paths : Environment → Places → Decoded (List (List ℕ))
own_paths e places = do
  compose_file ← text_of e.xcomposefile
  config ← text_of e.xdg_config_home
  Ok (user_paths compose_file config (option_copied places.home))

-- the last of these paths
abbrev pub IsLast : List (List ℕ) → List ℕ → Type 0
IsLast paths path = ((before : List (List ℕ)) × (paths ≡ before ++ path ∷ [])) ⊎ ((paths ≡ []) × (path ≡ codes ".XCompose"))

-- the locale's table, or, if there is none, the path that is tried last
abbrev pub IsTableOr : List (List ℕ) → Option (List ℕ) → List ℕ → Type 0
IsTableOr paths (Some table) path = path ≡ table
IsTableOr paths None path = IsLast paths path

-- the first of the user's own paths at which there is a file, or otherwise the locale's table
abbrev pub IsOwnOr : Option (List Entry) → Places → List (List ℕ) → Option (List ℕ) → List ℕ → Type 0
IsOwnOr folder places paths (Some own) path = path ≡ own
IsOwnOr folder places paths None path = (table : Option (List ℕ)) × IsLocaleTable folder places table × IsTableOr paths table path

pub record IsOwnFile (folder : Option (List Entry)) (environment : Environment) (places : Places) (path : List ℕ) : Type 0 where
  pub paths : List (List ℕ)
  pub are_paths : own_paths environment places ≡ Ok paths
  pub own : Option (List ℕ)
  pub is_first : IsFirstFile folder paths own
  pub is : IsOwnOr folder places paths own path

-- the note on a file that was not given (code 10 ends the line)
abbrev pub own_note : List ℕ → List ℕ
own_note path = codes "note: the Compose file is " ++ (shown_text path ++ 10 ∷ [])

-- the given file, or otherwise the user's, with a note on it
abbrev pub IsChosen : Option (List Entry) → Environment → Places → Option (List ℕ) → ChosenFile → Type 0
IsChosen folder environment places (Some path) file = (string_bytes file.path ≡ path) × (string_bytes file.note ≡ [])
IsChosen folder environment places None file = IsOwnFile folder environment places (string_bytes file.path) × (string_bytes file.note ≡ own_note (string_bytes file.path))
