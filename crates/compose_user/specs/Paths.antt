-- The paths of a user's own Compose file (libxkbcommon, `xkb_compose_table_new_from_locale`).
use Rattle.std.specs.Prelude.{◌≡◌, ℕ, Bool, true, false, if◌then◌else◌, nat_eq, List, ◌++◌, Option, Some, None, codes, option_to_list}
use Rattle.std.specs.Option.{option_map, option_and_then}
use Rattle.std.specs.List.{starts_with, find}
use Rattle.compose_folder.specs.Content.{Content, Entry, File, Unreadable, held}

-- a folder, if its path is absolute
abbrev pub absolute : List ℕ → Option (List ℕ)
absolute folder = if starts_with nat_eq folder (codes "/") then Some folder else None

-- the file in the folder of settings, or if there is none, below the home folder
abbrev pub below_config : Option (List ℕ) → Option (List ℕ) → Option (List ℕ)
below_config (Some folder) home = Some (folder ++ codes "/XCompose")
below_config None home = option_map (λ h. h ++ codes "/.config/XCompose") home

-- `$XCOMPOSEFILE`; `$XDG_CONFIG_HOME/XCompose`, or else `~/.config/XCompose`; and `~/.XCompose`
abbrev pub user_paths : Option (List ℕ) → Option (List ℕ) → Option (List ℕ) → List (List ℕ)
user_paths compose_file config home =
    option_to_list compose_file ++ option_to_list (below_config (option_and_then absolute config) home) ++ option_to_list (option_map (λ h. h ++ codes "/.XCompose") home)

abbrev pub is_file : Content → Bool
is_file (File bytes) = true
is_file (Unreadable kind) = false

-- the first of these paths at which the folder has a file, if it is known what the folder has
abbrev pub IsFirstFile : Option (List Entry) → List (List ℕ) → Option (List ℕ) → Type 0
IsFirstFile None paths path = path ≡ path
IsFirstFile (Some entries) paths path = path ≡ find (λ p. is_file (held entries p)) paths

-- whether there is a file at the path, if it is known what the folder has; a definition for a
-- private function
abbrev pub IsKnown : Option (List Entry) → List ℕ → Bool → Type 0
IsKnown None path there = path ≡ path
IsKnown (Some entries) path there = there ≡ is_file (held entries path)
