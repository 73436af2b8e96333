-- Trees of locales, such as /usr/share/X11/locale: each locale has a folder with its table, a file
-- named `Compose`.
use Rattle.std.specs.Prelude.{◌≡◌, ◌≢◌, ◌<◌, ℕ, Bool, nat_eq, List, ◌∷◌, [], ◌++◌, length, codes, All}
use Rattle.std.specs.List.{starts_with}

-- at least one byte, none of them a slash (code 47)
abbrev pub IsComponent : List ℕ → Type 0
IsComponent name = (0 < length name) × All (λ b. b ≢ 47) name

-- the path of the table of a locale in this tree, `TREE/LOCALE/Compose`
abbrev pub IsTableOf : List ℕ → List ℕ → Type 0
IsTableOf tree path = (locale : List ℕ) × IsComponent locale × (path ≡ tree ++ 47 ∷ locale ++ codes "/Compose")

-- the path begins with the folder and a slash
abbrev pub lies_below : List ℕ → List ℕ → Bool
lies_below folder path = starts_with nat_eq path (folder ++ 47 ∷ [])
