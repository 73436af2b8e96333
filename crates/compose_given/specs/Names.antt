-- The names that a command reads (defined by this project).
use Rattle.std.specs.Prelude.{ℕ, Bool, true, false, List, [], ◌∷◌, codes}

-- the given names, or the built-in ones if none are given
abbrev pub names_or_builtin : List (List ℕ) → List (List ℕ)
names_or_builtin [] = codes "builtin" ∷ []
names_or_builtin (name ∷ names) = name ∷ names

-- for Compose files the built-in names if none are given
abbrev pub names_for : Bool → List (List ℕ) → List (List ℕ)
names_for true names = names_or_builtin names
names_for false names = names
