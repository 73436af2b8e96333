-- The keys that arguments and options write (this project's profile).
use Rattle.std.specs.Prelude.{ℕ, Bool, true, false, ◌==◌, if◌then◌else◌, List, [], ◌∷◌, length, flat_map}
use Rattle.std.specs.List.{slice_split}
use Rattle.compose_keys.specs.Keys.{keys_in}

-- names separated by commas (code 44); an empty text has none
abbrev pub names_between : List ℕ → List (List ℕ)
names_between [] = []
names_between (b ∷ text) = slice_split (λ c. c == 44) (b ∷ text)

-- the keys of an option: for Compose files as people write them
abbrev pub option_keys : Bool → List ℕ → List (List ℕ)
option_keys true text = keys_in text
option_keys false text = names_between text

-- the keys of an argument as people write them, or the argument itself if it writes none
abbrev pub some_keys : List ℕ → List (List ℕ)
some_keys argument = if length (keys_in argument) == 0 then argument ∷ [] else keys_in argument

-- the keys of arguments: for Compose files one or more in each, and otherwise one
abbrev pub argument_keys : Bool → List (List ℕ) → List (List ℕ)
argument_keys true arguments = flat_map some_keys arguments
argument_keys false arguments = arguments
