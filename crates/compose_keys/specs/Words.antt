-- The words of a text, between blanks (this project's profile).
use Rattle.std.specs.Prelude.{ℕ, Bool, true, false, ◌==◌, List, [], ◌∷◌, filter, flat_map}
use Rattle.std.specs.List.{slice_split}

abbrev pub is_word : List ℕ → Bool
is_word [] = false
is_word (b ∷ word) = true

-- the words between tabs (code 9)
abbrev pub words_between : List ℕ → List (List ℕ)
words_between part = filter is_word (slice_split (λ b. b == 9) part)

-- the words of a text, between spaces (code 32) and tabs
abbrev pub words_in : List ℕ → List (List ℕ)
words_in text = flat_map words_between (slice_split (λ b. b == 32) text)
