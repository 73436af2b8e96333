-- Lists of keys as people write them in one argument or on one line (this project's profile):
--
--   keys = word { blanks word }                      as `Multi_key - >`; blanks are spaces and tabs
--   word = item { "," item } [ "," ] | ","           as `Multi_key,minus,greater`; a word of one byte is a key
--   item = "<" key ">" { "<" key ">" } | key         as `<Multi_key><minus><greater>`
--
-- A key is a name or a character; which keysym it has is another question. An empty key stays one,
-- so that no keysym is found for it.
use Rattle.std.specs.Prelude.{ℕ, Bool, ◌-◌, ◌&&◌, ◌==◌, if◌then◌else◌, List, [], ◌∷◌, length, take, drop, map, flat_map}
use Rattle.std.specs.List.{slice_index, slice_split}
use Rattle.compose_keys.specs.Words.{words_in}

-- the text ends with this byte, which isn't 0
abbrev pub ends_with : ℕ → List ℕ → Bool
ends_with c text = slice_index text (length text - 1) == c

abbrev pub begins_with : ℕ → List ℕ → Bool
begins_with c text = slice_index text 0 == c

-- the parts of a text between these bytes, without the empty one after a byte that ends the text
abbrev pub parts_ended : ℕ → List ℕ → List (List ℕ)
parts_ended c text = if ends_with c text then take (length (slice_split (λ b. b == c) text) - 1) (slice_split (λ b. b == c) text) else slice_split (λ b. b == c) text

-- what follows `<` (code 60); a part that doesn't begin with it is taken whole
abbrev pub key_of : List ℕ → List ℕ
key_of part = if begins_with 60 part then drop 1 part else part

-- the keys between `<` and `>` (code 62), or the item itself
abbrev pub item_keys : List ℕ → List (List ℕ)
item_keys item = if begins_with 60 item && ends_with 62 item then map key_of (parts_ended 62 item) else item ∷ []

-- the keys of the items between commas (code 44)
abbrev pub word_keys : List ℕ → List (List ℕ)
word_keys word = if length word == 1 then word ∷ [] else flat_map item_keys (parts_ended 44 word)

abbrev pub keys_in : List ℕ → List (List ℕ)
keys_in text = flat_map word_keys (words_in text)
