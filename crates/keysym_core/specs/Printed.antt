-- How a keysym is printed (this project's profile): as a name that looks up as it.
use Rattle.std.specs.Prelude.{ℕ, ◌-◌, Bool, true, false, ◌&&◌, not, nat_eq, if◌then◌else◌, List, [], ◌∷◌, ◌++◌, length, flat_map, Option, Some, None, unwrap_or, replicate, codes}
use Rattle.std.specs.Fmt.{digits}
use Rattle.keysym_core.specs.Names.{NameRow, KeysymNames, is_unicode_keysym, is_surrogate}

-- the first name with this value, in the order of the table
abbrev pub first_name : List NameRow → ℕ → Option (List ℕ)
first_name [] k = None
first_name (row ∷ rows) k = if nat_eq k row.value then Some row.name else first_name rows k

-- the digits, with zeros (code 48) before them if they are fewer than four
abbrev pub at_least_four : List ℕ → List ℕ
at_least_four ds = replicate (4 - length ds) 48 ++ ds

-- the keysym stands for a character by its number, and the character is not a surrogate
abbrev pub has_character_form : ℕ → Bool
has_character_form k = is_unicode_keysym k && not (is_surrogate (k - 0x01000000))

-- the name of a keysym that has none in the table: the letter U (code 85) and upper case digits,
-- else `0x` (codes 48 and 120) and lower case digits
abbrev pub form_of : ℕ → List ℕ
form_of k = if has_character_form k then 85 ∷ at_least_four (digits 16 true (k - 0x01000000)) else 48 ∷ 120 ∷ digits 16 false k

-- how a keysym is printed
abbrev pub printed : KeysymNames → ℕ → List ℕ
printed names k = unwrap_or (first_name names.names k) (form_of k)

-- ---- in a fault

-- `0x` and lower case digits
abbrev pub shown_keysym : ℕ → List ℕ
shown_keysym k = codes "0x" ++ digits 16 false k

-- the first keysym, and each other one after a comma (code 44)
abbrev pub key_list : List ℕ → List ℕ
key_list [] = []
key_list (k ∷ ks) = shown_keysym k ++ flat_map (λ k. 44 ∷ shown_keysym k) ks
