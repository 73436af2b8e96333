-- The characters that a header assigns to keysyms, and an index of them by character.
use Rattle.std.specs.Prelude.{◌≡◌, ℕ, ◌+◌, ◌-◌, ◌*◌, ◌≤◌, Bool, true, false, ◌&&◌, ◌||◌, not, ◌==◌, if◌then◌else◌, List, [], ◌∷◌, ◌++◌, Option, Some, None, is_some}
use Rattle.std.specs.List.{list_any}
use Rattle.std.specs.Option.{option_map_or}
use Rattle.compose_text.specs.Numbers.{is_between}
use Rattle.keysym_core.specs.Keysym.{max_keysym}
use Rattle.keysym_core.specs.Names.{CharacterRow, first_character, is_latin1, is_unicode_keysym, is_keypad_digit}

-- a keysym whose text is fixed, whatever character a header assigns to it
abbrev pub is_fixed : ℕ → Bool
is_fixed k = is_latin1 k || is_unicode_keysym k || is_keypad_digit k

-- the keypad digit of a character
abbrev pub keypad_keysym : ℕ → Option ℕ
keypad_keysym c = if is_between 0x30 0x39 c then Some (c - 0x30 + 0xffb0) else None

-- the row assigns the character c to the keysym k
abbrev pub is_entry : ℕ → ℕ → CharacterRow → Bool
is_entry c k row = row.character == c && row.value == k

-- the first character that is assigned to k is c
abbrev pub gives : List CharacterRow → ℕ → ℕ → Bool
gives rows c k = option_map_or (λ d. d == c) (first_character rows k) false

-- no two rows have the same value
abbrev pub IsEachFirst : List CharacterRow → Type 0
IsEachFirst rows = (c k : ℕ) → list_any (is_entry c k) rows ≡ gives rows c k

-- all values of the rows are keysyms
abbrev pub AreKeysyms : List CharacterRow → Type 0
AreKeysyms rows = (c k : ℕ) → list_any (is_entry c k) rows ≡ true → k ≤ max_keysym

-- the row is used for the text of its keysym
abbrev pub counts : CharacterRow → Bool
counts row = not (is_fixed row.value)

-- the rows, and one that assigns the character to k unless a row does so already: the first one
-- counts
abbrev pub with_character : List CharacterRow → ℕ → ℕ → List CharacterRow
with_character rows k c = if is_some (first_character rows k) then rows else rows ++ record { value = k; character = c } ∷ []

-- ---- an index by character: pairs of a keysym and its character

-- the row of a pair
abbrev pub row_of : ℕ × ℕ → CharacterRow
row_of pair = record { value = pair.0; character = pair.1 }

-- the pair assigns the character c to the keysym k
abbrev pub is_pair : ℕ → ℕ → ℕ × ℕ → Bool
is_pair c k pair = is_entry c k (row_of pair)

-- all keysyms of the pairs are keysyms
abbrev pub ArePairsOfKeysyms : List (ℕ × ℕ) → Type 0
ArePairsOfKeysyms pairs = (c k : ℕ) → list_any (is_pair c k) pairs ≡ true → k ≤ max_keysym

-- the order of the pairs: by character, and those of one character by keysym
abbrev pub rank : ℕ × ℕ → ℕ
rank pair = pair.1 * 0x1_0000_0000 + pair.0

-- pairs for the rows that are used for texts, in any order
abbrev pub HasCountingRows : List (ℕ × ℕ) → List CharacterRow → Type 0
HasCountingRows pairs rows = (c k : ℕ) → list_any (is_pair c k) pairs ≡ (not (is_fixed k) && gives rows c k)
