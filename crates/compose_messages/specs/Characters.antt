-- A character in place of a keysym's name, and its key (this project's profile).
use Rattle.std.specs.Prelude.{◌≡◌, ℕ, ◌==◌, if◌then◌else◌, List, [], ◌++◌, take, drop, Option, Some, None, encode_utf8, codes}
use Rattle.keysym_core.specs.Names.{KeysymNames}
use Rattle.keysym_core.specs.Next.{IsNextOf}
use Rattle.compose_lex.specs.declared.LexFault.TheVariants.{BadToken}
use Rattle.compose_read.specs.Lines.{Source}
use Rattle.compose_read.specs.declared.ReadFault.TheVariants.{UnknownKeysym, Lex}
use Rattle.compose_tree.specs.declared.reading.TableFault.{TableFault}
use Rattle.compose_tree.specs.declared.reading.TableFault.TheVariants.{Read}
use Rattle.compose_messages.specs.Places.{first_of, line_at, text_or_nothing}
use Rattle.compose_messages.specs.Tokens.{last_solid, named}

-- the character, if the text is a single one
abbrev pub IsCharacter : List ℕ → Option ℕ → Type 0
IsCharacter text None = (c : ℕ) → text ≡ encode_utf8 c → ⊥
IsCharacter text (Some c) = text ≡ encode_utf8 c

-- the least keysym of the character, if there is a character and a keysym has it
abbrev pub IsKeyOf : KeysymNames → Option ℕ → Option ℕ → Type 0
IsKeyOf names None found = found ≡ None
IsKeyOf names (Some c) found = IsNextOf names c None found

-- the least keysym of the character, if the text is a single character and a keysym has it
pub record IsKeyOfText (names : KeysymNames) (text : List ℕ) (found : Option ℕ) : Type 0 where
  pub character : Option ℕ
  pub is_character : IsCharacter text character
  pub is : IsKeyOf names character found

-- the hint, with the name of the key
abbrev pub character_hint : List ℕ → List ℕ
character_hint name = codes "composecheck: hint: the key of this character is " ++ name

-- ---- places where a character may be

-- the bytes before the first `>` (code 62), or all
abbrev pub before_greater : List ℕ → List ℕ
before_greater rest = take (first_of 62 rest) rest

-- if the last byte before is `<` (code 60), the text before the next `>`
abbrev pub text_after : Option ℕ → List ℕ → List ℕ
text_after None rest = []
text_after (Some b) rest = if b == 60 then text_or_nothing (before_greater rest) else []

abbrev pub event_text : List ℕ → ℕ → List ℕ
event_text line at = text_after (last_solid None (take at line)) (drop at line)

-- a name that no keysym has, or the text between `<` and `>` that is not a name
abbrev pub text_in_place : List Source → TableFault → List ℕ
text_in_place sources (Read (UnknownKeysym source line index)) = named (line_at sources source line) index
text_in_place sources (Read (Lex source line (BadToken at))) = event_text (line_at sources source line) at
text_in_place sources fault = []
