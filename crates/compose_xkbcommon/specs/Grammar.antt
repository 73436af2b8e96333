-- The grammar of a line of libxkbcommon (the head of its src/compose/parser.c), of a line that
-- defines a sequence:
--
--     LINE      = { KEY } ":" RESULT
--     KEY       = [ MODIFIERS ] "<" name ">"
--     MODIFIERS = "None" | [ "!" ] { [ "~" ] name }
--     RESULT    = string [ name ] | name
--
-- Modifiers have no meaning there. Behind the name of a result the definition is complete, and the
-- rest of the line is no part of it.
use Rattle.std.specs.Prelude.{ℕ, Bool, zero, suc, ◌||◌, ◌&&◌, ◌==◌, nat_lt, false, if◌then◌else◌, List, [], ◌∷◌, length, drop, Option, Some, None, bytes_eq, codes}
use Rattle.std.specs.Char.{is_ascii_alphabetic}
use Rattle.std.specs.List.{list_any}
use Rattle.compose_text.specs.Bytes.{is_name_byte, begins, leading, behind}
use Rattle.compose_text.specs.Numbers.{is_between}
use Rattle.compose_lex.specs.Line.{is_comment}
use Rattle.compose_lex.specs.Fault.{inside_from}

-- the names of the keys, the raw text of the string, and the name of the result keysym
pub record Parts : Type 0 where
  pub keys : List (List ℕ)
  pub string : Option (List ℕ)
  pub name : Option (List ℕ)

-- a part that was read, and the bytes after it
abbrev pub Read : Type 0 → Type 0
Read A = Option (A × List ℕ)

infixl 10 ◌>>=◌
abbrev pub ◌>>=◌ : {A B : Type 0} → Option A → (A → Option B) → Option B
None >>= f = None
(Some x) >>= f = f x

-- ---- tokens

-- space, tab, vertical tab, form feed and carriage return
abbrev pub is_space : ℕ → Bool
is_space b = b == 32 || is_between 9 13 b

abbrev pub skip_spaces : List ℕ → List ℕ
skip_spaces rest = behind is_space rest

-- the byte comes first
abbrev pub is_next : ℕ → List ℕ → Bool
is_next byte rest = begins (λ b. b == byte) rest

-- a letter or an underscore, as a word begins
abbrev pub is_word_first : ℕ → Bool
is_word_first b = is_ascii_alphabetic b || b == 95

abbrev pub word_at : List ℕ → Read (List ℕ)
word_at rest = if begins is_word_first rest then Some (leading is_name_byte rest, behind is_name_byte rest) else None

-- `<`, a name and `>` (codes 60 and 62)
abbrev pub named_key_at : List ℕ → Read (List ℕ)
named_key_at rest =
    let name = leading is_name_byte (drop 1 rest) in
    let more = behind is_name_byte (drop 1 rest) in
    if is_next 60 rest && nat_lt 0 (length name) && is_next 62 more then Some (name, drop 1 more) else None

-- ---- modifiers

abbrev pub is_modifier : List ℕ → Bool
is_modifier word = list_any (bytes_eq word) (codes "Ctrl" ∷ codes "Lock" ∷ codes "Caps" ∷ codes "Shift" ∷ codes "Alt" ∷ codes "Meta" ∷ [])

-- what follows a mark, if it comes first
abbrev pub behind_mark : ℕ → List ℕ → List ℕ
behind_mark mark rest = if is_next mark rest then skip_spaces (drop 1 rest) else rest

-- what follows a modifier, with or without a `~` (code 126) before it
abbrev pub behind_modifier : List ℕ → Option (List ℕ)
behind_modifier rest = do
  word ← word_at (behind_mark 126 rest)
  if is_modifier word.0 then Some word.1 else None

-- a modifier begins here
abbrev pub begins_modifier : List ℕ → Bool
begins_modifier rest = begins (λ b. b == 126 || is_word_first b) rest

-- what follows the modifiers, of which there are at most `most`
abbrev pub behind_modifiers : ℕ → List ℕ → Option (List ℕ)
behind_modifiers zero rest = Some rest
behind_modifiers (suc most) rest =
    if begins_modifier rest then (do
      more ← behind_modifier rest
      behind_modifiers most (skip_spaces more)) else Some rest

-- what follows the modifiers of a key: `None`, or a list, which a `!` (code 33) may begin
abbrev pub behind_list : List ℕ → Option (List ℕ)
behind_list rest =
    if bytes_eq (leading is_name_byte rest) (codes "None") then Some (skip_spaces (behind is_name_byte rest)) else
    behind_modifiers (length (behind_mark 33 rest)) (behind_mark 33 rest)

-- ---- a line

abbrev pub key_at : List ℕ → Read (List ℕ)
key_at rest = do
  key ← behind_list rest
  named_key_at key

-- the keys up to the colon (code 58), at most `most`
abbrev pub keys_at : ℕ → List ℕ → Read (List (List ℕ))
keys_at zero rest = if is_next 58 rest then Some ([], drop 1 rest) else None
keys_at (suc most) rest =
    if is_next 58 rest then Some ([], drop 1 rest) else (do
      key ← key_at rest
      more ← keys_at most (skip_spaces key.1)
      Some (key.0 ∷ more.0, more.1))

-- the name of a result keysym, or nothing but a comment
abbrev pub name_or_end : List ℕ → Option (Option (List ℕ))
name_or_end rest =
    if is_comment rest then Some None else (do
      word ← word_at rest
      Some (Some word.0))

-- a string (a quote is the code 34), a name, or both
abbrev pub result_at : List ℕ → Option (Option (List ℕ) × Option (List ℕ))
result_at rest =
    if is_next 34 rest then (do
      string ← inside_from false (drop 1 rest)
      name ← name_or_end (skip_spaces string.1)
      Some (Some string.0, name)) else (do
        word ← word_at rest
        Some (None, Some word.0))

abbrev pub most_keys : ℕ
most_keys = 10

-- the parts of a line that defines a sequence; none if it is another line
abbrev pub parts_of : List ℕ → Option Parts
parts_of line = do
  keys ← keys_at most_keys (skip_spaces line)
  result ← result_at (skip_spaces keys.1)
  if length keys.0 == 0 then None else Some (record { keys = keys.0; string = result.0; name = result.1 })
