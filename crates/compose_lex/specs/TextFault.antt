-- The faults of a raw text, defined with `Unescapes` and not with the function that decodes: a
-- backslash after valid pieces that begins no escape, or bytes that are not a text.
use Rattle.std.specs.Prelude.{◌≡◌, ℕ, Bool, not, ◌<◌, ◌≤◌, ◌==◌, ◌||◌, List, [], ◌∷◌, ◌++◌, length, Some, IsTrue}
use Rattle.std.specs.Str.{IsUtf8}
use Rattle.compose_text.specs.Bytes.{begins}
use Rattle.compose_lex.specs.Escape.{is_octal, piece, Unescapes}
use Rattle.compose_lex.specs.declared.LexFault.{LexFault}
use Rattle.compose_lex.specs.declared.LexFault.TheVariants.{UnknownEscape, BadCode, EmptyText, TextTooLong, TextNotUtf8}

-- however the bytes are split, the first part stands for no byte before the rest
abbrev pub BeginsNoPiece : List ℕ → Type 0
BeginsNoPiece bytes = (first rest : List ℕ) (byte : ℕ) → bytes ≡ first ++ rest → piece first rest ≡ Some byte → ⊥

-- up to this offset the raw text stands for some bytes; a backslash (code 92) is there that begins
-- no escape, and this is what follows it
pub record StopsAt (raw : List ℕ) (at : ℕ) (behind : List ℕ) : Type 0 where
  pub before : List ℕ
  pub bytes : List ℕ
  pub whole : raw ≡ before ++ 92 ∷ behind
  pub offset : length before ≡ at
  pub right : Unescapes before bytes
  pub none : BeginsNoPiece (92 ∷ behind)

-- `x`, `X` (codes 120 and 88) or an octal digit
abbrev pub is_code_first : ℕ → Bool
is_code_first b = b == 120 || b == 88 || is_octal b

-- a code that is not that of a byte, a backslash with neither a code nor a known letter, or bytes
-- that are not a text
abbrev pub IsTextFault : List ℕ → LexFault → Type 0
IsTextFault raw (BadCode at) = (behind : List ℕ) × StopsAt raw at behind × IsTrue (begins is_code_first behind)
IsTextFault raw (UnknownEscape at) = (behind : List ℕ) × StopsAt raw at behind × IsTrue (not (begins is_code_first behind))
IsTextFault raw EmptyText = Unescapes raw []
IsTextFault raw TextTooLong = (bytes : List ℕ) × Unescapes raw bytes × (255 < length bytes)
IsTextFault raw TextNotUtf8 = (bytes : List ℕ) × Unescapes raw bytes × (0 < length bytes) × (length bytes ≤ 255) × (IsUtf8 bytes → ⊥)
IsTextFault raw fault = ⊥
