-- The length of the text of a keysym.
use Rattle.std.proofs.Common.{◌≤◌, ℕ, length, Option, Some, None, arith}
use Rattle.std.proofs.lemmas.Str.{length-encode, len_utf8_bounds}
use Rattle.std.specs.Prelude.{[], encode_utf8}
use Rattle.std.specs.Option.{option_map_or}
use Rattle.keysym_core.specs.Names.{KeysymNames, character_of, text}

-- a character's UTF-8 has at most four bytes
short_text : (c : Option ℕ) → length (option_map_or encode_utf8 c []) ≤ 4
short_text None = omega arith
short_text (Some c) = rw (length-encode c) ((len_utf8_bounds c).1)

-- so has the text of each keysym: a reader needs to know that it fits a table
pub text_fits : (names : KeysymNames) (k : ℕ) → length (text names k) ≤ 4
text_fits names k = short_text (character_of names k)
