-- Findings in a text alone (Unicode Standard Annex 15, and section 3.11 of the standard).
use Rattle.std.specs.Prelude.{ℕ, Bool, not, ◌==◌, ◌&&◌, false, List, drop, chars, bytes_eq, encode_utf8, encode_utf8_all, is_some}
use Rattle.std.specs.List.{list_any, zip}
use Rattle.std.specs.Option.{option_map_or, option_and_then}
use Rattle.ucd_normal.specs.CanonicalCombiningClass.{canonical_combining_class}
use Rattle.unicode_normalization.specs.Forms.{nfc}
use Rattle.keysym_core.specs.Names.{KeysymNames, value, character_of}
use Rattle.compose_model.specs.Table.{Definition}
use Rattle.compose_lint.specs.Productions.{Written}

-- a character that combines with the one before it: its combining class is not 0
abbrev pub is_mark : ℕ → Bool
is_mark c = not (canonical_combining_class c == 0)

-- one combining mark twice in a row
abbrev pub repeats_mark : List ℕ → Bool
repeats_mark text = list_any (λ p. p.0 == p.1 && is_mark p.0) (zip (chars text) (drop 1 (chars text)))

-- the text in normal form C
abbrev pub normal_form : List ℕ → List ℕ
normal_form text = encode_utf8_all (nfc (chars text))

-- the text is in normal form C
abbrev pub is_normal : List ℕ → Bool
is_normal text = bytes_eq (normal_form text) text

-- after the string comes the name of a keysym whose character is not the text
abbrev pub has_other_character : KeysymNames → Written → Definition → Bool
has_other_character names p d =
    is_some p.raw && option_map_or (λ c. not (bytes_eq (encode_utf8 c) d.text)) (option_and_then (λ name. option_and_then (character_of names) (value names name)) p.name) false
