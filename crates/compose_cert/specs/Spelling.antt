-- The one text of a certificate.
use Rattle.std.specs.Prelude.{◌≡◌, ℕ, Bool, true, false, not, ◌-◌, ◌&&◌, nat_lt, nat_le, List, [], ◌∷◌, ◌++◌, length, map, flat_map, replicate, IsTrue, codes}
use Rattle.std.specs.Fmt.{decimal, digits}
use Rattle.std.specs.List.{list_all}
use Rattle.keysym_core.specs.Keysym.{is_keysym}
use Rattle.keysym_core.specs.Names.{is_surrogate}
use Rattle.compose_model.specs.Certificate.{Typing, Certificate}

-- ---- the lines

-- a word and a number
abbrev pub counted : List ℕ → ℕ → List ℕ
counted word n = word ++ 32 ∷ decimal n

-- `U+` and at least four upper-case digits
abbrev pub character_text : ℕ → List ℕ
character_text c = codes "U+" ++ replicate (4 - length (digits 16 true c)) 48 ++ digits 16 true c

abbrev pub keysym_text : ℕ → List ℕ
keysym_text k = digits 16 false k

abbrev pub pair_text : ℕ × ℕ → List ℕ
pair_text p = decimal p.0 ++ 32 ∷ decimal p.1

abbrev pub typing_text : Typing → List ℕ
typing_text t = character_text t.character ++ flat_map (λ k. 32 ∷ keysym_text k) t.keys

-- version 2 has fresh keysyms; a certificate without any is of version 1
abbrev pub version_line : List ℕ → List ℕ
version_line [] = codes "compose-certificate 1"
version_line (k ∷ fresh) = codes "compose-certificate 2"

abbrev pub fresh_lines : List ℕ → List (List ℕ)
fresh_lines [] = []
fresh_lines (k ∷ fresh) = counted (codes "fresh") (length (k ∷ fresh)) ∷ map keysym_text (k ∷ fresh)

abbrev pub lines_of_text : Certificate → List (List ℕ)
lines_of_text c =
    version_line c.fresh ∷ counted (codes "bound") c.bound ∷
    counted (codes "pairs") (length c.pairs) ∷ (map pair_text c.pairs ++
    (counted (codes "typings") (length c.typings) ∷ (map typing_text c.typings ++
    fresh_lines c.fresh)))

-- ---- the text

-- each line ends with a newline
abbrev pub ended : List (List ℕ) → List ℕ
ended lines = flat_map (λ line. line ++ 10 ∷ []) lines

-- the one text of the certificate
abbrev pub text_of : Certificate → List ℕ
text_of c = ended (lines_of_text c)

-- ---- which certificates have a text

abbrev pub max_count : ℕ
max_count = 1048576

abbrev pub is_number : ℕ → Bool
is_number n = nat_lt n 0x100000000

abbrev pub are_numbers : ℕ × ℕ → Bool
are_numbers p = is_number p.0 && is_number p.1

-- a number up to 10FFFF that is no surrogate
abbrev pub is_character : ℕ → Bool
is_character c = nat_le c 0x10ffff && not (is_surrogate c)

-- a character, and keysyms
abbrev pub is_spelled : Typing → Bool
is_spelled t = is_character t.character && list_all is_keysym t.keys

-- a character, and 1 to 1,048,576 keysyms
abbrev pub is_typing : Typing → Bool
is_typing t = is_character t.character && nat_lt 0 (length t.keys) && nat_le (length t.keys) max_count && list_all is_keysym t.keys

-- the numbers have 32 bits, and there are at most 1,048,576 of each
abbrev pub is_certificate : Certificate → Bool
is_certificate c =
    is_number c.bound && nat_le (length c.pairs) max_count && list_all are_numbers c.pairs
    && nat_le (length c.typings) max_count && list_all is_typing c.typings && nat_le (length c.fresh) max_count && list_all is_keysym c.fresh

-- the bytes are the text of the certificate
pub record Spells (bytes : List ℕ) (c : Certificate) : Type 0 where
  pub fits : IsTrue (is_certificate c)
  pub is : bytes ≡ text_of c

-- ---- the limits of a certificate's parts

-- 1 to 1,048,576 keys
abbrev pub is_typed : Typing → Bool
is_typed t = nat_lt 0 (length t.keys) && nat_le (length t.keys) max_count

-- not too many pairs and typings, and each typing has keys
abbrev pub are_counted : List (ℕ × ℕ) → List Typing → Bool
are_counted pairs typings = nat_le (length pairs) max_count && nat_le (length typings) max_count && list_all is_typed typings

-- the same for a whole certificate, and not too many fresh keysyms
abbrev pub is_counted : Certificate → Bool
is_counted c = are_counted c.pairs c.typings && nat_le (length c.fresh) max_count
