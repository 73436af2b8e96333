-- The names in a written line: each is a name, in UTF-8 and without a newline, and the keys are
-- read as their sequence.
use Rattle.std.proofs.Common.{◌≡◌, ℕ, zero, suc, ◌+◌, ◌-◌, ◌^◌, ◌≤◌, ◌<◌, List, [], ◌∷◌, ◌++◌, Bool, true, false, not, ◌&&◌, cond, length, map, drop, replicate, refl, ◌∙◌, ap, arith, nat_lt, nat_le, nat_eq}
use Rattle.std.specs.Prelude.{◌==◌, Option, Some, None, is_some, unwrap_or, Result, Ok, codes}
use Rattle.std.specs.List.{list_all, starts_with}
use Rattle.std.specs.Char.{digit_value}
use Rattle.std.proofs.Math.Nat.{pow-le-pow_right}
use Rattle.std.proofs.lemmas.Fmt.{digits_is_IsNumeral}
use Rattle.std.proofs.lemmas.Int.Digits.{digits_value-lt}
use Rattle.std.specs.Fmt.{digits}
use Rattle.std.specs.Option.{option_map_or}
use Rattle.std.specs.Str.{IsUtf8}
use Rattle.std.specs.Str.Parse.{AllDigits}
use Rattle.std.proofs.lemmas.Bool.{and_parts, and_from, ltb-true, leb-true, not-true}
use Rattle.std.proofs.lemmas.Bool.Decides.{nat_tests}
use Rattle.std.proofs.lemmas.Str.{IsUtf8-append, IsUtf8-nil}
use Rattle.std.proofs.lemmas.List.Folds.{list_all-append}
use Rattle.compose_text.specs.Bytes.{is_name_byte}
use Rattle.compose_text.specs.Lines.{in_line}
use Rattle.compose_text.specs.Results.{◌>>=◌}
use Rattle.compose_text.specs.Numbers.{is_between, is_hexadecimal_digit, is_hexadecimal, hexadecimal}
use Rattle.compose_text.proofs.Digits.{list_all-from_all_digits}
use Rattle.keysym_core.specs.Keysym.{is_ignored}
use Rattle.keysym_core.specs.Names.{KeysymNames, value}
use Rattle.keysym_core.specs.Printed.{at_least_four}
use Rattle.compose_lex.specs.Line.{is_name}
use Rattle.compose_lex.proofs.LineSound.{name_is}
use Rattle.compose_read.specs.Lines.{Visit}
use Rattle.compose_read.specs.Read.{event_keysym, sequence_of}
use Rattle.compose_read.specs.declared.ReadFault.{ReadFault}
use Rattle.compose_skip.specs.Libxkbcommon.{is_character_name, is_key, keys_text, keysym_named, other_name, strict_name}
use Rattle.compose_skip.proofs.Quoted.{AreAscii, ascii_utf8}

pub all_of : (p q : ℕ → Bool) → ((b : ℕ) → p b ≡ true → q b ≡ true) → (bs : List ℕ) → list_all p bs ≡ true → list_all q bs ≡ true
all_of p q f [] h = refl
all_of p q f (b ∷ bs) h = let parts = and_parts (p b) (list_all p bs) h in and_from _ _ (f b parts.0) (all_of p q f bs parts.1)

-- ---- bytes of a name

byte_in_line : (b : ℕ) → is_name_byte b ≡ true → in_line b ≡ true
byte_in_line b h = grind (arith, nat_tests)

byte_ascii : (b : ℕ) → is_name_byte b ≡ true → b < 128
byte_ascii b h = grind (arith, nat_tests)

digit_named : (b : ℕ) → is_hexadecimal_digit b ≡ true → is_name_byte b ≡ true
digit_named b h = grind (arith, nat_tests)

name_ascii : (bs : List ℕ) → list_all is_name_byte bs ≡ true → AreAscii bs
name_ascii [] h = tt
name_ascii (b ∷ bs) h = let parts = and_parts (is_name_byte b) (list_all is_name_byte bs) h in (byte_ascii b parts.0, name_ascii bs parts.1)

pub name_utf8 : (name : List ℕ) → is_name name ≡ true → IsUtf8 name
name_utf8 name h = ascii_utf8 name (name_ascii name (and_parts (nat_lt 0 (length name)) (list_all is_name_byte name) h).1)

pub name_in_line : (name : List ℕ) → is_name name ≡ true → list_all in_line name ≡ true
name_in_line name h = all_of is_name_byte in_line byte_in_line name (and_parts (nat_lt 0 (length name)) (list_all is_name_byte name) h).1

-- ---- the other spelling of a name is a name

zeros_named : (count : ℕ) → list_all is_name_byte (replicate count 48) ≡ true
zeros_named zero = refl
zeros_named (suc count) = zeros_named count

digits_named : (n : ℕ) → n < 16 ^ 64 → list_all is_name_byte (digits 16 true n) ≡ true
digits_named n l =
    let numeral = digits_is_IsNumeral 16 true (omega arith) (omega arith) n l in
    all_of is_hexadecimal_digit is_name_byte digit_named (digits 16 true n) (list_all-from_all_digits (digits 16 true n) numeral.0.1)

all_digits : (ds : List ℕ) → list_all is_hexadecimal_digit ds ≡ true → AllDigits 16 ds
all_digits [] h = tt
all_digits (d ∷ ds) h = let parts = and_parts (is_hexadecimal_digit d) (list_all is_hexadecimal_digit ds) h in (ltb-true (digit_value d) 16 parts.0, all_digits ds parts.1)

-- eight digits write a number far below the greatest that is written
number_fits : (name : List ℕ) → is_character_name name ≡ true → hexadecimal (drop 1 name) < 16 ^ 64
number_fits [] h = cc
number_fits (u ∷ ds) h =
    let parts = and_parts (u == 85) (is_hexadecimal 1 8 ds) h in
    let digits = and_parts (is_between 1 8 (length ds)) (list_all is_hexadecimal_digit ds) parts.1 in
    let few : length ds ≤ 8 = leb-true (length ds) 8 (and_parts (nat_le 1 (length ds)) (nat_le (length ds) 8) digits.0).1 in
    let below = digits_value-lt 16 ds (all_digits ds digits.1) in
    let eight : 16 ^ length ds ≤ 16 ^ 8 = pow-le-pow_right (omega arith) few in
    omega (arith, below, eight)

others_named : (name : List ℕ) (n : ℕ) → list_all is_name_byte name ≡ true → list_all is_name_byte (drop n name) ≡ true
others_named name zero h = h
others_named [] (suc n) h = refl
others_named (b ∷ name) (suc n) h = others_named name n (and_parts (is_name_byte b) (list_all is_name_byte name) h).1

other_right : (name : List ℕ) → is_name name ≡ true → is_name (other_name name) ≡ true
other_right name h = by (is_character_name name) refl (starts_with nat_eq name (codes "XF86_"))
  where
    bytes : list_all is_name_byte name ≡ true
    bytes = (and_parts (nat_lt 0 (length name)) (list_all is_name_byte name) h).1

    by : (x : Bool) → is_character_name name ≡ x → (y : Bool) → is_name (cond x (85 ∷ at_least_four (digits 16 true (hexadecimal (drop 1 name)))) (cond y (codes "XF86" ++ drop 5 name) name)) ≡ true
    by true e y =
        let n = hexadecimal (drop 1 name) in
        let ds = digits 16 true n in
        name_is (85 ∷ at_least_four ds) (omega arith)
        (list_all-append is_name_byte (replicate (4 - length ds) 48) ds ∙ and_from _ _ (zeros_named (4 - length ds)) (digits_named n (number_fits name e)))
    by false e true = name_is (codes "XF86" ++ drop 5 name) (omega arith) (others_named name 5 bytes)
    by false e false = h

pub strict_right : (names : KeysymNames) (name : List ℕ) → is_name name ≡ true → is_name (strict_name names name) ≡ true
strict_right names name h = by (is_some (value names name))
  where
    by : (x : Bool) → is_name (cond x name (other_name name)) ≡ true
    by true = h
    by false = other_right name h

pub all_strict : (names : KeysymNames) (keys : List (List ℕ)) → list_all is_name keys ≡ true → list_all is_name (map (strict_name names) keys) ≡ true
all_strict names [] h = refl
all_strict names (key ∷ keys) h = let parts = and_parts (is_name key) (list_all is_name keys) h in and_from _ _ (strict_right names key parts.0) (all_strict names keys parts.1)

-- ---- the keys

pub keys_utf8 : (keys : List (List ℕ)) → list_all is_name keys ≡ true → IsUtf8 (keys_text keys)
keys_utf8 [] h = IsUtf8-nil
keys_utf8 (key ∷ keys) h =
    let parts = and_parts (is_name key) (list_all is_name keys) h in
    let close : IsUtf8 (codes "> ") = ascii_utf8 (codes "> ") (omega arith, (omega arith, tt)) in
    let first : IsUtf8 (codes "<") = ascii_utf8 (codes "<") (omega arith, tt) in
    IsUtf8-append (codes "<" ++ (key ++ codes "> ")) (keys_text keys) (IsUtf8-append (codes "<") (key ++ codes "> ") first (IsUtf8-append key (codes "> ") (name_utf8 key parts.0) close)) (keys_utf8 keys parts.1)

pub keys_in_line : (keys : List (List ℕ)) → list_all is_name keys ≡ true → list_all in_line (keys_text keys) ≡ true
keys_in_line [] h = refl
keys_in_line (key ∷ keys) h =
    let parts = and_parts (is_name key) (list_all is_name keys) h in
    list_all-append in_line (key ++ codes "> ") (keys_text keys)
    ∙ and_from _ _ (list_all-append in_line key (codes "> ") ∙ and_from _ _ (name_in_line key parts.0) refl) (keys_in_line keys parts.1)

-- a key of a known name has its keysym, which isn't ignored
event_known : (names : KeysymNames) (v : Visit) (index : ℕ) (name : List ℕ) (found : Option ℕ) → option_map_or (λ k. nat_lt 0 k && not (is_ignored k)) found false ≡ true
    → event_keysym v index found ≡ Ok (unwrap_or found 0)
event_known names v index name None h = cc
event_known names v index name (Some k) h =
    let taken : is_ignored k ≡ false = not-true (is_ignored k) (and_parts (nat_lt 0 k) (not (is_ignored k)) h).1 in rw taken refl

pub keys_known : (names : KeysymNames) (v : Visit) (index : ℕ) (keys : List (List ℕ)) → list_all (is_key names) keys ≡ true
    → sequence_of names v index (map (strict_name names) keys) ≡ Ok (map (λ n. unwrap_or (keysym_named names n) 0) keys)
keys_known names v index [] h = refl
keys_known names v index (key ∷ keys) h =
    let parts = and_parts (is_key names key) (list_all (is_key names) keys) h in
    let rest : List ℕ = map (λ n. unwrap_or (keysym_named names n) 0) keys in
    ap (λ r. r >>= (λ k. sequence_of names v (1 + index) (map (strict_name names) keys) >>= (λ s. let y : Result (List ℕ) ReadFault = Ok (k ∷ s) in y))) (event_known names v index key (keysym_named names key) parts.0)
    ∙ ap (λ r. r >>= (λ s. let y : Result (List ℕ) ReadFault = Ok (unwrap_or (keysym_named names key) 0 ∷ s) in y)) (keys_known names v (1 + index) keys parts.1)
