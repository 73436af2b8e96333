-- The value of a name that is read from a header is a keysym.
use Rattle.std.proofs.Common.{◌≡◌, ◌≤◌, ◌+◌, ℕ, List, [], ◌∷◌, ◌++◌, Bool, true, false, ◌&&◌, ◌||◌, cond, refl, ◌∙◌, subst, arith}
use Rattle.std.specs.Prelude.{◌==◌, nat_lt, nat_le, bytes_eq, length, Option, Some, None, is_some, Result, Ok, Err}
use Rattle.std.specs.List.{list_all}
use Rattle.std.specs.Option.{option_or}
use Rattle.std.proofs.lemmas.Bool.{and_parts, and_from, ltb-false, le-leb}
use Rattle.std.proofs.lemmas.Option.{same_Some}
use Rattle.std.proofs.lemmas.List.Folds.{list_all-append}
use Rattle.compose_text.specs.Lines.{lines_of}
use Rattle.compose_text.specs.Numbers.{is_hexadecimal, hexadecimal}
use Rattle.keysym_core.specs.Core.{core_names}
use Rattle.keysym_core.specs.Header.{HeaderEntry, names_of, begins_with, define, defined_entry, is_conflict, max_names, with_name, with_noted, with_entry, with_text, with_line, with_lines}
use Rattle.keysym_core.specs.GivenCharacters.{with_character}
use Rattle.keysym_core.specs.Keysym.{is_keysym, max_keysym}
use Rattle.keysym_core.specs.Names.{NameRow, KeysymNames, row_value, is_control, is_surrogate, keysym_of_character, character_form, number_form, form_value, value}
use Rattle.keysym_core.specs.declared.fault.NameFault.{NameFault}
use Rattle.keysym_core.specs.declared.fault.NameFault.TheVariants.{NameConflict, TooManyNames, ValueTooLarge, NotUtf8}
use Rattle.std.specs.Str.{is_utf8}
use Rattle.compose_laws.proofs.Results.{ok_ok, err_ok}

-- ---- the rows of names

abbrev are_keysyms : List NameRow → Bool
are_keysyms rows = list_all (λ (r : NameRow). is_keysym r.value) rows

core : are_keysyms core_names.names ≡ true
core = refl

abbrev AreKeysyms : KeysymNames → Type 0
AreKeysyms names = are_keysyms names.names ≡ true

abbrev with_row : KeysymNames → List ℕ → ℕ → KeysymNames
with_row names name v = record names { names = names.names ++ record { name = name; value = v } ∷ [] }

row_keeps : (names : KeysymNames) (name : List ℕ) (v : ℕ) → AreKeysyms names → is_keysym v ≡ true → AreKeysyms (with_row names name v)
row_keeps names name v all here =
    list_all-append (λ (r : NameRow). is_keysym r.value) names.names (record { name = name; value = v } ∷ [])
    ∙ and_from (are_keysyms names.names) (is_keysym v && true) all (and_from (is_keysym v) true here refl)

name_keeps : (names after : KeysymNames) (n v : ℕ) (name : List ℕ) → AreKeysyms names → is_keysym v ≡ true → with_name names n name v ≡ Ok after → AreKeysyms after
name_keeps names after n v name all here h = go (is_conflict names name v) (is_some (row_value names.names name)) (nat_le max_names (length names.names)) h
  where
    go : (a b c : Bool)
        → (let r : Result KeysymNames NameFault = cond a (Err (NameConflict n)) (cond b (Ok names) (cond c (Err TooManyNames) (Ok (with_row names name v)))) in r) ≡ Ok after
        → AreKeysyms after
    go true b c e = absurd (cc)
    go false true c e = subst AreKeysyms (ok_ok names after e) all
    go false false true e = absurd (cc)
    go false false false e = subst AreKeysyms (ok_ok (with_row names name v) after e) (row_keeps names name v all here)

noted_keeps : (read : Result KeysymNames NameFault) (v : ℕ) (noted : Option ℕ) (after : KeysymNames) → ((names : KeysymNames) → read ≡ Ok names → AreKeysyms names) → with_noted read v noted ≡ Ok after
    → AreKeysyms after
noted_keeps (Err fault) v noted after f h = absurd (cc)
noted_keeps (Ok names) v None after f h = f after h
noted_keeps (Ok names) v (Some c) after f h =
    subst AreKeysyms (ok_ok (record names { characters = with_character names.characters v c }) after h) (f names refl)

entry_keeps : (names after : KeysymNames) (n : ℕ) (entry : Option HeaderEntry) → AreKeysyms names → with_entry names n entry ≡ Ok after → AreKeysyms after
entry_keeps names after n None all h = absurd (cc)
entry_keeps names after n (Some entry) all h = go (is_keysym entry.value) refl h
  where
    go : (b : Bool) → is_keysym entry.value ≡ b → (let r : Result KeysymNames NameFault = cond b (with_noted (with_name names n entry.name entry.value) entry.value entry.character) (Err (ValueTooLarge n)) in r) ≡ Ok after
        → AreKeysyms after
    go true here e = noted_keeps (with_name names n entry.name entry.value) entry.value entry.character after (λ m g. name_keeps names m n entry.value entry.name all here g) e
    go false here e = absurd (cc)

text_keeps : (names after : KeysymNames) (n : ℕ) (line : List ℕ) → AreKeysyms names → with_text names n line ≡ Ok after → AreKeysyms after
text_keeps names after n line all h = go (begins_with define line) h
  where
    go : (b : Bool) → (let r : Result KeysymNames NameFault = cond b (with_entry names n (defined_entry line)) (Ok names) in r) ≡ Ok after → AreKeysyms after
    go true e = entry_keeps names after n (defined_entry line) all e
    go false e = subst AreKeysyms (ok_ok names after e) all

line_keeps : (names after : KeysymNames) (n : ℕ) (line : List ℕ) → AreKeysyms names → with_line names n line ≡ Ok after → AreKeysyms after
line_keeps names after n line all h = go (is_utf8 line) h
  where
    go : (b : Bool) → (let r : Result KeysymNames NameFault = cond b (with_text names n line) (Err (NotUtf8 n)) in r) ≡ Ok after → AreKeysyms after
    go true e = text_keeps names after n line all e
    go false e = absurd (cc)

lines_keep : (names after : KeysymNames) (n : ℕ) (lines : List (List ℕ)) → AreKeysyms names → with_lines (Ok names) n lines ≡ Ok after → AreKeysyms after
lines_keep names after n [] all h = subst AreKeysyms (ok_ok names after h) all
lines_keep names after n (line ∷ lines) all h = go (with_line names n line) refl h (λ m keeps e. lines_keep m after (n + 1) lines keeps e)
  where
    go : (read : Result KeysymNames NameFault) → with_line names n line ≡ read → with_lines read (n + 1) lines ≡ Ok after
        → ((m : KeysymNames) → AreKeysyms m → with_lines (Ok m) (n + 1) lines ≡ Ok after → AreKeysyms after) → AreKeysyms after
    go (Ok m) is e more = more m (line_keeps names m n line all is) e
    go (Err fault) is e more = absurd (err_ok fault after e)

header_keeps : (header : List ℕ) (names : KeysymNames) → names_of header ≡ Ok names → AreKeysyms names
header_keeps header names h = lines_keep core_names names 1 (lines_of header) core h

-- ---- the value of a name

row_is : (rows : List NameRow) (name : List ℕ) (k : ℕ) → are_keysyms rows ≡ true → row_value rows name ≡ Some k → is_keysym k ≡ true
row_is [] name k all h = absurd (cc)
row_is (row ∷ rows) name k all h =
    let parts = and_parts (is_keysym row.value) (are_keysyms rows) all in
    go (bytes_eq name row.name) parts.0 h (λ e. row_is rows name k parts.1 e)
  where
    go : (b : Bool) → is_keysym row.value ≡ true → cond b (Some row.value) (row_value rows name) ≡ Some k → (row_value rows name ≡ Some k → is_keysym k ≡ true) → is_keysym k ≡ true
    go true here e more = subst (λ j. is_keysym j ≡ true) (same_Some row.value k e) here
    go false here e more = more e

both_false : (a b c : Bool) → a || b || c ≡ false → c ≡ false
both_false true b c h = absurd (cc)
both_false false true c h = absurd (cc)
both_false false false c h = h

character_is : (c k : ℕ) → keysym_of_character c ≡ Some k → is_keysym k ≡ true
character_is c k h = go (is_control c || is_surrogate c || nat_lt 0x10ffff c) (nat_lt c 0x100) refl h
  where
    most : is_control c || is_surrogate c || nat_lt 0x10ffff c ≡ false → c ≤ 0x10ffff
    most e = omega (arith, ltb-false 0x10ffff c (both_false (is_control c) (is_surrogate c) (nat_lt 0x10ffff c) e))

    go : (a b : Bool) → is_control c || is_surrogate c || nat_lt 0x10ffff c ≡ a → cond a None (cond b (Some c) (Some (c + 0x01000000))) ≡ Some k → is_keysym k ≡ true
    go true b is e = absurd (cc)
    go false true is e = subst (λ j. is_keysym j ≡ true) (same_Some c k e) (le-leb c max_keysym (omega (arith, most is)))
    go false false is e = subst (λ j. is_keysym j ≡ true) (same_Some (c + 0x01000000) k e) (le-leb (c + 0x01000000) max_keysym (omega (arith, most is)))

letter_is : (name : List ℕ) (k : ℕ) → character_form name ≡ Some k → is_keysym k ≡ true
letter_is [] k h = absurd (cc)
letter_is (u ∷ ds) k h = go (u == 85 && is_hexadecimal 4 6 ds) h
  where
    go : (b : Bool) → cond b (keysym_of_character (hexadecimal ds)) None ≡ Some k → is_keysym k ≡ true
    go true e = character_is (hexadecimal ds) k e
    go false e = absurd (cc)

number_is : (name : List ℕ) (k : ℕ) → number_form name ≡ Some k → is_keysym k ≡ true
number_is [] k h = absurd (cc)
number_is (z ∷ []) k h = absurd (cc)
number_is (z ∷ x ∷ ds) k h = go (z == 48 && x == 120 && is_hexadecimal 1 8 ds) (is_keysym (hexadecimal ds)) refl h
  where
    go : (a b : Bool) → is_keysym (hexadecimal ds) ≡ b → cond (a && b) (Some (hexadecimal ds)) None ≡ Some k → is_keysym k ≡ true
    go true true is e = subst (λ j. is_keysym j ≡ true) (same_Some (hexadecimal ds) k e) is
    go true false is e = absurd (cc)
    go false b is e = absurd (cc)

pub value_is : (header : List ℕ) (names : KeysymNames) (name : List ℕ) (k : ℕ) → names_of header ≡ Ok names → value names name ≡ Some k → is_keysym k ≡ true
value_is header names name k read h = go (row_value names.names name) refl h
  where
    form : (o : Option ℕ) → character_form name ≡ o → option_or o (number_form name) ≡ Some k → is_keysym k ≡ true
    form (Some j) is e = letter_is name k (is ∙ e)
    form None is e = number_is name k e

    go : (o : Option ℕ) → row_value names.names name ≡ o → option_or o (form_value name) ≡ Some k → is_keysym k ≡ true
    go (Some j) is e = row_is names.names name k (header_keeps header names read) (is ∙ e)
    go None is e = form (character_form name) refl e
