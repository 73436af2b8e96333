-- What look-ups find in the data of the built-in names.
use Rattle.std.proofs.Common.{◌≡◌, ◌≢◌, ◌≤◌, ◌-◌, ℕ, zero, suc, Bool, true, false, cond, List, [], ◌∷◌, length, drop, take, Option, Some, None, refl, sym, ap, ◌∙◌, arith, subst, slice_get, nat_eq, nat_lt, option_map, eqb-true, eq-eqb, ◌⊎◌, inl, inr}
use Rattle.std.specs.Prelude.{bytes_eq}
use Rattle.std.specs.Option.{option_or}
use Rattle.std.specs.List.{list_all}
use Rattle.std.proofs.lemmas.Slice.Eq.{bytes_eq-Decides}
use Rattle.keysym_core.specs.Names.{NameRow, CharacterRow, KeysymNames, row_value, first_character, value, form_value}
use Rattle.std.proofs.lemmas.Bool.{true≢false, and_parts, leb-true, ltb-true}
use Rattle.std.proofs.lemmas.Str.{IsUtf8-from_ascii, IsAscii-take, IsAscii-drop}
use Rattle.std.proofs.lemmas.Str.Ascii.{IsAscii-nil, IsAscii-cons}
use Rattle.std.specs.Str.{IsAscii, IsUtf8}
use Rattle.std.proofs.lemmas.Option.{slice_get-map}
use Rattle.std.proofs.lemmas.Bool.Decides.{nat_tests}
use Rattle.keysym_core.specs.Keysym.{is_keysym, max_keysym}
use Rattle.keysym_core.specs.Table.{FirstNamesLookUp}
use Rattle.keysym_core.specs.Printed.{first_name}
use Rattle.keysym_core.specs.BuiltIn.{built_in_rows, built_in_characters}
use Rattle.keysym_core.specs.declared.built_in_rows.TheConstants.{TEXT, STARTS, KEYSYMS}
use Rattle.keysym_core.specs.declared.built_in_characters.TheConstants.{CHARACTERS}
use Rattle.keysym_core.proofs.Placed.{FirstAt, NoneAt, first_of, if_passes, never, first_is_placed, where_first, own_place}
use Rattle.keysym_core.proofs.RowsFrom.{names_between, keysyms_of_rows, rising, between, none_is_not_some, same_of_some}
use Rattle.keysym_core.proofs.BuiltInFacts.{starts_rise, lengths, text_ascii, are_keysyms, name_place, keysym_place, character_place, names_are_placed, keysyms_are_placed, characters_are_placed}

pub bytes_eq-same : (xs ys : List ℕ) → bytes_eq xs ys ≡ true → xs ≡ ys
bytes_eq-same xs ys e = grind (arith, bytes_eq-Decides xs ys)

pub bytes_eq-from : (xs ys : List ℕ) → xs ≡ ys → bytes_eq xs ys ≡ true
bytes_eq-from xs ys e = grind (arith, bytes_eq-Decides xs ys)

-- ---- the three look-ups, as the first row that passes

value_of_first : (n : List ℕ) (rows : List NameRow) → row_value rows n ≡ first_of (λ (r : NameRow). bytes_eq n r.name) (λ r. r.value) rows
value_of_first n [] = refl
value_of_first n (row ∷ rows) = ap (cond (bytes_eq n row.name) (Some row.value)) (value_of_first n rows)

name_of_first : (k : ℕ) (rows : List NameRow) → first_name rows k ≡ first_of (λ (r : NameRow). nat_eq k r.value) (λ r. r.name) rows
name_of_first k [] = refl
name_of_first k (row ∷ rows) = ap (cond (nat_eq k row.value) (Some row.name)) (name_of_first k rows)

character_of_first : (k : ℕ) (rows : List CharacterRow) → first_character rows k ≡ first_of (λ (r : CharacterRow). nat_eq k r.value) (λ r. r.character) rows
character_of_first k [] = refl
character_of_first k (row ∷ rows) = ap (cond (nat_eq k row.value) (Some row.character)) (character_of_first k rows)

-- ---- the row at the place of a key decides

pub value_at_place : (n : List ℕ) → row_value built_in_rows n ≡ if_passes (λ (r : NameRow). bytes_eq n r.name) (λ r. r.value) (slice_get built_in_rows (name_place n))
value_at_place n =
    value_of_first n built_in_rows
    ∙ first_is_placed (λ (r : NameRow). bytes_eq n r.name) (λ (r : NameRow). r.value) (λ (r : NameRow). name_place r.name) never built_in_rows (name_place n)
    names_are_placed
    (λ row passes. ap name_place (sym (bytes_eq-same n row.name passes)))
    (λ row other passes equal. absurd (true≢false (sym equal)))

pub name_at_place : (k : ℕ) → first_name built_in_rows k ≡ if_passes (λ (r : NameRow). nat_eq k r.value) (λ r. r.name) (slice_get built_in_rows (keysym_place k))
name_at_place k =
    name_of_first k built_in_rows
    ∙ first_is_placed (λ (r : NameRow). nat_eq k r.value) (λ (r : NameRow). r.name) (λ (r : NameRow). keysym_place r.value) (λ (r s : NameRow). nat_eq r.value s.value) built_in_rows (keysym_place k)
    keysyms_are_placed
    (λ row passes. ap keysym_place (sym (eqb-true k row.value passes)))
    (λ row other passes equal. eq-eqb k other.value (eqb-true k row.value passes ∙ eqb-true row.value other.value equal))

pub character_at_place : (k : ℕ) → first_character built_in_characters k ≡ if_passes (λ (r : CharacterRow). nat_eq k r.value) (λ r. r.character) (slice_get built_in_characters (character_place k))
character_at_place k =
    character_of_first k built_in_characters
    ∙ first_is_placed (λ (r : CharacterRow). nat_eq k r.value) (λ (r : CharacterRow). r.character) (λ (r : CharacterRow). character_place r.value) never built_in_characters (character_place k)
    characters_are_placed
    (λ row passes. ap character_place (sym (eqb-true k row.value passes)))
    (λ row other passes equal. absurd (true≢false (sym equal)))

-- ---- the row at an index

pub name_between : (i : ℕ) → option_map (λ (r : NameRow). r.name) (slice_get built_in_rows i) ≡ between (slice_get STARTS i) (slice_get (drop 1 STARTS) i) TEXT.now
unfolding built_in_rows
name_between i = names_between (drop 1 STARTS) KEYSYMS TEXT.now 0 (length TEXT.now) i starts_rise lengths

pub keysym_at : (i : ℕ) → option_map (λ (r : NameRow). r.value) (slice_get built_in_rows i) ≡ slice_get KEYSYMS i
unfolding built_in_rows
keysym_at i = keysyms_of_rows (drop 1 STARTS) KEYSYMS TEXT.now 0 i lengths

-- the text between two starts is inside of the text
pub starts_around : (i a b : ℕ) → slice_get STARTS i ≡ Some a → slice_get STARTS (suc i) ≡ Some b → (a ≤ b) × (b ≤ length TEXT.now)
starts_around i a b first second = rising (drop 1 STARTS) 0 (length TEXT.now) i a b starts_rise first second

without_value : (o : Option NameRow) → option_map (λ (r : NameRow). r.value) o ≡ None → o ≡ None
without_value None e = refl
without_value (Some row) e = cc

without_name : (o : Option NameRow) → option_map (λ (r : NameRow). r.name) o ≡ None → o ≡ None
without_name None e = refl
without_name (Some row) e = cc

-- there is no row with an index that has no keysym, no start or no end
pub no_keysym : (i : ℕ) → slice_get KEYSYMS i ≡ None → slice_get built_in_rows i ≡ None
no_keysym i none = without_value (slice_get built_in_rows i) (keysym_at i ∙ none)

pub no_start : (i : ℕ) → slice_get STARTS i ≡ None → slice_get built_in_rows i ≡ None
no_start i none = without_name (slice_get built_in_rows i) (name_between i ∙ ap (λ start. between start (slice_get (drop 1 STARTS) i) TEXT.now) none)

pub no_end : (i start : ℕ) → slice_get STARTS i ≡ Some start → slice_get STARTS (suc i) ≡ None → slice_get built_in_rows i ≡ None
no_end i start first none =
    without_name (slice_get built_in_rows i)
    (name_between i ∙ ap (λ o. between o (slice_get (drop 1 STARTS) i) TEXT.now) first ∙ ap (λ o. between (Some start) o TEXT.now) none)

-- the row at an index
pub row_of : (i start end keysym : ℕ) → slice_get STARTS i ≡ Some start → slice_get STARTS (suc i) ≡ Some end → slice_get KEYSYMS i ≡ Some keysym
    → slice_get built_in_rows i ≡ Some (record { name = take (end - start) (drop start TEXT.now); value = keysym })
row_of i start end keysym first second k =
    by (slice_get built_in_rows i)
    (name_between i ∙ ap (λ o. between o (slice_get (drop 1 STARTS) i) TEXT.now) first ∙ ap (λ o. between (Some start) o TEXT.now) second)
    (keysym_at i ∙ k)
  where
    by : (o : Option NameRow) → option_map (λ (r : NameRow). r.name) o ≡ Some (take (end - start) (drop start TEXT.now)) → option_map (λ (r : NameRow). r.value) o ≡ Some keysym
        → o ≡ Some (record { name = take (end - start) (drop start TEXT.now); value = keysym })
    by None e f = cc
    by (Some row) e f =
        ap (λ n. Some (record { name = n; value = row.value })) (same_of_some e)
        ∙ ap (λ k. Some (record { name = take (end - start) (drop start TEXT.now); value = k })) (same_of_some f)

-- each name is ASCII
ascii_text : (bytes : List ℕ) → list_all (λ b. nat_lt b 128) bytes ≡ true → IsAscii bytes
ascii_text [] h = IsAscii-nil
ascii_text (b ∷ bytes) h =
    let parts = and_parts (nat_lt b 128) (list_all (λ b. nat_lt b 128) bytes) h in
    IsAscii-cons b bytes (ltb-true b 128 parts.0) (ascii_text bytes parts.1)

ascii_between : (start end : Option ℕ) (text name : List ℕ) → IsAscii text → between start end text ≡ Some name → IsAscii name
ascii_between None end text name ascii e = absurd (none_is_not_some e)
ascii_between (Some start) None text name ascii e = absurd (none_is_not_some e)
ascii_between (Some start) (Some end) text name ascii e = subst IsAscii (same_of_some e) (IsAscii-take (drop start text) (end - start) (IsAscii-drop text start ascii))

pub name_is_utf8 : (i : ℕ) (row : NameRow) → slice_get built_in_rows i ≡ Some row → IsUtf8 row.name
name_is_utf8 i row there =
    IsUtf8-from_ascii row.name
    (ascii_between (slice_get STARTS i) (slice_get (drop 1 STARTS) i) TEXT.now row.name (ascii_text TEXT.now text_ascii) (sym (name_between i) ∙ ap (option_map (λ (r : NameRow). r.name)) there))

-- each first name looks up as its keysym
pub first_names_look_up : FirstNamesLookUp built_in_rows
first_names_look_up k n e = by (where_first (λ (r : NameRow). nat_eq k r.value) (λ (r : NameRow). r.name) built_in_rows)
  where
    by : FirstAt (λ (r : NameRow). nat_eq k r.value) (λ (r : NameRow). r.name) built_in_rows ⊎ NoneAt (λ (r : NameRow). nat_eq k r.value) (λ (r : NameRow). r.name) built_in_rows
        → row_value built_in_rows n ≡ Some k
    by (inr none) = absurd (none_is_not_some (sym none.value ∙ sym (name_of_first k built_in_rows) ∙ e))
    by (inl found) =
        let name : found.row.name ≡ n = same_of_some (sym found.value ∙ sym (name_of_first k built_in_rows) ∙ e) in
        let place = own_place (λ (r : NameRow). name_place r.name) built_in_rows found.index found.row names_are_placed found.there in
        value_at_place n
        ∙ ap (λ m. if_passes (λ (r : NameRow). bytes_eq m r.name) (λ r. r.value) (slice_get built_in_rows (name_place m))) (sym name)
        ∙ ap (λ i. if_passes (λ (r : NameRow). bytes_eq found.row.name r.name) (λ r. r.value) (slice_get built_in_rows i)) place
        ∙ ap (if_passes (λ (r : NameRow). bytes_eq found.row.name r.name) (λ r. r.value)) found.there
        ∙ ap (λ b. cond b (Some found.row.value) None) (bytes_eq-from found.row.name found.row.name refl)
        ∙ ap Some (sym (eqb-true k found.row.value found.passes))

-- the value of a row is the value of its name
pub row_has_value : (names : KeysymNames) (n : List ℕ) (k : ℕ) → row_value names.names n ≡ Some k → value names n ≡ Some k
row_has_value names n k e = ap (λ o. option_or o (form_value n)) e

-- ---- a look-up by the row that is found at an index

pub value_none : (n : List ℕ) (i : ℕ) → i ≡ name_place n → slice_get built_in_rows i ≡ None → row_value built_in_rows n ≡ None
value_none n i place none =
    value_at_place n ∙ ap (if_passes (λ (r : NameRow). bytes_eq n r.name) (λ r. r.value)) (ap (slice_get built_in_rows) (sym place) ∙ none)

value_found : (n : List ℕ) (i : ℕ) (row : NameRow) (b : Bool) → i ≡ name_place n → slice_get built_in_rows i ≡ Some row → bytes_eq n row.name ≡ b
    → row_value built_in_rows n ≡ cond b (Some row.value) None
value_found n i row b place there test =
    value_at_place n ∙ ap (if_passes (λ (r : NameRow). bytes_eq n r.name) (λ r. r.value)) (ap (slice_get built_in_rows) (sym place) ∙ there)
    ∙ ap (λ b. cond b (Some row.value) None) test

pub value_other : (n : List ℕ) (i : ℕ) (row : NameRow) → i ≡ name_place n → slice_get built_in_rows i ≡ Some row → row.name ≢ n → row_value built_in_rows n ≡ None
value_other n i row place there other = value_found n i row false place there (grind (arith, bytes_eq-Decides n row.name))

pub value_same : (n : List ℕ) (i : ℕ) (row : NameRow) → i ≡ name_place n → slice_get built_in_rows i ≡ Some row → row.name ≡ n → row_value built_in_rows n ≡ Some row.value
value_same n i row place there same = value_found n i row true place there (bytes_eq-from n row.name (sym same))

-- wherever a row of the name is
pub value_of_row : (n : List ℕ) (i : ℕ) (row : NameRow) → slice_get built_in_rows i ≡ Some row → row.name ≡ n → row_value built_in_rows n ≡ Some row.value
value_of_row n i row there same =
    let place : name_place row.name ≡ i = own_place (λ (r : NameRow). name_place r.name) built_in_rows i row names_are_placed there in
    value_same n i row (sym place ∙ ap name_place same) there same

pub name_none : (k i : ℕ) → i ≡ keysym_place k → slice_get built_in_rows i ≡ None → first_name built_in_rows k ≡ None
name_none k i place none = name_at_place k ∙ ap (if_passes (λ (r : NameRow). nat_eq k r.value) (λ r. r.name)) (ap (slice_get built_in_rows) (sym place) ∙ none)

name_found : (k i : ℕ) (row : NameRow) (b : Bool) → i ≡ keysym_place k → slice_get built_in_rows i ≡ Some row → nat_eq k row.value ≡ b → first_name built_in_rows k ≡ cond b (Some row.name) None
name_found k i row b place there test =
    name_at_place k ∙ ap (if_passes (λ (r : NameRow). nat_eq k r.value) (λ r. r.name)) (ap (slice_get built_in_rows) (sym place) ∙ there)
    ∙ ap (λ b. cond b (Some row.name) None) test

pub name_other : (k i : ℕ) (row : NameRow) → i ≡ keysym_place k → slice_get built_in_rows i ≡ Some row → row.value ≢ k → first_name built_in_rows k ≡ None
name_other k i row place there other = name_found k i row false place there (grind (arith, nat_tests))

pub name_same : (k i : ℕ) (row : NameRow) → i ≡ keysym_place k → slice_get built_in_rows i ≡ Some row → row.value ≡ k → first_name built_in_rows k ≡ Some row.name
name_same k i row place there same = name_found k i row true place there (eq-eqb k row.value (sym same))

-- the character of a pair of the data
character_found : (k i : ℕ) → i ≡ character_place k → first_character built_in_characters k ≡ if_passes (λ (pair : ℕ × ℕ). nat_eq k pair.0) (λ pair. pair.1) (slice_get CHARACTERS i)
unfolding built_in_characters
character_found k i place =
    character_at_place k
    ∙ ap (λ i. if_passes (λ (r : CharacterRow). nat_eq k r.value) (λ r. r.character) (slice_get built_in_characters i)) (sym place)
    ∙ ap (if_passes (λ (r : CharacterRow). nat_eq k r.value) (λ r. r.character)) (slice_get-map (λ (pair : ℕ × ℕ). record { value = pair.0; character = pair.1 }) CHARACTERS i)
    ∙ by (slice_get CHARACTERS i)
  where
    by : (o : Option (ℕ × ℕ))
        → if_passes (λ (r : CharacterRow). nat_eq k r.value) (λ r. r.character) (option_map (λ (pair : ℕ × ℕ). record { value = pair.0; character = pair.1 }) o)
        ≡ if_passes (λ (pair : ℕ × ℕ). nat_eq k pair.0) (λ pair. pair.1) o
    by None = refl
    by (Some pair) = refl

pub character_none : (k i : ℕ) → i ≡ character_place k → slice_get CHARACTERS i ≡ None → first_character built_in_characters k ≡ None
character_none k i place none = character_found k i place ∙ ap (if_passes (λ (pair : ℕ × ℕ). nat_eq k pair.0) (λ pair. pair.1)) none

pub character_other : (k i : ℕ) (pair : ℕ × ℕ) → i ≡ character_place k → slice_get CHARACTERS i ≡ Some pair → pair.0 ≢ k → first_character built_in_characters k ≡ None
character_other k i pair place there other =
    let test : nat_eq k pair.0 ≡ false = grind (arith, nat_tests) in
    character_found k i place ∙ ap (if_passes (λ (pair : ℕ × ℕ). nat_eq k pair.0) (λ pair. pair.1)) there ∙ ap (λ b. cond b (Some pair.1) None) test

pub character_same : (k i : ℕ) (pair : ℕ × ℕ) → i ≡ character_place k → slice_get CHARACTERS i ≡ Some pair → pair.0 ≡ k → first_character built_in_characters k ≡ Some pair.1
character_same k i pair place there same =
    character_found k i place ∙ ap (if_passes (λ (pair : ℕ × ℕ). nat_eq k pair.0) (λ pair. pair.1)) there ∙ ap (λ b. cond b (Some pair.1) None) (eq-eqb k pair.0 (sym same))

-- ---- each keysym of the data is one

all_at : (p : ℕ → Bool) (xs : List ℕ) (i x : ℕ) → list_all p xs ≡ true → slice_get xs i ≡ Some x → p x ≡ true
all_at p [] i x h e = absurd (none_is_not_some e)
all_at p (y ∷ xs) zero x h e = ap p (sym (same_of_some e)) ∙ (and_parts (p y) (list_all p xs) h).0
all_at p (y ∷ xs) (suc i) x h e = all_at p xs i x (and_parts (p y) (list_all p xs) h).1 e

pub value_is_keysym : (i : ℕ) (row : NameRow) → slice_get built_in_rows i ≡ Some row → row.value ≤ max_keysym
value_is_keysym i row there =
    leb-true row.value max_keysym (all_at is_keysym KEYSYMS i row.value are_keysyms (sym (keysym_at i) ∙ ap (option_map (λ (r : NameRow). r.value)) there))
