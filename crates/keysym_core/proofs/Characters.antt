-- The rows of characters: one more row, and the rows that are used for texts.
use Rattle.std.proofs.Common.{◌≡◌, ◌≤◌, ℕ, Bool, true, false, cond, not, ◌&&◌, ◌||◌, ◌==◌, List, [], ◌∷◌, ◌++◌, Option, Some, None, nat_eq, refl, sym, ap, ◌∙◌, subst, eqb-true, filter, arith}
use Rattle.std.proofs.lemmas.Bool.{true≢false, and_parts}
use Rattle.std.proofs.lemmas.Bool.Decides.{nat_tests}
use Rattle.std.proofs.lemmas.List.Folds.{list_any-append}
use Rattle.std.specs.List.{list_any}
use Rattle.std.specs.Option.{option_or, option_map_or}
use Rattle.keysym_core.specs.Keysym.{max_keysym}
use Rattle.keysym_core.specs.Names.{NameRow, CharacterRow, first_character}
use Rattle.keysym_core.specs.GivenCharacters.{is_fixed, is_entry, is_pair, row_of, gives, IsEachFirst, AreKeysyms, ArePairsOfKeysyms, counts, HasCountingRows, with_character}
use Rattle.keysym_core.specs.Table.{character_rows, IsTable}
use Rattle.keysym_core.proofs.Rows.{pushed, none_is_not_some, first_character-character_rows}
use Rattle.std.proofs.lemmas.List.{map-append}
use Rattle.std.specs.Prelude.{is_some}
use Rattle.indexmap.proofs.CallerLemmas.{insert_entry-new}
use Rattle.indexmap.specs.IndexMap.{IndexMap, insert_entry}

-- a row after the others assigns its character, if none of them assigns one
first_character-push : (k : ℕ) (rows : List CharacterRow) (row : CharacterRow)
    → first_character (rows ++ row ∷ []) k ≡ option_or (first_character rows k) (cond (nat_eq k row.value) (Some row.character) None)
first_character-push k [] row = refl
first_character-push k (r ∷ rows) row = pushed (nat_eq k r.value) r.character (first_character rows k) (first_character (rows ++ row ∷ []) k) _ (first_character-push k rows row)

-- equality of numbers with the sides exchanged
flipped : (a b : ℕ) (t : Bool) → nat_eq a b ≡ t → (b == a) ≡ t
flipped a b t e = grind (arith, nat_tests)

-- the conjunction of two tests
chosen : (x y b : Bool) → y ≡ b → cond b x false ≡ (x && y)
chosen true y true e = sym e
chosen true y false e = sym e
chosen false y true e = refl
chosen false y false e = refl

unmoved : (x y z : Bool) → z ≡ false → x ≡ (x || (y && z))
unmoved true y z e = refl
unmoved false true z e = sym e
unmoved false false z e = refl

or-none : (a b : Bool) → (a || (b || false)) ≡ (a || b)
or-none true b = refl
or-none false true = refl
or-none false false = refl

and-none : (a : Bool) → false ≡ (a && false)
and-none true = refl
and-none false = refl

and-yes : (a : Bool) → (a && true) ≡ a
and-yes true = refl
and-yes false = refl

-- one more row, after rows that assign no character to its keysym
gives-push : (c k : ℕ) (rows : List CharacterRow) (row : CharacterRow) → first_character rows row.value ≡ None
    → gives (rows ++ row ∷ []) c k ≡ (gives rows c k || is_entry c k row)
gives-push c k rows row new = ap (λ o. option_map_or (λ d. d == c) o false) (first_character-push k rows row) ∙ by (first_character rows k) refl (nat_eq k row.value) refl
  where
    by : (o : Option ℕ) → first_character rows k ≡ o → (b : Bool) → nat_eq k row.value ≡ b
        → option_map_or (λ d. d == c) (option_or o (cond b (Some row.character) None)) false ≡ (option_map_or (λ d. d == c) o false || is_entry c k row)
    by None e true same = chosen (row.character == c) (row.value == k) true (flipped k row.value true same)
    by None e false same = chosen (row.character == c) (row.value == k) false (flipped k row.value false same)
    by (Some d) e true same = absurd (none_is_not_some (sym new ∙ ap (first_character rows) (sym (eqb-true k row.value same)) ∙ e))
    by (Some d) e false same = unmoved (d == c) (row.character == c) (row.value == k) (flipped k row.value false same)

-- if no row has the value of a new row yet, still no two rows have the same value
pub each_first-push : (rows : List CharacterRow) (row : CharacterRow) → first_character rows row.value ≡ None → IsEachFirst rows → IsEachFirst (rows ++ row ∷ [])
each_first-push rows row new each = λ c k.
    list_any-append (is_entry c k) rows (row ∷ []) ∙ or-none (list_any (is_entry c k) rows) (is_entry c k row)
    ∙ ap (λ b. b || is_entry c k row) (each c k) ∙ sym (gives-push c k rows row new)

-- if all values are keysyms, so are they with one more
pub keysyms-push : (rows : List CharacterRow) (row : CharacterRow) → row.value ≤ max_keysym → AreKeysyms rows → AreKeysyms (rows ++ row ∷ [])
keysyms-push rows row fits all = λ c k there.
    by c k (list_any (is_entry c k) rows) refl (is_entry c k row) refl (sym (or-none (list_any (is_entry c k) rows) (is_entry c k row)) ∙ sym (list_any-append (is_entry c k) rows (row ∷ [])) ∙ there)
  where
    by : (c k : ℕ) (before : Bool) → list_any (is_entry c k) rows ≡ before → (last : Bool) → is_entry c k row ≡ last → (before || last) ≡ true → k ≤ max_keysym
    by c k true before last e there = all c k before
    by c k false before true e there = subst (λ v. v ≤ max_keysym) (eqb-true row.value k (and_parts (row.character == c) (row.value == k) e).1) fits
    by c k false before false e there = absurd (true≢false (sym there))

-- a table with one more character is a table
pub table_with_character : {indexes : List (ℕ × ℕ)} {names : List NameRow} {characters after : List CharacterRow} (row : CharacterRow)
    → IsTable indexes names characters → first_character characters row.value ≡ None → row.value ≤ max_keysym → after ≡ characters ++ row ∷ [] → IsTable indexes names after
table_with_character {indexes} {names} {characters} {after} row table new fits e = record {
  first_indexes = table.first_indexes;
  agree = table.agree;
  first_names = table.first_names;
  each_first = subst IsEachFirst (sym e) (each_first-push characters row new table.each_first);
  keysyms = subst AreKeysyms (sym e) (keysyms-push characters row fits table.keysyms);
}

-- a row that is found is used for texts exactly if its keysym's text is not fixed
pub list_any-counts : (c k : ℕ) (rows : List CharacterRow) → list_any (is_entry c k) (filter counts rows) ≡ (not (is_fixed k) && list_any (is_entry c k) rows)
list_any-counts c k [] = and-none (not (is_fixed k))
list_any-counts c k (row ∷ rows) = by (counts row) refl (is_entry c k row) refl (list_any-counts c k rows)
  where
    same : is_entry c k row ≡ true → counts row ≡ not (is_fixed k)
    same e = ap (λ v. not (is_fixed v)) (eqb-true row.value k (and_parts (row.character == c) (row.value == k) e).1)

    by : (counting : Bool) → counts row ≡ counting → (entry : Bool) → is_entry c k row ≡ entry
        → list_any (is_entry c k) (filter counts rows) ≡ (not (is_fixed k) && list_any (is_entry c k) rows)
        → list_any (is_entry c k) (cond counting (row ∷ filter counts rows) (filter counts rows)) ≡ (not (is_fixed k) && (is_entry c k row || list_any (is_entry c k) rows))
    by true counting true entry others =
        ap (λ b. b || list_any (is_entry c k) (filter counts rows)) entry
        ∙ sym (ap (λ b. not (is_fixed k) && (b || list_any (is_entry c k) rows)) entry ∙ and-yes (not (is_fixed k)) ∙ sym (same entry) ∙ counting)
    by false counting true entry others =
        let fixed : not (is_fixed k) ≡ false = sym (same entry) ∙ counting in
        others ∙ ap (λ b. b && list_any (is_entry c k) rows) fixed ∙ sym (ap (λ b. b && (is_entry c k row || list_any (is_entry c k) rows)) fixed)
    by true counting false entry others =
        ap (λ b. b || list_any (is_entry c k) (filter counts rows)) entry ∙ others ∙ sym (ap (λ b. not (is_fixed k) && (b || list_any (is_entry c k) rows)) entry)
    by false counting false entry others = others ∙ sym (ap (λ b. not (is_fixed k) && (b || list_any (is_entry c k) rows)) entry)

-- the pairs of a map, and their rows
pub pairs-rows : (c k : ℕ) (pairs : List (ℕ × ℕ)) → list_any (is_pair c k) (filter (λ pair. counts (row_of pair)) pairs) ≡ list_any (is_entry c k) (filter counts (character_rows pairs))
pairs-rows c k [] = refl
pairs-rows c k (pair ∷ pairs) = by (counts (row_of pair)) (pairs-rows c k pairs)
  where
    by : (b : Bool) → list_any (is_pair c k) (filter (λ pair. counts (row_of pair)) pairs) ≡ list_any (is_entry c k) (filter counts (character_rows pairs))
        → list_any (is_pair c k) (cond b (pair ∷ filter (λ pair. counts (row_of pair)) pairs) (filter (λ pair. counts (row_of pair)) pairs))
        ≡ list_any (is_entry c k) (cond b (row_of pair ∷ filter counts (character_rows pairs)) (filter counts (character_rows pairs)))
    by true e = ap (λ b. is_entry c k (row_of pair) || b) e
    by false e = e

-- the pairs of the rows that are used for texts, among rows of which no two have the same value
pub counting_rows-count : (pairs : List (ℕ × ℕ)) → IsEachFirst (character_rows pairs) → HasCountingRows (filter (λ pair. counts (row_of pair)) pairs) (character_rows pairs)
counting_rows-count pairs each = λ c k. pairs-rows c k pairs ∙ list_any-counts c k (character_rows pairs) ∙ ap (λ b. not (is_fixed k) && b) (each c k)

-- and their values are keysyms
pub counting_rows-keysyms : (pairs : List (ℕ × ℕ)) → AreKeysyms (character_rows pairs) → ArePairsOfKeysyms (filter (λ pair. counts (row_of pair)) pairs)
counting_rows-keysyms pairs all = λ c k there.
    all c k (and_parts (not (is_fixed k)) (list_any (is_entry c k) (character_rows pairs)) (sym (list_any-counts c k (character_rows pairs)) ∙ sym (pairs-rows c k pairs) ∙ there)).1

-- a character that is inserted in a map, for a keysym without one, is a row after the others
pub character_rows-insert : {S : Type 0} (m : IndexMap ℕ ℕ S) (row : CharacterRow) → first_character (character_rows m.entries) row.value ≡ None
    → character_rows (insert_entry nat_eq m.entries row.value row.character) ≡ character_rows m.entries ++ row ∷ []
character_rows-insert m row new =
    ap character_rows (insert_entry-new nat_eq m row.value row.character (first_character-character_rows row.value m.entries ∙ new))
    ∙ map-append (λ e. record { value = e.0; character = e.1 }) m.entries ((row.value, row.character) ∷ [])

-- rows that assign no character to k get a row for it at the end
pub with_character-new : (rows : List CharacterRow) (k c : ℕ) → first_character rows k ≡ None → with_character rows k c ≡ rows ++ record { value = k; character = c } ∷ []
with_character-new rows k c new = ap (λ o. cond (is_some o) rows (rows ++ record { value = k; character = c } ∷ [])) new

-- a keysym that has a character keeps it
pub with_character-known : (rows : List CharacterRow) (k c : ℕ) → is_some (first_character rows k) ≡ true → with_character rows k c ≡ rows
with_character-known rows k c known = ap (λ b. cond b rows (rows ++ record { value = k; character = c } ∷ [])) known
