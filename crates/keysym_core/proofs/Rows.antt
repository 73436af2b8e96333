-- The rows of a table of names: what look-ups in its maps find, and a row added after them.
use Rattle.std.proofs.Common.{◌≡◌, ◌≤◌, ℕ, ◌+◌, Bool, true, false, cond, ◌&&◌, List, [], ◌∷◌, ◌++◌, length, map, Option, Some, None, nat_eq, refl, sym, ap, ◌∙◌, arith, rules, add-one, append_assoc, subst, eqb-true, leb-true, string_bytes, bytes_eq, zero-add}
use Rattle.std.proofs.lemmas.List.Folds.{list_all-append}
use Rattle.std.proofs.lemmas.Bool.{true≢false}
use Rattle.std.proofs.lemmas.List.{map-append, length-map}
use Rattle.std.proofs.Math.Seq.{drop-cons}
use Rattle.std.proofs.Common.{◌<◌, drop, get_or}
use Rattle.indexmap.proofs.CallerLemmas.{insert_entry-new}
use Rattle.indexmap.specs.IndexMap.{IndexMap, insert_entry}
use Rattle.std.specs.String.{string_eq}
use Rattle.std.specs.Prelude.{not, is_some, IfSome}
use Rattle.keysym_core.specs.Keysym.{max_keysym, is_keysym}
use Rattle.std.specs.declared.string.String.{String}
use Rattle.std.specs.declared.alloc.Global.{Global}
use Rattle.std.specs.List.{list_all}
use Rattle.std.specs.Map.{lookup}
use Rattle.std.specs.Option.{option_or, option_copied, option_map, option_map_or}
use Rattle.std.specs.Borrow.{Bor}
use Rattle.keysym_core.specs.Names.{NameRow, CharacterRow, KeysymNames, row_value, first_character, value, form_value}
use Rattle.keysym_core.specs.Printed.{first_name}
use Rattle.std.proofs.Common.{slice_get, suc, ◌==◌}
use Rattle.std.proofs.lemmas.Slice.Eq.{bytes_eq-Decides}
use Rattle.std.proofs.lemmas.Option.{slice_get-map}
use Rattle.std.proofs.lemmas.Bool.{and_parts}
use Rattle.keysym_core.specs.Table.{FirstNamesLookUp, name_rows, character_rows, index_from, ShowsFirstIndexes, agrees_with_form, is_addable, are_addable, IsTable}

-- the map from names finds the value of the row
pub row_value-name_rows : (name : List ℕ) (entries : List (String Global × ℕ)) → lookup (λ k. bytes_eq name (string_bytes k)) entries ≡ row_value (name_rows entries) name
row_value-name_rows name [] = refl
row_value-name_rows name (e ∷ entries) = ap (cond (bytes_eq name (string_bytes e.0)) (Some e.1)) (row_value-name_rows name entries)

-- the map from keysyms finds the character of the row
pub first_character-character_rows : (k : ℕ) (entries : List (ℕ × ℕ)) → lookup (nat_eq k) entries ≡ first_character (character_rows entries) k
first_character-character_rows k [] = refl
first_character-character_rows k (e ∷ entries) = ap (cond (nat_eq k e.0) (Some e.1)) (first_character-character_rows k entries)

-- a test before the first of two choices, and the same test before both
pub pushed : {X : Type 0} (b : Bool) (x : X) (rest more last : Option X) → more ≡ option_or rest last → cond b (Some x) more ≡ option_or (cond b (Some x) rest) last
pushed true x rest more last e = refl
pushed false x rest more last e = e

-- a row after the others has the last index
pub index_from-push : (k at : ℕ) (rows : List NameRow) (row : NameRow)
    → index_from k at (rows ++ row ∷ []) ≡ option_or (index_from k at rows) (cond (nat_eq k row.value) (Some (at + length rows)) None)
index_from-push k at [] row = ap (λ n. cond (nat_eq k row.value) (Some n) None) (omega arith)
index_from-push k at (r ∷ rows) row =
    pushed (nat_eq k r.value) at (index_from k (at + 1) rows) (index_from k (at + 1) (rows ++ row ∷ [])) _
    (index_from-push k (at + 1) rows row ∙ ap (λ n. option_or (index_from k (at + 1) rows) (cond (nat_eq k row.value) (Some n) None)) (omega arith))

-- a new entry after the others is found last
pub lookup-push : {X : Type 0} (k : ℕ) (entries : List (ℕ × X)) (v : ℕ) (x : X)
    → lookup (nat_eq k) (entries ++ (v, x) ∷ []) ≡ option_or (lookup (nat_eq k) entries) (cond (nat_eq k v) (Some x) None)
lookup-push k [] v x = refl
lookup-push k (e ∷ entries) v x = pushed (nat_eq k e.0) e.1 (lookup (nat_eq k) entries) (lookup (nat_eq k) (entries ++ (v, x) ∷ [])) _ (lookup-push k entries v x)

-- the first row with a value determines its index
pub first_indexes-new : (indexes : List (ℕ × ℕ)) (rows : List NameRow) (row : NameRow) (n : ℕ) → n ≡ length rows
    → ShowsFirstIndexes indexes rows → ShowsFirstIndexes (indexes ++ (row.value, n) ∷ []) (rows ++ row ∷ [])
first_indexes-new indexes rows row n e shows = λ k.
    lookup-push k indexes row.value n
    ∙ ap (λ o. option_or o (cond (nat_eq k row.value) (Some n) None)) (shows k)
    ∙ ap (λ m. option_or (index_from k 0 rows) (cond (nat_eq k row.value) (Some m) None)) (e ∙ sym (zero-add (length rows)))
    ∙ sym (index_from-push k 0 rows row)

-- nothing is not something
pub none_is_not_some : {X : Type 0} {x : X} → None ≡ Some x → ⊥
none_is_not_some e = cc

-- a second choice that is not taken
untaken : {X : Type 0} (o : Option X) (b : Bool) (p x : X) → (b ≡ true → o ≡ Some p) → option_or o (cond b (Some x) None) ≡ o
untaken (Some y) b p x h = refl
untaken None false p x h = refl
untaken None true p x h = absurd (none_is_not_some (h refl))

-- further rows with a value do not change its index
pub first_indexes-known : (indexes : List (ℕ × ℕ)) (rows : List NameRow) (row : NameRow) (position : ℕ) → lookup (nat_eq row.value) indexes ≡ Some position
    → ShowsFirstIndexes indexes rows → ShowsFirstIndexes indexes (rows ++ row ∷ [])
first_indexes-known indexes rows row position known shows = λ k.
    shows k
    ∙ sym (untaken (index_from k 0 rows) (nat_eq k row.value) position (0 + length rows)
    (λ same. ap (λ v. index_from v 0 rows) (eqb-true k row.value same) ∙ sym (shows row.value) ∙ known))
    ∙ sym (index_from-push k 0 rows row)

-- if all rows have a property, and one more has it, all with that one have it
pub list_all-push : {X : Type 0} (p : X → Bool) (xs : List X) (x : X) → list_all p xs ≡ true → p x ≡ true → list_all p (xs ++ x ∷ []) ≡ true
list_all-push p xs x all last = rw (list_all-append p xs (x ∷ [])) (search (rules, all, last))

-- a name that is inserted in the map is a row after the others
pub name_rows-insert : {S : Type 0} (m : IndexMap (String Global) ℕ S) (kept : String Global) (row : NameRow)
    → string_bytes kept ≡ row.name → row_value (name_rows m.entries) row.name ≡ None
    → name_rows (insert_entry string_eq m.entries kept row.value) ≡ name_rows m.entries ++ row ∷ []
name_rows-insert m kept row same absent =
    ap name_rows (insert_entry-new string_eq m kept row.value (row_value-name_rows (string_bytes kept) m.entries ∙ ap (row_value (name_rows m.entries)) same ∙ absent))
    ∙ map-append (λ e. record { name = string_bytes e.0; value = e.1 }) m.entries ((kept, row.value) ∷ [])
    ∙ ap (λ n. name_rows m.entries ++ record { name = n; value = row.value } ∷ []) same

-- a number that is inserted in a map without it is an entry after the others
pub entries-insert : {S : Type 0} (m : IndexMap ℕ ℕ S) (k v : ℕ) → lookup (nat_eq k) m.entries ≡ None → insert_entry nat_eq m.entries k v ≡ m.entries ++ (k, v) ∷ []
entries-insert m k v absent = insert_entry-new nat_eq m k v absent

-- the name of a row that can be added is new
addable_name : (o : Option ℕ) (agrees keysym : Bool) → (not (is_some o) && agrees && keysym) ≡ true → o ≡ None
addable_name None agrees keysym h = refl
addable_name (Some v) agrees keysym h = absurd (true≢false (sym h))

-- no row has the name of a row that can be added
pub addable_is_new : (rows : List NameRow) (row : NameRow) → is_addable rows row ≡ true → row_value rows row.name ≡ None
addable_is_new rows row h = addable_name (row_value rows row.name) (agrees_with_form row) (is_keysym row.value) h

-- the name of such a row writes no other keysym
addable_form : (new agrees keysym : Bool) → (new && agrees && keysym) ≡ true → agrees ≡ true
addable_form true true keysym h = refl
addable_form true false keysym h = h
addable_form false agrees keysym h = absurd (true≢false (sym h))

-- a row that can be added agrees with the form of its name, if it has one
pub addable_agrees : (rows : List NameRow) (row : NameRow) → is_addable rows row ≡ true → agrees_with_form row ≡ true
addable_agrees rows row h = addable_form (not (is_some (row_value rows row.name))) (agrees_with_form row) (is_keysym row.value) h

-- the value of such a row is a keysym
last_of_three : (new agrees keysym : Bool) → (new && agrees && keysym) ≡ true → keysym ≡ true
last_of_three true true keysym h = h
last_of_three true false keysym h = absurd (true≢false (sym h))
last_of_three false agrees keysym h = absurd (true≢false (sym h))

-- the value of a row that can be added is a keysym
pub addable_is_keysym : (rows : List NameRow) (row : NameRow) → is_addable rows row ≡ true → row.value ≤ max_keysym
addable_is_keysym rows row h = leb-true row.value max_keysym (last_of_three (not (is_some (row_value rows row.name))) (agrees_with_form row) (is_keysym row.value) h)

-- the first of rows that can be added can be added
both_parts : (a b : Bool) → (a && b) ≡ true → (a ≡ true) × (b ≡ true)
both_parts true b h = (refl, h)
both_parts false b h = absurd (true≢false (sym h))

-- if rows can be added one after another, the first can be, and then the others
pub addable_first : (rows : List NameRow) (row : NameRow) (others : List NameRow) → are_addable rows (row ∷ others) ≡ true
    → (is_addable rows row ≡ true) × (are_addable (rows ++ row ∷ []) others ≡ true)
addable_first rows row others h = both_parts (is_addable rows row) (are_addable (rows ++ row ∷ []) others) h

-- names are equal if both columns are
pub same_names : {ns ms : List NameRow} {cs ds : List CharacterRow} → ns ≡ ms → cs ≡ ds
    → ◌≡◌ {A = KeysymNames} (record { names = ns; characters = cs }) (record { names = ms; characters = ds })
same_names {ns} {ms} {cs} {ds} e f = ap (λ n. record { names = n; characters = cs }) e ∙ ap (λ x. record { names = ms; characters = x }) f

-- what `get` found in a map is in it
pub known_index : (k : ℕ) (indexes : List (ℕ × ℕ)) (found : Option (Bor ℕ)) → option_copied found ≡ lookup (nat_eq k) indexes → is_some found ≡ true
    → (position : ℕ) × (lookup (nat_eq k) indexes ≡ Some position)
known_index k indexes None e h = absurd (true≢false (sym h))
known_index k indexes (Some position) e h = (position.now, sym e)

-- there are as many rows as entries
pub length-name_rows : (entries : List (String Global × ℕ)) → length (name_rows entries) ≡ length entries
length-name_rows entries = length-map entries (λ e. record { name = string_bytes e.0; value = e.1 })

-- a row in a table of the program
abbrev pub listed_row : Bor (List ℕ) × ℕ → NameRow
listed_row r = record { name = r.0.now; value = r.1 }

-- the rows from an index on, and the one there
pub rows_from : (rows : List (Bor (List ℕ) × ℕ)) (i : ℕ) (d : Bor (List ℕ) × ℕ) → i < length rows
    → map listed_row (drop i rows) ≡ listed_row (get_or rows i d) ∷ map listed_row (drop (i + 1) rows)
rows_from rows i d h = ap (map listed_row) (drop-cons rows i d h) ∙ ap (λ n. listed_row (get_or rows i d) ∷ map listed_row (drop n rows)) (sym (add-one i))

-- one turn over rows that can be added after the others: the row of this turn, and the rows that
-- are left
pub record Turn (names : List NameRow) (row : NameRow) (left all : List NameRow) : Type 0 where
  pub keysym : row.value ≤ max_keysym
  pub addable : is_addable names row ≡ true
  pub whole : (names ++ row ∷ []) ++ left ≡ all
  pub others : are_addable (names ++ row ∷ []) left ≡ true

first_turn : (names left all : List NameRow) (row : NameRow) → names ++ row ∷ left ≡ all → are_addable names (row ∷ left) ≡ true → Turn names row left all
first_turn names left all row whole addable =
    let first = addable_first names row left addable in
    record { keysym = addable_is_keysym names row first.0; addable = first.0; whole = append_assoc names (row ∷ []) left ∙ whole; others = first.1 }

-- of rows that can be added, the next one is added, and those after it are left
pub turn : (names : List NameRow) (rows : List (Bor (List ℕ) × ℕ)) (i : ℕ) (d : Bor (List ℕ) × ℕ) → i < length rows
    → names ++ map listed_row (drop i rows) ≡ map listed_row rows → are_addable names (map listed_row (drop i rows)) ≡ true
    → Turn names (listed_row (get_or rows i d)) (map listed_row (drop (i + 1) rows)) (map listed_row rows)
turn names rows i d more whole addable =
    let left = rows_from rows i d more in
    first_turn names _ _ _ (subst (λ r. names ++ r ≡ map listed_row rows) left whole) (subst (λ r. are_addable names r ≡ true) left addable)

-- the equality test of bytes, and equality
bytes_eq-itself : (xs : List ℕ) → bytes_eq xs xs ≡ true
bytes_eq-itself xs = grind (arith, bytes_eq-Decides xs xs)

bytes_eq-same : (xs ys : List ℕ) → bytes_eq xs ys ≡ true → xs ≡ ys
bytes_eq-same xs ys e = grind (arith, bytes_eq-Decides xs ys)

-- a name after the others is found last
pub row_value-push : (n : List ℕ) (rows : List NameRow) (row : NameRow)
    → row_value (rows ++ row ∷ []) n ≡ option_or (row_value rows n) (cond (bytes_eq n row.name) (Some row.value) None)
row_value-push n [] row = refl
row_value-push n (r ∷ rows) row = pushed (bytes_eq n r.name) r.value (row_value rows n) (row_value (rows ++ row ∷ []) n) _ (row_value-push n rows row)

-- and is the last that can be the first name of its value
pub first_name-push : (k : ℕ) (rows : List NameRow) (row : NameRow)
    → first_name (rows ++ row ∷ []) k ≡ option_or (first_name rows k) (cond (nat_eq k row.value) (Some row.name) None)
first_name-push k [] row = refl
first_name-push k (r ∷ rows) row = pushed (nat_eq k r.value) r.name (first_name rows k) (first_name (rows ++ row ∷ []) k) _ (first_name-push k rows row)

-- a new name does not change the first names
pub first_names-push : (rows : List NameRow) (row : NameRow) → row_value rows row.name ≡ None → FirstNamesLookUp rows → FirstNamesLookUp (rows ++ row ∷ [])
first_names-push rows row new looks = λ k n e. row_value-push n rows row ∙ by k n (first_name rows k) refl (sym (first_name-push k rows row) ∙ e)
  where
    last : (k : ℕ) (n : List ℕ) (b : Bool) → nat_eq k row.value ≡ b → cond b (Some row.name) None ≡ Some n → option_or (row_value rows n) (cond (bytes_eq n row.name) (Some row.value) None) ≡ Some k
    last k n false same e = absurd (none_is_not_some e)
    last k n true same e =
        let name : row.name ≡ n = cc in
        let value : k ≡ row.value = eqb-true k row.value same in
        subst (λ m. option_or (row_value rows m) (cond (bytes_eq m row.name) (Some row.value) None) ≡ Some k) name
        (ap (λ o. option_or o (cond (bytes_eq row.name row.name) (Some row.value) None)) new ∙ ap (λ b. cond b (Some row.value) None) (bytes_eq-itself row.name) ∙ ap Some (sym value))

    by : (k : ℕ) (n : List ℕ) (o : Option (List ℕ)) → first_name rows k ≡ o → option_or o (cond (nat_eq k row.value) (Some row.name) None) ≡ Some n
        → option_or (row_value rows n) (cond (bytes_eq n row.name) (Some row.value) None) ≡ Some k
    by k n None f e = last k n (nat_eq k row.value) refl e
    by k n (Some m) f e =
        let name : m ≡ n = cc in
        ap (λ o. option_or o (cond (bytes_eq n row.name) (Some row.value) None)) (looks k n (f ∙ ap Some name))

-- the row at the index of the first row with a value has the first name of the value
pub record NamedAt (k at position : ℕ) (rows : List NameRow) : Type 0 where
  pub index : ℕ
  pub row : NameRow
  pub there : position ≡ at + index
  pub found : slice_get rows index ≡ Some row
  pub first : first_name rows k ≡ Some row.name

-- the first index of a keysym is that of its first name
pub named_index : (k at : ℕ) (rows : List NameRow) (position : ℕ) → index_from k at rows ≡ Some position → NamedAt k at position rows
named_index k at [] position e = absurd (none_is_not_some e)
named_index k at (row ∷ rows) position e = by (nat_eq k row.value) refl e (named_index k (at + 1) rows position)
  where
    by : (b : Bool) → nat_eq k row.value ≡ b → cond b (Some at) (index_from k (at + 1) rows) ≡ Some position → (index_from k (at + 1) rows ≡ Some position → NamedAt k (at + 1) position rows)
        → NamedAt k at position (row ∷ rows)
    by true same e others =
        let here : at ≡ position = cc in
        record { index = 0; row = row; there = omega (arith, here); found = refl; first = ap (λ b. cond b (Some row.name) (first_name rows k)) same }
    by false same e others =
        let rest = others e in
        record { index = suc rest.index; row = rest.row; there = omega (arith, rest.there); found = rest.found; first = ap (λ b. cond b (Some row.name) (first_name rows k)) same ∙ rest.first }

-- a value without a row has no name
pub no_index : (k at : ℕ) (rows : List NameRow) → index_from k at rows ≡ None → first_name rows k ≡ None
no_index k at [] e = refl
no_index k at (row ∷ rows) e = by (nat_eq k row.value) refl e (no_index k (at + 1) rows)
  where
    by : (b : Bool) → nat_eq k row.value ≡ b → cond b (Some at) (index_from k (at + 1) rows) ≡ None → (index_from k (at + 1) rows ≡ None → first_name rows k ≡ None) → first_name (row ∷ rows) k ≡ None
    by true same e others = absurd (none_is_not_some (sym e))
    by false same e others = ap (λ b. cond b (Some row.name) (first_name rows k)) same ∙ others e

-- the first name by the index of its row
pub first_name-at_index : (k position : ℕ) (rows : List NameRow) → index_from k 0 rows ≡ Some position → option_map (λ (row : NameRow). row.name) (slice_get rows position) ≡ first_name rows k
first_name-at_index k position rows e =
    let named = named_index k 0 rows position e in
    let same : position ≡ named.index = omega (arith, named.there) in
    ap (λ i. option_map (λ (row : NameRow). row.name) (slice_get rows i)) same ∙ ap (option_map (λ (row : NameRow). row.name)) named.found ∙ sym named.first

-- what `get_index` found in a map is the name of that row
pub name-at : (entries : List (String Global × ℕ)) (position : ℕ)
    → option_map (λ (row : NameRow). row.name) (slice_get (name_rows entries) position) ≡ option_map (λ e. string_bytes e.0) (slice_get entries position)
name-at entries position = ap (option_map (λ (row : NameRow). row.name)) (slice_get-map (λ e. record { name = string_bytes e.0; value = e.1 }) entries position) ∙ named (slice_get entries position)
  where
    named : (o : Option (String Global × ℕ)) → option_map (λ (row : NameRow). row.name) (option_map (λ e. record { name = string_bytes e.0; value = e.1 }) o) ≡ option_map (λ e. string_bytes e.0) o
    named None = refl
    named (Some e) = refl

-- a row whose name writes a keysym has that keysym as its value
pub row_agrees : (rows : List NameRow) (n : List ℕ) (v k : ℕ) → list_all agrees_with_form rows ≡ true → row_value rows n ≡ Some v → form_value n ≡ Some k → v ≡ k
row_agrees [] n v k all found form = absurd (none_is_not_some found)
row_agrees (row ∷ rows) n v k all found form = by (bytes_eq n row.name) refl found (λ there. row_agrees rows n v k (and_parts (agrees_with_form row) (list_all agrees_with_form rows) all).1 there form)
  where
    parts : (agrees_with_form row ≡ true) × (list_all agrees_with_form rows ≡ true)
    parts = and_parts (agrees_with_form row) (list_all agrees_with_form rows) all

    by : (b : Bool) → bytes_eq n row.name ≡ b → cond b (Some row.value) (row_value rows n) ≡ Some v → (row_value rows n ≡ Some v → v ≡ k) → v ≡ k
    by true same found others =
        let name : n ≡ row.name = bytes_eq-same n row.name same in
        let test : option_map_or (λ w. w == row.value) (Some k) true ≡ true = subst (λ o. option_map_or (λ w. w == row.value) o true ≡ true) (ap form_value (sym name) ∙ form) parts.0 in
        let value : row.value ≡ v = cc in
        sym value ∙ sym (eqb-true k row.value test)
    by false same found others = others found

-- so a form of a keysym looks up as that keysym, in the table or by itself
pub form_looks_up : (names : KeysymNames) (n : List ℕ) (k : ℕ) → list_all agrees_with_form names.names ≡ true → form_value n ≡ Some k → value names n ≡ Some k
form_looks_up names n k all form = by (row_value names.names n) refl
  where
    by : (o : Option ℕ) → row_value names.names n ≡ o → option_or (row_value names.names n) (form_value n) ≡ Some k
    by None e = ap (λ o. option_or o (form_value n)) e ∙ form
    by (Some v) e = ap (λ o. option_or o (form_value n)) e ∙ ap Some (row_agrees names.names n v k all e form)

-- a name without a form has the value in the table
pub value-without_form : (names : KeysymNames) (n : List ℕ) → form_value n ≡ None → value names n ≡ row_value names.names n
value-without_form names n form = ap (option_or (row_value names.names n)) form ∙ by (row_value names.names n)
  where
    by : (o : Option ℕ) → option_or o None ≡ o
    by None = refl
    by (Some v) = refl

-- a name in the table has the value in the table
pub row_looks_up : (names : KeysymNames) (n : List ℕ) (k : ℕ) → row_value names.names n ≡ Some k → value names n ≡ Some k
row_looks_up names n k e = ap (λ o. option_or o (form_value n)) e

-- so a first name that was found looks up as its value
pub name_looks_up : (names : KeysymNames) (k : ℕ) (found : Option (Bor (List ℕ))) → FirstNamesLookUp names.names → option_copied found ≡ first_name names.names k
    → IfSome found (λ name. value names name.now ≡ Some k)
name_looks_up names k None looks e = tt
name_looks_up names k (Some name) looks e = row_looks_up names name.now k (looks k name.now (sym e))

-- a table with one more name is a table
pub table_with_name : {indexes after : List (ℕ × ℕ)} {names grown : List NameRow} {characters : List CharacterRow} (row : NameRow)
    → IsTable indexes names characters → row_value names row.name ≡ None → agrees_with_form row ≡ true → grown ≡ names ++ row ∷ []
    → ShowsFirstIndexes after (names ++ row ∷ []) → IsTable after grown characters
table_with_name {indexes} {after} {names} {grown} {characters} row table new agrees e shows = record {
  first_indexes = subst (ShowsFirstIndexes after) (sym e) shows;
  agree = ap (list_all agrees_with_form) e ∙ list_all-push agrees_with_form names row table.agree agrees;
  first_names = subst FirstNamesLookUp (sym e) (first_names-push names row new table.first_names);
  each_first = table.each_first;
  keysyms = table.keysyms;
}
