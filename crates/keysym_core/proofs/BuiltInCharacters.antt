-- The characters of the built-in names, and their index by character.
use Rattle.std.proofs.Common.{◌≡◌, ◌≤◌, ◌<◌, ◌+◌, ℕ, zero, suc, Bool, true, false, cond, not, ◌&&◌, ◌||◌, ◌==◌, List, [], ◌∷◌, length, Some, None, refl, sym, ap, ◌∙◌, arith, subst, nat_eq, nat_le, slice_get, get_or, filter, eqb-true, eq-eqb}
use Rattle.std.proofs.lemmas.Bool.{true≢false, and_parts, leb-true}
use Rattle.std.proofs.lemmas.List.Sorted.{IsNonDecreasingBy-from_all_adjacent}
use Rattle.std.specs.List.{list_any, list_all}
use Rattle.std.specs.List.Sorted.{IsNonDecreasingBy}
use Rattle.std.specs.Option.{option_map_or}
use Rattle.keysym_core.specs.Keysym.{max_keysym, is_keysym}
use Rattle.keysym_core.specs.Names.{CharacterRow, first_character}
use Rattle.keysym_core.specs.GivenCharacters.{is_fixed, is_entry, is_pair, gives, counts, rank, IsEachFirst, ArePairsOfKeysyms, HasCountingRows}
use Rattle.keysym_core.specs.BuiltIn.{built_in_characters}
use Rattle.keysym_core.specs.declared.built_in_characters.TheConstants.{BY_CHARACTER}
use Rattle.keysym_core.proofs.Characters.{list_any-counts}
use Rattle.keysym_core.proofs.Placed.{if_passes, some_at, own_place}
use Rattle.keysym_core.proofs.BuiltInFacts.{character_place, characters_are_placed}
use Rattle.keysym_core.proofs.BuiltInFound.{character_at_place}

-- ---- no two rows have the same keysym

given_is_entry : (c k : ℕ) (rows : List CharacterRow) → gives rows c k ≡ true → list_any (is_entry c k) rows ≡ true
given_is_entry c k [] h = absurd (true≢false (sym h))
given_is_entry c k (row ∷ rows) h = by (nat_eq k row.value) refl (given_is_entry c k rows) h
  where
    own : nat_eq k row.value ≡ true → (row.character == c) ≡ true → (is_entry c k row || list_any (is_entry c k) rows) ≡ true
    own e same = ap (λ b. (b && row.value == k) || list_any (is_entry c k) rows) same ∙ ap (λ b. b || list_any (is_entry c k) rows) (eq-eqb row.value k (sym (eqb-true k row.value e)))

    or-true : (a b : Bool) → b ≡ true → (a || b) ≡ true
    or-true true b h = refl
    or-true false b h = h

    by : (b : Bool) → nat_eq k row.value ≡ b → (gives rows c k ≡ true → list_any (is_entry c k) rows ≡ true)
        → option_map_or (λ d. d == c) (cond b (Some row.character) (first_character rows k)) false ≡ true → (is_entry c k row || list_any (is_entry c k) rows) ≡ true
    by true e others h = own e h
    by false e others h = or-true (is_entry c k row) (list_any (is_entry c k) rows) (others h)

-- two tests of which each passes if the other does
same_tests : (a b : Bool) → (a ≡ true → b ≡ true) → (b ≡ true → a ≡ true) → a ≡ b
same_tests true b f g = sym (f refl)
same_tests false true f g = absurd (true≢false (sym (g refl)))
same_tests false false f g = refl

entry_is_given : (c k : ℕ) → list_any (is_entry c k) built_in_characters ≡ true → gives built_in_characters c k ≡ true
entry_is_given c k h =
    let found = some_at (is_entry c k) built_in_characters h in
    let parts = and_parts (found.row.character == c) (found.row.value == k) found.passes in
    let keysym : found.row.value ≡ k = eqb-true found.row.value k parts.1 in
    let place : character_place k ≡ found.index = ap character_place (sym keysym) ∙ own_place (λ (r : CharacterRow). character_place r.value) built_in_characters found.index found.row characters_are_placed found.there in
    let passes : nat_eq k found.row.value ≡ true = eq-eqb k found.row.value (sym keysym) in
    ap (λ o. option_map_or (λ d. d == c) o false)
    (character_at_place k
    ∙ ap (λ i. if_passes (λ (r : CharacterRow). nat_eq k r.value) (λ r. r.character) (slice_get built_in_characters i)) place
    ∙ ap (if_passes (λ (r : CharacterRow). nat_eq k r.value) (λ r. r.character)) found.there
    ∙ ap (λ b. cond b (Some found.row.character) None) passes)
    ∙ parts.0

pub each_first : IsEachFirst built_in_characters
each_first c k = same_tests (list_any (is_entry c k) built_in_characters) (gives built_in_characters c k) (entry_is_given c k) (given_is_entry c k built_in_characters)

-- ---- the index has the rows that are used for texts

pairs_are_rows : list_all (λ pair. list_any (is_entry pair.1 pair.0) (filter counts built_in_characters)) BY_CHARACTER ≡ true
unfolding built_in_characters
pairs_are_rows = refl

rows_are_pairs : list_all (λ (r : CharacterRow). list_any (is_pair r.character r.value) BY_CHARACTER) (filter counts built_in_characters) ≡ true
unfolding built_in_characters
rows_are_pairs = refl

pair_is_row : (c k : ℕ) (pairs : List (ℕ × ℕ)) (rows : List CharacterRow) → list_all (λ pair. list_any (is_entry pair.1 pair.0) rows) pairs ≡ true
    → list_any (is_pair c k) pairs ≡ true → list_any (is_entry c k) rows ≡ true
pair_is_row c k [] rows all h = absurd (true≢false (sym h))
pair_is_row c k (pair ∷ pairs) rows all h = by (is_pair c k pair) refl h (pair_is_row c k pairs rows parts.1)
  where
    parts : (list_any (is_entry pair.1 pair.0) rows ≡ true) × (list_all (λ pair. list_any (is_entry pair.1 pair.0) rows) pairs ≡ true)
    parts = and_parts (list_any (is_entry pair.1 pair.0) rows) (list_all (λ pair. list_any (is_entry pair.1 pair.0) rows) pairs) all

    by : (b : Bool) → is_pair c k pair ≡ b → (b || list_any (is_pair c k) pairs) ≡ true → (list_any (is_pair c k) pairs ≡ true → list_any (is_entry c k) rows ≡ true)
        → list_any (is_entry c k) rows ≡ true
    by true e h others =
        let same = and_parts (pair.1 == c) (pair.0 == k) e in
        subst (λ v. list_any (is_entry c v) rows ≡ true) (eqb-true pair.0 k same.1) (subst (λ v. list_any (is_entry v pair.0) rows ≡ true) (eqb-true pair.1 c same.0) parts.0)
    by false e h others = others h

row_is_pair : (c k : ℕ) (rows : List CharacterRow) (pairs : List (ℕ × ℕ)) → list_all (λ (r : CharacterRow). list_any (is_pair r.character r.value) pairs) rows ≡ true
    → list_any (is_entry c k) rows ≡ true → list_any (is_pair c k) pairs ≡ true
row_is_pair c k [] pairs all h = absurd (true≢false (sym h))
row_is_pair c k (row ∷ rows) pairs all h = by (is_entry c k row) refl h (row_is_pair c k rows pairs parts.1)
  where
    parts : (list_any (is_pair row.character row.value) pairs ≡ true) × (list_all (λ (r : CharacterRow). list_any (is_pair r.character r.value) pairs) rows ≡ true)
    parts = and_parts (list_any (is_pair row.character row.value) pairs) (list_all (λ (r : CharacterRow). list_any (is_pair r.character r.value) pairs) rows) all

    by : (b : Bool) → is_entry c k row ≡ b → (b || list_any (is_entry c k) rows) ≡ true → (list_any (is_entry c k) rows ≡ true → list_any (is_pair c k) pairs ≡ true)
        → list_any (is_pair c k) pairs ≡ true
    by true e h others =
        let same = and_parts (row.character == c) (row.value == k) e in
        subst (λ v. list_any (is_pair c v) pairs ≡ true) (eqb-true row.value k same.1) (subst (λ v. list_any (is_pair v row.value) pairs ≡ true) (eqb-true row.character c same.0) parts.0)
    by false e h others = others h

pub index_counts : HasCountingRows BY_CHARACTER built_in_characters
index_counts c k =
    same_tests (list_any (is_pair c k) BY_CHARACTER) (list_any (is_entry c k) (filter counts built_in_characters))
    (pair_is_row c k BY_CHARACTER (filter counts built_in_characters) pairs_are_rows)
    (row_is_pair c k (filter counts built_in_characters) BY_CHARACTER rows_are_pairs)
    ∙ list_any-counts c k built_in_characters
    ∙ ap (λ b. not (is_fixed k) && b) (each_first c k)

-- ---- its pairs are of keysyms, and in order

keysyms_of_pairs : list_all (λ (pair : ℕ × ℕ). is_keysym pair.0) BY_CHARACTER ≡ true
keysyms_of_pairs = refl

pair_of_keysym : (c k : ℕ) (pairs : List (ℕ × ℕ)) → list_all (λ (pair : ℕ × ℕ). is_keysym pair.0) pairs ≡ true → list_any (is_pair c k) pairs ≡ true → k ≤ max_keysym
pair_of_keysym c k [] all h = absurd (true≢false (sym h))
pair_of_keysym c k (pair ∷ pairs) all h = by (is_pair c k pair) refl h (pair_of_keysym c k pairs parts.1)
  where
    parts : (is_keysym pair.0 ≡ true) × (list_all (λ (pair : ℕ × ℕ). is_keysym pair.0) pairs ≡ true)
    parts = and_parts (is_keysym pair.0) (list_all (λ (pair : ℕ × ℕ). is_keysym pair.0) pairs) all

    by : (b : Bool) → is_pair c k pair ≡ b → (b || list_any (is_pair c k) pairs) ≡ true → (list_any (is_pair c k) pairs ≡ true → k ≤ max_keysym) → k ≤ max_keysym
    by true e h others = subst (λ v. v ≤ max_keysym) (eqb-true pair.0 k (and_parts (pair.1 == c) (pair.0 == k) e).1) (leb-true pair.0 max_keysym parts.0)
    by false e h others = others h

pub index_of_keysyms : ArePairsOfKeysyms BY_CHARACTER
index_of_keysyms c k h = pair_of_keysym c k BY_CHARACTER keysyms_of_pairs h

-- each rank is at most the next
abbrev ranks_rise : ℕ → List (ℕ × ℕ) → Bool
ranks_rise low [] = true
ranks_rise low (pair ∷ pairs) = nat_le low (rank pair) && ranks_rise (rank pair) pairs

index_rises : ranks_rise 0 BY_CHARACTER ≡ true
index_rises = refl

adjacent : (low : ℕ) (pairs : List (ℕ × ℕ)) (i : ℕ) (d : ℕ × ℕ) → ranks_rise low pairs ≡ true → suc i < length pairs → rank (get_or pairs i d) ≤ rank (get_or pairs (suc i) d)
adjacent low [] i d h less = absurd (omega (arith, less))
adjacent low (pair ∷ []) i d h less = absurd (omega (arith, less))
adjacent low (pair ∷ next ∷ pairs) zero d h less =
    let rest = (and_parts (nat_le low (rank pair)) (ranks_rise (rank pair) (next ∷ pairs)) h).1 in
    leb-true (rank pair) (rank next) (and_parts (nat_le (rank pair) (rank next)) (ranks_rise (rank next) pairs) rest).0
adjacent low (pair ∷ next ∷ pairs) (suc i) d h less =
    adjacent (rank pair) (next ∷ pairs) i d (and_parts (nat_le low (rank pair)) (ranks_rise (rank pair) (next ∷ pairs)) h).1 (omega (arith, less))

pub index_is_sorted : IsNonDecreasingBy rank BY_CHARACTER
index_is_sorted =
    IsNonDecreasingBy-from_all_adjacent rank BY_CHARACTER
    (λ i d less.
    let next : suc i ≡ i + 1 = omega arith in
    subst (λ j. rank (get_or BY_CHARACTER i d) ≤ rank (get_or BY_CHARACTER j d)) next (adjacent 0 BY_CHARACTER i d index_rises (omega (arith, less))))
