-- What is true of the data of the built-in names: each fact is computed.
use Rattle.std.proofs.Common.{◌≡◌, ℕ, true, List, length, drop, refl, nat_eq, nat_lt}
use Rattle.std.specs.List.{list_all}
use Rattle.keysym_core.specs.Keysym.{is_keysym}
use Rattle.keysym_core.specs.Names.{NameRow, CharacterRow}
use Rattle.keysym_core.specs.Table.{agrees_with_form}
use Rattle.keysym_core.specs.Places.{name_hash, keysym_hash, index_of}
use Rattle.keysym_core.specs.BuiltIn.{built_in_rows, built_in_characters}
use Rattle.keysym_core.specs.declared.built_in_rows.TheConstants.{TEXT, STARTS, KEYSYMS}
use Rattle.keysym_core.specs.declared.built_in_places.TheConstants.{NAME_SHIFTS, NAME_INDEXES, KEYSYM_SHIFTS, KEYSYM_INDEXES, CHARACTER_SHIFTS, CHARACTER_INDEXES}
use Rattle.keysym_core.proofs.Placed.{are_placed, never}
use Rattle.keysym_core.proofs.RowsFrom.{rises}

pub starts_rise : rises 0 (drop 1 STARTS) (length TEXT.now) ≡ true
starts_rise = refl

pub lengths : length (drop 1 STARTS) ≡ length KEYSYMS
lengths = refl

pub text_ascii : list_all (λ b. nat_lt b 128) TEXT.now ≡ true
text_ascii = refl

pub are_keysyms : list_all is_keysym KEYSYMS ≡ true
are_keysyms = refl

pub names_agree : list_all agrees_with_form built_in_rows ≡ true
unfolding built_in_rows
names_agree = refl

-- where the row of each key is
abbrev pub name_place : List ℕ → ℕ
name_place name = index_of NAME_SHIFTS NAME_INDEXES (name_hash name)

abbrev pub keysym_place : ℕ → ℕ
keysym_place keysym = index_of KEYSYM_SHIFTS KEYSYM_INDEXES (keysym_hash keysym)

abbrev pub character_place : ℕ → ℕ
character_place keysym = index_of CHARACTER_SHIFTS CHARACTER_INDEXES (keysym_hash keysym)

pub names_are_placed : are_placed (λ (r : NameRow). name_place r.name) never built_in_rows 0 built_in_rows ≡ true
unfolding built_in_rows
names_are_placed = refl

pub keysyms_are_placed : are_placed (λ (r : NameRow). keysym_place r.value) (λ (r s : NameRow). nat_eq r.value s.value) built_in_rows 0 built_in_rows ≡ true
unfolding built_in_rows
keysyms_are_placed = refl

pub characters_are_placed : are_placed (λ (r : CharacterRow). character_place r.value) never built_in_characters 0 built_in_characters ≡ true
unfolding built_in_characters
characters_are_placed = refl
